-- One record of a rule, both ways: the entry read where an entry's record stands is that entry, and the bytes of a record without
-- fault are those of the entry read there. Assumes nothing.
use Prim.Native.Nat.{ℕ, zero, suc, ◌+◌, ◌*◌, ◌≤◌, ◌<◌}
use native.Mathlib.Nat.{add_assoc}
use native.Mathlib.Omega.{arith}
use mathlib.Core.Path.{◌≡◌, refl, ap, sym, ◌∙◌}
use mathlib.Core.Bool.{cond}
use mathlib.Core.List.{List, ◌++◌}
use lib.Dec.{leb}
use lib.ListN.{length, take, drop, length-append}
use Rattle.numbers.specs.Bytes.{number_at}
use Rattle.terms.specs.Frame.{kind_at}
use Rattle.terms.specs.Kinds.{row_of, rule_length}
use Rattle.entry.specs.Entry.{entry_of, entry_at}
use Rattle.entry.specs.declared.entry.Entry.{Entry}
use Rattle.numbers.specs.Bytes.{two_bytes, Bytes}
use Rattle.grammar.specs.Rules.{body_of, record_of, WellFormed}
use Rattle.grammar.specs.When.{Misdirected}
use Rattle.numbers.proofs.TwoBytes.{number-back, number-after, number-shift, number-at, bytes_back, bytes-more}
use Rattle.grammar.proofs.Frame.{Sound}
use Rattle.terms.proofs.Rows.{row-measured}

-- Two entries with the same numbers are one.
entry-same : (e : Entry) (kind a b : ℕ) → kind ≡ e.kind → a ≡ e.a → b ≡ e.b → record { kind = kind; a = a; b = b } ≡ e
entry-same e kind a b p q r = rw (p, q, r)

-- ---- the bytes of an entry

body-length : (arguments : ℕ) (e : Entry) → arguments ≤ 2 → length (body_of arguments e) ≡ 2 * arguments
unfolding body_of two_bytes
body-length zero e h = refl
body-length (suc zero) e h = refl
body-length (suc (suc zero)) e h = refl
body-length (suc (suc (suc n))) e h = absurd (omega arith)

-- An entry's record has the two bytes of its length, and as many as that says.
pub record-length : (e : Entry) → (rule_length e.kind ≡ 0 → ⊥) → length (record_of e) ≡ 2 + rule_length e.kind
unfolding record_of two_bytes
record-length e n =
    let m = row-measured e.kind n in omega (arith, body-length (row_of e.kind).arguments e m.few, m.long)

body-a : (arguments : ℕ) (e : Entry) (rest : List ℕ) → arguments ≤ 2 → (arguments < 1 → e.a ≡ 0)
    → cond (leb 1 arguments) (number_at (body_of arguments e ++ rest) 0) 0 ≡ e.a
unfolding body_of two_bytes
body-a zero e rest h z = sym (z (omega arith))
body-a (suc zero) e rest h z = number-back e.a rest
body-a (suc (suc zero)) e rest h z = number-back e.a (two_bytes e.b ++ rest)
body-a (suc (suc (suc n))) e rest h z = absurd (omega arith)

body-b : (arguments : ℕ) (e : Entry) (rest : List ℕ) → arguments ≤ 2 → (arguments < 2 → e.b ≡ 0)
    → cond (leb 2 arguments) (number_at (body_of arguments e ++ rest) 2) 0 ≡ e.b
unfolding body_of two_bytes
body-b zero e rest h z = sym (z (omega arith))
body-b (suc zero) e rest h z = sym (z (omega arith))
body-b (suc (suc zero)) e rest h z = number-after e.a (two_bytes e.b ++ rest) 0 ∙ number-back e.b rest
body-b (suc (suc (suc n))) e rest h z = absurd (omega arith)

-- ---- the record of a well-formed entry, where it stands in a list

module _ (pre rest : List ℕ) (own : ℕ) (e : Entry) (formed : WellFormed own e) where
  abbrev whole : List ℕ
  whole = pre ++ (record_of e ++ rest)

  -- The length read there is that of the entry's kind.
  pub read_length : number_at whole (length pre) ≡ rule_length e.kind
  unfolding record_of two_bytes
  read_length = number-at pre (record_of e ++ rest) (length pre) 0 (omega arith) ∙ number-back (rule_length e.kind) _

  -- The kind read there is the entry's.
  read-kind : kind_at whole (length pre) ≡ e.kind
  unfolding record_of two_bytes
  read-kind = number-at pre (record_of e ++ rest) _ 2 refl ∙ number-after (rule_length e.kind) _ 0 ∙ number-back e.kind _

  read-body : (k : ℕ) → number_at whole (length pre + (4 + k)) ≡ number_at (body_of (row_of e.kind).arguments e ++ rest) k
  unfolding record_of two_bytes
  read-body k = number-at pre (record_of e ++ rest) _ (4 + k) refl ∙ number-shift (two_bytes (rule_length e.kind) ++ two_bytes e.kind) _ k

  whole_length : length whole ≡ length pre + (2 + rule_length e.kind + length rest)
  whole_length = rw (length-append pre, length-append (record_of e), record-length e formed.known)

  -- The entry read where a well-formed entry's record stands is that entry.
  pub entry_read : entry_at whole (length pre) ≡ e
  unfolding entry_at entry_of
  entry_read =
      let n = (row_of e.kind).arguments in
      let few = (row-measured e.kind formed.known).few in
      rw (read-kind, read-body 0, read-body 2)
      (entry-same e _ _ _ refl (body-a n e rest few formed.no_a) (body-b n e rest few formed.no_b))

  -- The record of a well-formed entry has no fault.
  pub record-sound : Sound rule_length whole (length pre)
  record-sound =
      let long = (row-measured e.kind formed.known).long in
      record {
        left = omega (arith, long, whole_length);
        known = rw read-kind formed.known;
        right = rw (read-kind, read_length);
        fits = rw read_length (omega (arith, whole_length));
      }

  -- The record of a well-formed entry is directed as the entry is.
  pub record-directed : Misdirected (row_of (kind_at whole (length pre))) own (entry_at whole (length pre)) → ⊥
  record-directed = rw (read-kind, entry_read) formed.directed

-- ---- the bytes of a record without fault

module _ (s : List ℕ) (at : ℕ) (bytes : Bytes s) where
  body_back : (kind arguments : ℕ) → arguments ≤ 2 → at + 4 + 2 * arguments ≤ length s
      → take (2 * arguments) (drop (at + 4) s)
      ≡ body_of arguments (record {
        kind = kind;
        a = cond (leb 1 arguments) (number_at s (at + 4)) 0;
        b = cond (leb 2 arguments) (number_at s (at + 6)) 0;
      })
  unfolding body_of
  body_back kind zero few fits = refl
  body_back kind (suc zero) few fits = bytes-more s (at + 4) 0 bytes (omega arith)
  body_back kind (suc (suc zero)) few fits =
      bytes-more s (at + 4) 2 bytes (omega arith) ∙ rw (add_assoc at 4 2, bytes_back s (at + 6) bytes (omega arith))
  body_back kind (suc (suc (suc n))) few fits = absurd (omega arith)

  after-length : Sound rule_length s at
      → take (number_at s at) (drop (at + 2) s) ≡ two_bytes (kind_at s at) ++ body_of (row_of (kind_at s at)).arguments (entry_at s at)
  unfolding entry_at entry_of
  after-length r =
      let m = row-measured (kind_at s at) r.known in
      let n = (row_of (kind_at s at)).arguments in
      let e : number_at s at ≡ 2 + 2 * n = r.right ∙ m.long in
      rw (e, bytes-more s (at + 2) (2 * n) bytes (omega (arith, r.left)), add_assoc at 2 2)
      (ap (λ (body : List ℕ). two_bytes (kind_at s at) ++ body) (body_back (kind_at s at) n m.few (omega (arith, r.fits, e))))

  -- The bytes of a record without fault are those of the entry read there.
  pub record-back : Sound rule_length s at → take (2 + number_at s at) (drop at s) ≡ record_of (entry_at s at)
  unfolding record_of entry_at entry_of
  record-back r = bytes-more s at (number_at s at) bytes (omega (arith, r.left)) ∙ rw (after-length r, r.right)
