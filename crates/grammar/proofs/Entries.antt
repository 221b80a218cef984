-- What the layers above need of a rule's entries, as laws of `entries_of`, for every list: how many there are, and that each is well
-- formed at its place; from that, the ranges of its kind, its entry numbers and its label. Assumes nothing.
use Prim.Native.Nat.{ℕ, zero, suc, ◌≤◌, ◌<◌}
use native.Mathlib.Omega.{arith}
use native.Mathlib.Decide.{dec_lt}
use mathlib.Core.Path.{◌≡◌, refl, ap, ◌∙◌}
use mathlib.Core.List.{List}
use mathlib.Core.Logic.{inl, inr}
use lib.ListN.{length, get_or}
use borrow.Author.Tests.{lt-leb}
use Rattle.terms.specs.Answer.{count_of, Answer, Accepted, Refused}
use Rattle.terms.specs.Frame.{kind_at, start_of}
use Rattle.terms.specs.Kinds.{row_of, rule_length}
use Rattle.entry.specs.Entry.{entry_of, entry_at}
use Rattle.rules.specs.Rule.{rule_answer, rule_faults}
use Rattle.terms.specs.declared.kind.Numbers.TheVariants.{Entries}
use Rattle.entry.specs.declared.entry.Entry.{Entry}
use Rattle.grammar.specs.Rules.{no_entry, WellFormed, RuleEntries}
use Rattle.grammar.specs.When.{Sized, bad-label, bad-a, bad-b}
use Rattle.grammar.proofs.Decides.{CleanEnd}
use Rattle.grammar.proofs.Frame.{unfaulty-sound}
use Rattle.terms.proofs.Rows.{known-range, kind-label, kind-entries}
use Rattle.grammar.proofs.WhenRule.{fault-0-iff, rule-accepted-iff}
use Rattle.terms.specs.Limits.{entries_most, label_most, rule_most}
use Rattle.rules.specs.Entries.{entries_before, entries_of}
use Rattle.rules.proofs.EntryLaws.{entries-length}
use Rattle.numbers.proofs.Lists.{listed_at}

-- ---- a well-formed entry

module _ (own : ℕ) (e : Entry) (formed : WellFormed own e) where
  -- Its kind is one of 1 to 14.
  pub formed-kind : (1 ≤ e.kind) × (e.kind ≤ 14)
  formed-kind = known-range e.kind formed.known

  -- Where its numbers are entry numbers, they are below its own; 0 stands for a second that it has not.
  pub formed-entries : (row_of e.kind).numbers ≡ Entries → (e.a < own) × (e.b < own)
  formed-entries h =
      let n : own ≤ e.a → ⊥ = λ o. formed.directed (bad-a h o) in
      let a : e.a < own = omega arith in (
        a,
        elim (dec_lt (row_of e.kind).arguments 2) [
          | yes f ↦ omega (arith, formed.no_b f, a)
          | no t ↦ let m : own ≤ e.b → ⊥ = λ o. formed.directed (bad-b h (omega arith) o) in omega arith
        ],
      )

  -- So it is of kinds 3 to 14.
  pub formed-a : 3 ≤ e.kind → e.a < own
  formed-a l = (formed-entries (kind-entries e.kind l formed-kind.1)).0

  pub formed-b : 3 ≤ e.kind → e.b < own
  formed-b l = (formed-entries (kind-entries e.kind l formed-kind.1)).1

  -- Its label is in 1..999, where it has one.
  formed-label : e.kind ≡ 2 → (1 ≤ e.a) × (e.a ≤ label_most)
  formed-label k =
      let h = ap (λ (x : ℕ). (row_of x).numbers) k ∙ kind-label in
      let low : e.a < 1 → ⊥ = λ o. formed.directed (bad-label h (inl o)) in
      let high : label_most < e.a → ⊥ = λ o. formed.directed (bad-label h (inr o)) in (omega arith, omega arith)

module _ (s : List ℕ) where
  -- The entry read at a record without fault is well formed.
  entry-at-formed : (i : ℕ) → rule_faults s i ≡ 0 → WellFormed i (entry_at s (start_of s i))
  unfolding entry_at entry_of
  entry-at-formed i z =
      let f = ((fault-0-iff s i (start_of s i)).0 z).1 in
      record {
        known = (unfaulty-sound rule_length s (start_of s i) f.0).known;
        directed = f.1;
        no_a = λ l. rw (lt-leb 1 (row_of (kind_at s (start_of s i))).arguments l);
        no_b = λ l. rw (lt-leb 2 (row_of (kind_at s (start_of s i))).arguments l);
      }

  -- ---- the entries of the first records

  -- Entry i is the one read at record i.
  pub before_at : (n i : ℕ) → i < n → get_or (entries_before s n) i no_entry ≡ entry_at s (start_of s i)
  before_at n i l = listed_at n _ i no_entry l

  -- ---- the entries of a rule

  -- A rule has as many entries as its answer says: none where it is refused.
  pub entries-count : length (entries_of s) ≡ count_of (rule_answer s)
  unfolding entries_of
  entries-count = entries-length s (count_of (rule_answer s))

  accepted-clean : (a : Answer) → rule_answer s ≡ a → (count_of a ≤ entries_most) × ((i : ℕ) → i < count_of a → rule_faults s i ≡ 0)
  accepted-clean (Accepted n) e = let r = ((rule-accepted-iff s n).0 e).1 in (r.1, r.0.clean)
  accepted-clean (Refused k p) e = (omega arith, λ i l. absurd (omega arith))

  -- A rule has 64 entries or fewer.
  pub entries-few : length (entries_of s) ≤ entries_most
  entries-few = rw entries-count (accepted-clean (rule_answer s) refl).0

  -- An accepted rule has an entry.
  pub entries-some : (n : ℕ) → rule_answer s ≡ Accepted n → 1 ≤ n
  unfolding start_of
  entries-some n e = go n ((rule-accepted-iff s n).0 e).0 ((rule-accepted-iff s n).0 e).1.0 where
    go : (m : ℕ) → Sized rule_most s → CleanEnd (rule_faults s) s m → 1 ≤ m
    go zero sized r = omega (arith, sized.some, r.at_end)
    go (suc m) sized r = omega arith

  -- Each entry of a rule is well formed at its place.
  pub entry-formed : (i : ℕ) → i < length (entries_of s) → WellFormed i (get_or (entries_of s) i no_entry)
  unfolding entries_of
  entry-formed i l =
      let m : i < count_of (rule_answer s) = omega (arith, entries-count) in
      rw (before_at (count_of (rule_answer s)) i m) (entry-at-formed i ((accepted-clean (rule_answer s) refl).1 i m))

  -- The entries of an accepted rule are a rule's.
  pub rule-entries : (n : ℕ) → rule_answer s ≡ Accepted n → RuleEntries (entries_of s)
  rule-entries n e =
      record { nonempty = omega (arith, entries-some n e, entries-count, ap count_of e); few = entries-few; formed = entry-formed }

  module _ (i : ℕ) (there : i < length (entries_of s)) where
    -- The kind of a rule's entry is one of 1 to 14.
    pub kind-range : (1 ≤ (get_or (entries_of s) i no_entry).kind) × ((get_or (entries_of s) i no_entry).kind ≤ 14)
    kind-range = formed-kind i _ (entry-formed i there)

    -- The entry numbers of an entry of kind 3 to 14 are below its own.
    pub argument-below : 3 ≤ (get_or (entries_of s) i no_entry).kind
        → ((get_or (entries_of s) i no_entry).a < i) × ((get_or (entries_of s) i no_entry).b < i)
    argument-below l = (formed-a i _ (entry-formed i there) l, formed-b i _ (entry-formed i there) l)

    -- The label of an entry of kind 2 is in 1..999.
    pub label-range : (get_or (entries_of s) i no_entry).kind ≡ 2
        → (1 ≤ (get_or (entries_of s) i no_entry).a) × ((get_or (entries_of s) i no_entry).a ≤ label_most)
    label-range e = formed-label i _ (entry-formed i there) e
