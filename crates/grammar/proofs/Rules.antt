-- A byte string is accepted as a rule exactly where it is the concatenation of the records of well-formed entries, 1 to 64 of them;
-- and the entries are those that `entries_of` finds, so there is one such list. Assumes nothing.
use Prim.Native.Nat.{ℕ, zero, suc, ◌+◌, ◌-◌, ◌*◌, ◌≤◌, ◌<◌}
use native.Mathlib.Nat.{add_assoc}
use native.Mathlib.Omega.{arith}
use mathlib.Core.Path.{◌≡◌, refl, ap, subst, sym, ◌∙◌}
use mathlib.Core.List.{List, [], ◌∷◌, ◌++◌, append_assoc, append-nil}
use mathlib.Core.Logic.{◌↔◌}
use lib.ListN.{length, get_or, take, drop, length-append}
use lib.Seq.{take-add, take-suc, take-length, split_at, ext_get_or}
use Rattle.terms.specs.Answer.{count_of, Accepted}
use Rattle.numbers.specs.Bytes.{number_at}
use Rattle.terms.specs.Frame.{next_of, start_of}
use Rattle.entry.specs.Entry.{entry_at, rule_fault}
use Rattle.rules.specs.Rule.{rule_answer, rule_faults}
use Rattle.entry.specs.declared.entry.Entry.{Entry}
use Rattle.terms.specs.Kinds.{rule_length}
use Rattle.numbers.specs.Bytes.{Bytes}
use Rattle.grammar.specs.Rules.{no_entry, record_of, rule_bytes, WellFormed, RuleEntries}
use Rattle.grammar.specs.When.{bad-a}
use Rattle.grammar.proofs.Entries.{before_at, entries-count, rule-entries}
use Rattle.grammar.proofs.Frame.{sound-unfaulty, unfaulty-sound, start-step, start-far}
use Rattle.grammar.proofs.RuleRecord.{record-length, read_length, entry_read, record-sound, record-directed, record-back}
use Rattle.terms.proofs.Rows.{row-measured}
use Rattle.grammar.proofs.WhenRule.{fault-0-iff, rule-accepted-iff}
use Rattle.terms.specs.Limits.{entries_most, rule_most}
use Rattle.rules.specs.Entries.{entries_before, entries_of}
use Rattle.rules.proofs.EntryLaws.{entries-length}
use Rattle.numbers.specs.Lists.{listed}

-- The bytes of two tables, one behind the other, are those of both.
pub rule-append : (es fs : List Entry) → rule_bytes (es ++ fs) ≡ rule_bytes es ++ rule_bytes fs
unfolding rule_bytes
rule-append [] fs = refl
rule-append (e ∷ es) fs = rw (rule-append es fs, append_assoc)

-- ---- from bytes to entries

module _ (s : List ℕ) (bytes : Bytes s) where
  -- The bytes up to record i are those of the entries before it.
  bytes-before : (i : ℕ) → ((j : ℕ) → j < i → rule_faults s j ≡ 0) → rule_bytes (entries_before s i) ≡ take (start_of s i) s
  unfolding rule_bytes listed start_of next_of
  bytes-before zero clean = refl
  bytes-before (suc i) clean =
      let at = start_of s i in
      let r = unfaulty-sound rule_length s at ((fault-0-iff s i at).0 (clean i (omega arith))).1.0 in
      rule-append (entries_before s i) _
      ∙ rw (append-nil, bytes-before i (λ j l. clean j (omega arith)), ← record-back s at bytes r)
      (rw (← take-add at (2 + number_at s at) s, add_assoc))

-- ---- from entries to bytes

-- The bytes of the entries before entry i, and of those after it.
abbrev pre : List Entry → ℕ → List ℕ
pre es i = rule_bytes (take i es)

abbrev post : List Entry → ℕ → List ℕ
post es i = rule_bytes (drop (suc i) es)

abbrev nth : List Entry → ℕ → Entry
nth es i = get_or es i no_entry

module _ (es : List Entry) (formed : (i : ℕ) → i < length es → WellFormed i (nth es i)) where
  rule-split : (i : ℕ) → i < length es → rule_bytes es ≡ pre es i ++ (record_of (nth es i) ++ post es i)
  unfolding rule_bytes
  rule-split i l = ap rule_bytes (split_at es i no_entry l) ∙ rule-append (take i es) _

  pre-suc : (i : ℕ) → i < length es → length (pre es (suc i)) ≡ length (pre es i) + (2 + rule_length (nth es i).kind)
  unfolding rule_bytes
  pre-suc i l = rw (take-suc es i no_entry l, rule-append, append-nil, length-append, record-length (nth es i) (formed i l).known)

  number-after-pre : (i : ℕ) → i < length es → number_at (rule_bytes es) (length (pre es i)) ≡ rule_length (nth es i).kind
  number-after-pre i l =
      ap (λ (s : List ℕ). number_at s (length (pre es i))) (rule-split i l) ∙ read_length (pre es i) (post es i) i (nth es i) (formed i l)

  -- Record i begins after the bytes of the entries before it.
  start_is : (i : ℕ) → i ≤ length es → start_of (rule_bytes es) i ≡ length (pre es i)
  unfolding rule_bytes start_of
  start_is zero l = refl
  start_is (suc i) l =
      rw (start-step (rule_bytes es) i, pre-suc i l, start_is i (omega arith), number-after-pre i l) (omega arith)

  -- What holds where entry i's record stands after the bytes of the entries before it holds at record i.
  at-record : (P : List ℕ → ℕ → Type 0) (i : ℕ) → i < length es
      → P (pre es i ++ (record_of (nth es i) ++ post es i)) (length (pre es i)) → P (rule_bytes es) (start_of (rule_bytes es) i)
  at-record P i l h =
      rw (start_is i (omega arith)) (subst (λ (s : List ℕ). P s (length (pre es i))) (sym (rule-split i l)) h)

  -- The entry read at record i is entry i.
  entry-is : (i : ℕ) → i < length es → entry_at (rule_bytes es) (start_of (rule_bytes es) i) ≡ nth es i
  entry-is i l = at-record (λ s at. entry_at s at ≡ nth es i) i l (entry_read (pre es i) (post es i) i (nth es i) (formed i l))

  -- Record i gets no number.
  entry-clean : (i : ℕ) → i < length es → i < entries_most → rule_faults (rule_bytes es) i ≡ 0
  entry-clean i l h =
      let sound = record-sound (pre es i) (post es i) i (nth es i) (formed i l) in
      let directed = record-directed (pre es i) (post es i) i (nth es i) (formed i l) in
      at-record (λ s at. rule_fault s i at ≡ 0) i l ((fault-0-iff _ i _).1 (h, (sound-unfaulty rule_length _ _ sound, directed)))

  start-end : start_of (rule_bytes es) (length es) ≡ length (rule_bytes es)
  start-end = start_is (length es) (omega arith) ∙ rw take-length

  -- Entry 0 has no entry numbers, so its record has 6 bytes or fewer; every other record has 8 or fewer.
  entry-short : (i : ℕ) → i < length es → rule_length (nth es i).kind ≤ 6
  entry-short i l = let m = row-measured (nth es i).kind (formed i l).known in omega (arith, m.long, m.few)

  entry-shorter : (l : 0 < length es) → rule_length (nth es 0).kind ≤ 4
  entry-shorter l =
      let m = row-measured (nth es 0).kind (formed 0 l).known in
      omega (arith, m.long, m.fewer (λ h. (formed 0 l).directed (bad-a h (omega arith))))

  pre-short : (i : ℕ) → i < length es → length (pre es (suc i)) ≤ 6 + 8 * i
  unfolding rule_bytes
  pre-short zero l = omega (arith, pre-suc 0 l, entry-shorter l)
  pre-short (suc i) l = omega (arith, pre-suc (suc i) l, entry-short (suc i) l, pre-short i (omega arith))

  rule-short : 1 ≤ length es → length es ≤ entries_most → length (rule_bytes es) ≤ rule_most
  rule-short l h =
      let e : suc (length es - 1) ≡ length es = omega arith in
      omega (arith, rw (e, take-length es) at (pre-short (length es - 1) (omega arith)))

-- The concatenation of the records of a rule's entries is accepted, with their number.
pub rule-complete : (es : List Entry) → RuleEntries es → rule_answer (rule_bytes es) ≡ Accepted (length es)
unfolding start_of
rule-complete es r =
    let end = start-end es r.formed in
    (rule-accepted-iff (rule_bytes es) (length es)).1 (
      record {
        some = omega (arith, start-far (rule_bytes es) 0 (length es) (omega arith), r.nonempty, end);
        few = rule-short es r.formed r.nonempty r.few;
      },
      (record { at_end = end; clean = λ j l. entry-clean es r.formed j l (omega (arith, r.few)) }, r.few),
    )

-- An accepted byte string is the concatenation of the records of the entries found in it, which are a rule's.
rule-sound : (s : List ℕ) → Bytes s → (n : ℕ) → rule_answer s ≡ Accepted n
    → (s ≡ rule_bytes (entries_of s)) × (RuleEntries (entries_of s) × (length (entries_of s) ≡ n))
unfolding entries_of
rule-sound s bytes n e =
    let r = ((rule-accepted-iff s n).0 e).1.0 in
    let count : count_of (rule_answer s) ≡ n = ap count_of e in (
      rw (count, bytes-before s bytes n r.clean, r.at_end, take-length),
      (rule-entries s n e, entries-count s ∙ count),
    )

-- A byte string is accepted as a rule of n entries exactly where it is the concatenation of the records of n entries of a rule.
pub rule-iff : (s : List ℕ) → Bytes s → (n : ℕ)
    → (rule_answer s ≡ Accepted n) ↔ ((es : List Entry) × (s ≡ rule_bytes es) × (RuleEntries es × (length es ≡ n)))
rule-iff s bytes n = (λ e. (entries_of s, (rule-sound s bytes n e).0, (rule-sound s bytes n e).1), back) where
  back : (es : List Entry) × (s ≡ rule_bytes es) × (RuleEntries es × (length es ≡ n)) → rule_answer s ≡ Accepted n
  back (es, e, (r, c)) = rw (e, ← c) (rule-complete es r)

-- The entries found in the concatenation of the records of a rule's entries are those entries.
pub entries_are : (s : List ℕ) (es : List Entry) → s ≡ rule_bytes es → RuleEntries es → entries_of s ≡ es
unfolding entries_of
entries_are s es e r =
    let count = entries-length (rule_bytes es) (length es) in
    rw (e, rule-complete es r)
    (ext_get_or no_entry (entries_before (rule_bytes es) (length es)) es count
    (λ i l. let h : i < length es = omega arith in before_at (rule_bytes es) (length es) i h ∙ entry-is es r.formed i h))

-- There is one list of entries for the bytes of a rule.
pub rule-only : (es fs : List Entry) → rule_bytes es ≡ rule_bytes fs → RuleEntries es → RuleEntries fs → es ≡ fs
rule-only es fs e r q = sym (entries_are (rule_bytes es) es refl r) ∙ entries_are (rule_bytes es) fs e q
