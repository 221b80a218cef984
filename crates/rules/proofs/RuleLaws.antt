-- Laws of the rule reader's progress from record to record, and of what it answers.
-- Assumes nothing.
use Prim.Native.Nat.{ℕ, ◌+◌, ◌≤◌, ◌<◌}
use native.Mathlib.Omega.{arith}
use borrow.Author.Tests.{lt-ltb, le-ltb, eq-eqb, ne_eqb}
use mathlib.Core.Path.{◌≡◌, sym, ap, ◌∙◌}
use mathlib.Core.List.{List}
use lib.ListN.{length}
use Rattle.numbers.specs.Bytes.{number_at}
use Rattle.numbers.specs.First.{first}
use Rattle.terms.specs.Frame.{next_of}
use Rattle.std.specs.Prelude.{Ok}
use Rattle.entry.specs.Entry.{entry_at, rule_fault}
use Rattle.entry.specs.Taken.{EntryTaken}
use Rattle.rules.specs.Rule.{rule_faults, rule_stops, rule_answer_at, rule_answer}
use Rattle.terms.specs.Answer.{Accepted, Refused}
use Rattle.entry.specs.declared.entry.Taken.{Taken}
use Rattle.terms.proofs.Reading.{Mid, mid-turn, mid-ended, mid-faulty}
use Rattle.entry.proofs.TakenLaws.{rule-sound}
use Rattle.terms.specs.Limits.{entries_most, rule_most}

-- The turns of the reader's loop.
module _ (s : List ℕ) where
  abbrev pub RuleMid : ℕ → ℕ → Type 0
  RuleMid i at = Mid s (rule_faults s) i at

  -- The number that the record in hand gets is the number of record i.
  faults-is : {i at : ℕ} → RuleMid i at → rule_faults s i ≡ rule_fault s i at
  faults-is {i} {at} m = ap (λ (x : ℕ). rule_fault s i x) m.begins

  rule-next : {i at : ℕ} → RuleMid i at → rule_fault s i at ≡ 0 → at + 2 + number_at s at ≤ length s
  rule-next {i} {at} m f = let r = (rule-sound s i at f).1 in omega (arith, r.ends, r.long)

  rule-turn : {i at : ℕ} → RuleMid i at → (at ≡ length s → ⊥) → rule_fault s i at ≡ 0 → RuleMid (i + 1) (at + 2 + number_at s at)
  rule-turn {i} {at} m ne f = mid-turn s (rule_faults s) m ne (faults-is m ∙ f) (rule-next m f)

  -- A record that is taken is one of the first 64, has the entry that stands there, and ends within the rule, where the next one begins.
  pub record Onward (i at : ℕ) (t : Taken) : Type 0 where
    pub few : i < entries_most
    pub entry-is : t.entry ≡ entry_at s at
    pub on : at < t.next
    pub within : t.next ≤ length s
    pub mid : RuleMid (i + 1) t.next

  pub rule-onward : {i at : ℕ} → RuleMid i at → (at ≡ length s → ⊥) → (t : Taken) → EntryTaken s i at (Ok t) → Onward i at t
  unfolding next_of
  rule-onward {i} {at} m ne t (f, entry, next) =
      record {
        few = (rule-sound s i at f).0;
        entry-is = entry;
        on = omega (arith, next);
        within = omega (arith, next, rule-next m f);
        mid = rw next (rule-turn m ne f);
      }

  module _ (some : 1 ≤ length s) (few : length s ≤ rule_most) where
    answer_is : (i : ℕ) → first (rule_stops s) entries_most ≡ i → rule_answer s ≡ rule_answer_at s i
    unfolding rule_answer
    answer_is i e = rw (le-ltb (length s) 1 some, le-ltb rule_most (length s) few, e)

    pub rule-accepts : {i at : ℕ} → RuleMid i at → i ≤ entries_most → at ≡ length s → Accepted i ≡ rule_answer s
    unfolding rule_stops rule_answer_at
    rule-accepts {i} {at} m l e = sym (answer_is i (mid-ended s (rule_faults s) m e entries_most l) ∙ rw (m.begins, eq-eqb at (length s) e))

    pub rule-refuses : {i at : ℕ} → RuleMid i at → i ≤ entries_most → (at ≡ length s → ⊥) → (rule_fault s i at ≡ 0 → ⊥)
        → Refused (rule_fault s i at) at ≡ rule_answer s
    unfolding rule_stops rule_answer_at
    rule-refuses {i} {at} m l ne f =
        sym
        (answer_is i (mid-faulty s (rule_faults s) m ne (λ z. f (sym (faults-is m) ∙ z)) entries_most l)
        ∙ rw (m.begins, ne_eqb at (length s) ne))

-- Row 1: no byte, or too many.
pub rule-empty : (s : List ℕ) → length s < 1 → Refused 1 0 ≡ rule_answer s
unfolding rule_answer
rule-empty s h = simp (lt-ltb (length s) 1 h)

pub rule-long : (s : List ℕ) → rule_most < length s → Refused 1 0 ≡ rule_answer s
unfolding rule_answer
rule-long s h = simp (le-ltb (length s) 1 (omega arith), lt-ltb rule_most (length s) h)
