-- Every promise of a public function of this crate determines the answer, and every place that is lent to it: any two results that meet
-- it are equal. Assumes nothing.
use Rattle.numbers.proofs.Only.{only}
use Prim.Native.Nat.{ℕ}
use mathlib.Core.Path.{◌≡◌}
use mathlib.Core.List.{List}
use Rattle.rules.specs.Rule.{rule_answer}
use Rattle.terms.specs.Answer.{answered}
use Rattle.rules.specs.Entries.{entries_read, seen, EntriesTaken}
use Rattle.entry.specs.declared.entry.Entry.{Entry}
use Rattle.terms.specs.declared.refusal.Refusal.{Refusal}
use Rattle.terms.proofs.FaultLaws.{answered-only}
use Rattle.std.specs.Prelude.{Result}

-- What the rule reader answers.
pub read-rule-only : (s : List ℕ) (r r' : Result ℕ Refusal) → answered r ≡ rule_answer s → answered r' ≡ rule_answer s → r ≡ r'
read-rule-only s r r' p q = answered-only r r' (only p q)

-- What reading the entries answers and leaves in the table.
pub read-entries-only : (s : List ℕ) (table : List Entry) (r r' : Result ℕ Refusal) {t t' : List Entry} → EntriesTaken s table (answered r) t
    → EntriesTaken s table (answered r') t' → (r ≡ r') × (t ≡ t')
read-entries-only s table r r' p q = (answered-only r r' (only p.answer q.answer), only p.table_is q.table_is)

-- What a walk answers and makes of a visitor.
pub visit-entries-only : {V : Type 0} (then : V → ℕ → Entry → V) (s : List ℕ) (v₀ : V) (r r' : Result ℕ Refusal) {v v' : V}
    → answered r ≡ rule_answer s → v ≡ seen then v₀ (entries_read s) → answered r' ≡ rule_answer s → v' ≡ seen then v₀ (entries_read s) → (r ≡ r') × (v ≡ v')
visit-entries-only then s v₀ r r' a p b q = (answered-only r r' (only a b), only p q)
