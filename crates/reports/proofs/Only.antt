-- Every promise of a public function of this crate determines the answer, and every place that is lent to it: any two results that meet
-- it are equal. Assumes nothing.
use Rattle.numbers.proofs.Only.{only}
use Prim.Native.Nat.{ℕ}
use mathlib.Core.Path.{◌≡◌}
use mathlib.Core.List.{List}
use Rattle.reports.specs.Report.{report_answer}
use Rattle.terms.specs.Answer.{answered}
use Rattle.terms.specs.declared.refusal.Refusal.{Refusal}
use Rattle.terms.proofs.FaultLaws.{answered-only}
use Rattle.std.specs.Prelude.{Result}
use Rattle.reports.specs.Elements.{ElementsTaken}

-- What the report reader answers.
pub read-report-only : (s : List ℕ) (r r' : Result ℕ Refusal) → answered r ≡ report_answer s → answered r' ≡ report_answer s → r ≡ r'
read-report-only s r r' p q = answered-only r r' (only p q)

-- What reading the elements answers and leaves in the columns.
pub read-elements-only : (s labels levels : List ℕ) (r r' : Result ℕ Refusal) {l l' d d' : List ℕ}
    → ElementsTaken s labels levels (answered r) l d → ElementsTaken s labels levels (answered r') l' d' → (r ≡ r') × (l ≡ l') × (d ≡ d')
read-elements-only s labels levels r r' p q = (
  answered-only r r' (only p.answer q.answer),
  only p.labels_are q.labels_are,
  only p.levels_are q.levels_are,
)
