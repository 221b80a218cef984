-- Columns of so many places have room for the elements of an accepted report, so the buffer's words alone are counted.
-- Assumes nothing.
use Prim.Native.Nat.{ℕ}
use mathlib.Core.Path.{◌≡◌, subst}
use mathlib.Core.List.{List}
use mathlib.Core.Logic.{⊎_elim}
use lib.ListN.{replicate, length-replicate}
use Rattle.std.specs.Prelude.{Result}
use Rattle.terms.specs.declared.refusal.Refusal.{Refusal}
use Rattle.layout.proofs.LayoutLaws.{room-by-size, room-for-any}
use Rattle.marking.specs.Evaluation.{told, Evaluated, ReportMarked}
use Rattle.marking.specs.declared.report.Counted.{Counted}
use Rattle.marking.specs.declared.report.Marking.{Marking}
use Rattle.marking.proofs.AnswerLaws.{marked-evaluated}
use Rattle.evaluate.specs.Columns.{Enough}

pub enough-evaluated : (n : ℕ) {rule report marks ls ds us fs after : List ℕ} {r : Marking} (a : Result Counted Refusal) → Enough n report
    → ReportMarked rule report (replicate n 0) (replicate n 0) (replicate n 0) (replicate n 0) marks r ls ds us fs after → r.answer ≡ a
    → Evaluated rule report marks (told a) after
enough-evaluated n {rule} {report} {marks} {after = after} a enough m is =
    let l = length-replicate {A = ℕ} n 0 in
    subst (λ (x : Result Counted Refusal). Evaluated rule report marks (told x) after) is
    (marked-evaluated _ _ _ _ _ _ _ (⊎_elim (room-by-size _ n _ _ _ _ l l l l) (room-for-any _ n _ _ _ _ l l l l) enough) m)
