-- `evaluate_within`: columns with room for the report's elements, and numbers that fit those of C. Assumes nothing.
use native.Mathlib.Omega.{arith}
use Rattle.marking.proofs.AnswerLaws.{evaluated-small}
use Rattle.evaluate.proofs.Enough.{enough-evaluated}
use Rattle.evaluate.proofs.export.evaluate_within.Goals as goal

pub overflow_cast-result : goal.overflow_cast-result
overflow_cast-result g c =
    omega (arith, (evaluated-small (enough-evaluated g.row.N _ c.requires.enough c.mark_report-marking.ensures c.in-Ok.is)).elements_in)

pub overflow_cast-result-in-Ok : goal.overflow_cast-result-in-Ok
overflow_cast-result-in-Ok g c =
    omega (arith, (evaluated-small (enough-evaluated g.row.N _ c.requires.enough c.mark_report-marking.ensures c.in-Ok.is)).selected_in)

pub overflow_cast-result-in-Err : goal.overflow_cast-result-in-Err
overflow_cast-result-in-Err g c =
    omega (arith, (evaluated-small (enough-evaluated g.row.N _ c.requires.enough c.mark_report-marking.ensures c.in-Err.is)).place_in)

pub returns-in-Ok : goal.returns-in-Ok
returns-in-Ok g c = enough-evaluated g.row.N _ c.requires.enough c.mark_report-marking.ensures c.in-Ok.is

pub returns-in-Err : goal.returns-in-Err
returns-in-Err g c = rw c.into.ensures (enough-evaluated g.row.N _ c.requires.enough c.mark_report-marking.ensures c.in-Err.is)
