-- `read_elements`: one walk, whose columns hold the elements of the tags read. Assumes nothing.
use Rattle.terms.specs.Answer.{number_of_fault}
use Rattle.reports.proofs.ElementLaws.{walk_start, opening-taken, closing-taken, closing-within, walk-opens, walk-closes, walk-ended, walk_refused, read-empty, read-long}
use Rattle.reports.proofs.elements.read_elements.Goals as goal

pub returns-then-empty : goal.returns-then-empty
unfolding number_of_fault
returns-then-empty c = rw c.at.ensures (read-empty _ _ _ c.if-empty.true)

pub returns-then-too_long : goal.returns-then-too_long
unfolding number_of_fault
returns-then-too_long c = rw c.at-then-too_long.ensures (read-long _ _ _ c.if-too_long.true)

pub loop-at-init : goal.loop-at-init
loop-at-init c = (0, walk_start _ _ _)

pub loop-at-preserved-in-Ok-Opening : goal.loop-at-preserved-in-Ok-Opening
loop-at-preserved-in-Ok-Opening c =
    (_, walk-opens _ _ _ c.loop-at.invariant.1 c.if-report-at.false _ (opening-taken _ _ _ _ c.in-Ok-Opening.field-0-is c.in-Ok-Opening.ensures) c.put.ensures c.put-in-Ok-Opening.ensures)

pub overflow_sub-depth : goal.overflow_sub-depth
overflow_sub-depth c =
    (closing-within _ _ _ c.loop-at.invariant.1 c.if-report-at.false (closing-taken _ _ _ _ c.in-Ok-Closing.field-0-is c.in-Ok-Closing.ensures)).1

pub loop-at-preserved : goal.loop-at-preserved
loop-at-preserved c =
    (_, walk-closes _ _ _ c.loop-at.invariant.1 c.if-report-at.false (closing-taken _ _ _ _ c.in-Ok-Closing.field-0-is c.in-Ok-Closing.ensures))

pub returns-then-report-at : goal.returns-then-report-at
returns-then-report-at c = walk-ended _ _ _ c.loop-at.invariant.1 c.if-empty.false c.if-too_long.false c.if-report-at.true c.end_of-answer.ensures

pub returns-in-Err : goal.returns-in-Err
returns-in-Err c =
    rw c.at-in-Err.ensures
    (walk_refused _ _ _ c.loop-at.invariant.1 c.if-empty.false c.if-too_long.false c.if-report-at.false _ c.in-Err.ensures.0)
