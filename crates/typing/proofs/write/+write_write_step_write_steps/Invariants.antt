-- What is still to do falls: from `write` by one to `write_steps` and by one more to `write_step`; in the loop with each row.
-- Assumes nothing.
use Prim.Native.Nat.{◌+◌}
use Rattle.spell.specs.Promises.{written}
use Rattle.typing.proofs.Writer.{todo, Along}
use Rattle.typing.proofs.write.+write_write_step_write_steps.Given as goal

abbrev pub decreases-write : goal.decreases-write
decreases-write l = todo l.entries l.n + 2

abbrev pub decreases-write_step : goal.decreases-write_step
decreases-write_step l = todo l.entries l.n

abbrev pub decreases-write_steps : goal.decreases-write_steps
decreases-write_steps l = todo l.entries l.n + 1

abbrev pub invariant-write_steps-loop-part : goal.invariant-write_steps-loop-part
invariant-write_steps-loop-part l = Along l.rows l.n l.initial.rule (written l.entries l.bytes) l.row l.rule l.so_far

abbrev pub decreases-write_steps-loop-part : goal.decreases-write_steps-loop-part
decreases-write_steps-loop-part l = todo l.so_far.entries l.row
