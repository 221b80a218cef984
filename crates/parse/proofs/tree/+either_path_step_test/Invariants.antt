-- What is left of the text falls: a path or a test asks one more than a pair of brackets or a step at the same place.
-- In the loop of a path it falls with each step. Assumes nothing.
use Prim.Native.Nat.{◌+◌, ◌-◌, ◌*◌}
use lib.ListN.{length}
use Rattle.parse.specs.Promises.{Went}
use Rattle.parse.proofs.tree.+either_path_step_test.Given as goal

abbrev pub decreases-either : goal.decreases-either
decreases-either l = 2 * (length l.s.now - l.at)

abbrev pub decreases-path : goal.decreases-path
decreases-path l = 2 * (length l.s.now - l.at) + 1

abbrev pub decreases-step : goal.decreases-step
decreases-step l = 2 * (length l.s.now - l.at)

abbrev pub decreases-test : goal.decreases-test
decreases-test l = 2 * (length l.s.now - l.at) + 1

abbrev pub invariant-path-loop-p : goal.invariant-path-loop-p
invariant-path-loop-p l = Went l.s l.at l.k l.initial.rows l.from l.entries l.bytes l.before l.rows

abbrev pub decreases-path-loop-p : goal.decreases-path-loop-p
decreases-path-loop-p l = length l.s - l.from
