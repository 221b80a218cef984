-- `read_elements`: one walk, whose columns hold the elements of the tags read. Assumes nothing.
use Prim.Native.Nat.{ℕ, ◌-◌}
use lib.ListN.{length}
use Rattle.reports.proofs.ElementLaws.{WalkMid}
use Rattle.reports.proofs.elements.read_elements.Given as goal

abbrev pub invariant-loop-at : goal.invariant-loop-at
invariant-loop-at l =
    (i : ℕ) × WalkMid l.report l.initial.labels l.initial.levels l.labels l.levels i l.at l.depth l.elements

abbrev pub decreases-loop-at : goal.decreases-loop-at
decreases-loop-at l = length l.report - l.at
