-- `label_pass`: the elements passed have their marks. Assumes nothing.
use lib.Dec.{eqb}
use lib.ListN.{length, get_or}
use Rattle.marking.specs.Pass.{Passed}
use Rattle.marking.proofs.PassLaws.{before-only}
use Rattle.marking.proofs.local.label_pass.Given as goal

abbrev pub invariant-loop-s : goal.invariant-loop-s
invariant-loop-s l =
    Passed (length l.labels) l.i (before-only (λ t. eqb (get_or l.labels t 0) l.label) l.s) l.initial.marks l.marks
