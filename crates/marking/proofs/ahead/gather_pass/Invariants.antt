-- `gather_pass`: the elements passed have given to those that they lead to. Assumes nothing.
use lib.ListN.{length}
use Rattle.marking.specs.Pass.{Passed}
use Rattle.marking.proofs.AheadLaws.{given_by}
use Rattle.marking.proofs.ahead.gather_pass.Given as goal

abbrev pub invariant-loop-s : goal.invariant-loop-s
invariant-loop-s l = Passed (length l.column.numbers.now) l.i (given_by l.column.numbers.now l.initial.marks l.a l.s) l.initial.marks l.marks
