-- `turn_pass`: the elements passed have their marks, and have given to those that they lead to. Assumes nothing.
use Rattle.marking.proofs.AheadLaws.{AheadMid}
use Rattle.marking.proofs.ahead.turn_pass.Given as goal

abbrev pub invariant-loop-t : goal.invariant-loop-t
invariant-loop-t l = AheadMid l.way l.column.numbers.now l.initial.marks l.a l.b l.i l.marks l.next l.t
