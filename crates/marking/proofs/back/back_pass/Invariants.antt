-- `back_pass`: the elements passed have their marks, and a column leads to one of them. Assumes nothing.
use lib.ListN.{length}
use Rattle.meaning.specs.Tree.{backward}
use Rattle.layout.specs.Links.{leads}
use Rattle.marking.specs.Pass.{Passed, bits_of}
use Rattle.marking.specs.Steps.{along_mark}
use Rattle.marking.proofs.PassLaws.{before-only}
use Rattle.marking.proofs.back.back_pass.Given as goal

abbrev pub invariant-loop-s : goal.invariant-loop-s
invariant-loop-s l =
    Passed (length l.column.numbers.now) l.i (before-only (along_mark l.until backward (length l.column.numbers.now) (leads l.column.numbers.now) (bits_of l.initial.marks l.a) (bits_of l.initial.marks l.b)) l.s) l.initial.marks l.marks
