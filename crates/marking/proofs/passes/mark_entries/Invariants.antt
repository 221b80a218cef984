-- `mark_entries`: the words have the marks of the entries passed. Assumes nothing.
use Prim.Native.Nat.{ℕ}
use mathlib.Core.List.{List}
use lib.ListN.{length}
use Rattle.marking.specs.Pass.{Stored}
use Rattle.marking.specs.Given.{ColumnsOf}
use Rattle.marking.proofs.KindLaws.{word_up_to}
use Rattle.marking.proofs.passes.mark_entries.Given as goal

abbrev pub invariant-loop-i : goal.invariant-loop-i
invariant-loop-i l = (levels : List ℕ) → ColumnsOf levels l.elements → Stored (length levels) (word_up_to levels l.elements.labels.now l.entries l.i) l.initial.marks l.marks
