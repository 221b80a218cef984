-- `put_elements`: at every turn the lines of the first i elements have been put, of 19 bytes each at most. Assumes nothing.
use Prim.Native.Nat.{◌+◌, ◌*◌, ◌≤◌}
use mathlib.Core.List.{flatten}
use Rattle.text.specs.Text.{element_lines}
use Rattle.text.specs.Rendered.{verdict_in}
use Rattle.text.specs.Writing.{Writes}
use Rattle.text.proofs.put.Writer.put_elements.Given as goal

abbrev pub invariant-loop-i : goal.invariant-loop-i
invariant-loop-i l = record {
  room : l.self.at ≤ l.initial.self.at + 19 * l.i;
  put : Writes (flatten (element_lines l.labels l.levels (verdict_in l.marks l.last) l.i)) l.initial.self l.self;
}
