-- `gate_pass`: the words passed have their bit, and those ahead are as they were. Assumes nothing.
use mathlib.Core.Path.{◌≡◌}
use Rattle.numbers.specs.Lists.{listed, over}
use Rattle.buffer.specs.Gates.{gated_word}
use Rattle.buffer.proofs.gates.gate_pass.Given as goal

abbrev pub invariant-loop-w : goal.invariant-loop-w
invariant-loop-w l = l.w-items ≡ over (listed l.w-index (gated_word l.gate l.i l.initial.w-items)) l.initial.w-items
