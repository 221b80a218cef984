-- `gate_mark`: the machine's gate is the specification's. Assumes nothing.
use Prim.Native.Nat.{◌^◌, ◌/◌}
use Rattle.steps.proofs.Gates.{gate-low}
use Rattle.steps.specs.Steps.{gate_mark}
use Rattle.numbers.specs.Bits.{in_word}
use Rattle.steps.proofs.gate.gate_mark.Goals as goal

pub returns : goal.returns
unfolding gate_mark
returns c = let p = c.args in gate-low p.gate.first p.gate.second p.gate.outcome (p.w / 2 ^ in_word p.gate.a) (p.w / 2 ^ in_word p.gate.b)
