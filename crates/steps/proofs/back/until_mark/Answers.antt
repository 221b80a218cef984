-- `until_mark`: the lowest bit of what the machine computes. Assumes nothing.
use Prim.Native.Nat.{◌^◌, ◌/◌}
use Rattle.numbers.proofs.Masks.{low-until}
use Rattle.numbers.specs.Bits.{in_word}
use Rattle.steps.proofs.back.until_mark.Goals as goal

pub returns : goal.returns
returns c = let p = c.args in low-until p.there (p.w / 2 ^ in_word p.b) (p.w / 2 ^ in_word p.a) (p.v / 2 ^ in_word p.i)
