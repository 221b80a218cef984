-- `low_with_bit`: a mask keeps the bits below i. Assumes nothing.
use native.Mathlib.Omega.{arith}
use Rattle.numbers.proofs.Masks.{masked-bit}
use Rattle.numbers.specs.Bits.{in_word}
use Rattle.steps.proofs.word.low_with_bit.Goals as goal

pub returns : goal.returns
returns c = masked-bit (in_word c.args.i) c.args.w c.args.on (omega arith)
