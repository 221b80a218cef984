-- `number_at` reads the two bytes. Assumes nothing.
use native.Mathlib.Omega.{arith}
use Rattle.numbers.specs.Bytes.{word_at}
use Rattle.tag.proofs.number.number_at.Goals as goal

pub returns : goal.returns
unfolding word_at
returns c = omega (arith, c.from_le_bytes.ensures)
