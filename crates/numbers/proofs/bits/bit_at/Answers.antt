-- A word of 64 bits has none from 64 on. Assumes nothing.
use native.Mathlib.Nat.{div-eq_of_lt, lt_of_lt_of_le}
use lib.Pow.{pow_mono}
use Rattle.numbers.proofs.bits.bit_at.Goals as goal

pub returns-else-inside : goal.returns-else-inside
returns-else-inside c = rw (div-eq_of_lt (lt_of_lt_of_le c.ranges.w.fits (pow_mono c.if-inside.false)))
