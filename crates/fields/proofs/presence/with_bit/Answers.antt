-- `with_bit` takes bit i out and puts it in anew. Assumes nothing.
use native.Mathlib.Omega.{arith}
use Rattle.numbers.specs.Bits.{in_word}
use Rattle.numbers.proofs.WithBit.{with-bit-machine, with-bit-room}
use Rattle.fields.proofs.presence.with_bit.Goals as goal

pub overflow_add-result : goal.overflow_add-result
overflow_add-result c = record { fits = with-bit-room (in_word c.args.i) c.args.w c.args.on (omega arith) c.ranges.w.fits }

pub returns : goal.returns
returns c = with-bit-machine (in_word c.args.i) c.args.w c.args.on (omega arith) c.ranges.w.fits
