-- `put_field` puts the number and one byte behind it. Assumes nothing.
use native.Mathlib.Omega.{arith}
use Rattle.text.specs.Text.{field}
use Rattle.text.proofs.PutLaws.{put_then}
use Rattle.text.proofs.Room.{field-length}
use Rattle.text.proofs.put.Writer.put_field.Goals as goal

pub put_decimal-self-requires : goal.put_decimal-self-requires
put_decimal-self-requires c = omega (arith, field-length c.args.x c.args.end)

pub put_byte-requires : goal.put_byte-requires
put_byte-requires c = omega (arith, field-length c.args.x c.args.end, c.put_decimal-self.ensures.next_is)

pub returns : goal.returns
unfolding field
returns c = record { put = put_then c.put_decimal-self.ensures c.put_byte.ensures.put; same_buffer = c.put_byte.ensures.same_buffer }
