-- `put_number`: the two bytes, the low one first. Assumes nothing.
use native.Mathlib.Omega.{arith}
use Rattle.std.specs.Int.{bytes_low_first}
use Rattle.numbers.specs.Bytes.{low_bytes, number_put}
use Rattle.state.proofs.Parts.{put-part}
use Rattle.state.proofs.bytes.put_number.Goals as goal

pub returns : goal.returns
unfolding number_put low_bytes
returns c =
    let a = c.args in
    rw (c.copy_from_slice.ensures.after, c.to_le_bytes.ensures) (put-part a.s.now (bytes_low_first 0 2 a.v) a.at (omega arith))
