-- `put_word`: the eight bytes, the low one first, between what stands before them and what stands behind. Assumes nothing.
use Prim.Native.Nat.{ℕ, ◌/◌}
use native.Mathlib.Omega.{arith}
use mathlib.Core.Path.{◌≡◌}
use Rattle.std.specs.Int.{bytes_low_first}
use Rattle.numbers.specs.Bytes.{low_bytes, number_put}
use Rattle.state.proofs.Parts.{put-part}
use Rattle.state.proofs.bytes.put_word.Goals as goal

eight-bytes : (v : ℕ) → bytes_low_first 0 8 v ≡ low_bytes 8 v
unfolding low_bytes
eight-bytes v =
    let two : v / 256 / 256 ≡ v / 65536 = omega arith in
    let three : v / 65536 / 256 ≡ v / 16777216 = omega arith in
    let four : v / 16777216 / 256 ≡ v / 4294967296 = omega arith in
    let five : v / 4294967296 / 256 ≡ v / 1099511627776 = omega arith in
    let six : v / 1099511627776 / 256 ≡ v / 281474976710656 = omega arith in
    let seven : v / 281474976710656 / 256 ≡ v / 72057594037927936 = omega arith in
    rw (two, three, four, five, six, seven)

pub returns : goal.returns
unfolding number_put
returns c =
    let a = c.args in
    rw (c.copy_from_slice.ensures.after, c.to_le_bytes.ensures, ← eight-bytes a.v) (put-part a.s.now (bytes_low_first 0 8 a.v) a.at (omega arith))
