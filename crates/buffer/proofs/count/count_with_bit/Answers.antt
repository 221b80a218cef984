-- `count_with_bit`: the words passed are counted. Assumes nothing.
use native.Mathlib.Omega.{arith}
use mathlib.Core.Path.{refl}
use Rattle.numbers.specs.Bits.{in_word, have_bit}
use Rattle.numbers.proofs.BitLaws.{bit-small, have_bit-first, have_bit-next}
use Rattle.buffer.proofs.count.count_with_bit.Goals as goal

pub loop-w-init : goal.loop-w-init
unfolding have_bit
loop-w-init c = refl

pub overflow_add-count : goal.overflow_add-count
overflow_add-count c =
    let p = c.args in
    let l = c.loop-w in
    omega (arith, have_bit-first (in_word p.i) l.w-index p.words.now, bit-small c.bit_in.result)

pub loop-w-preserved : goal.loop-w-preserved
loop-w-preserved c =
    let p = c.args in
    let l = c.loop-w in
    rw c.bit_in.ensures (have_bit-next (in_word p.i) l.w-index p.words.now (omega arith) l.invariant)
