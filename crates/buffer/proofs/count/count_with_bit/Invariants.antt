-- `count_with_bit`: the words passed are counted. Assumes nothing.
use mathlib.Core.Path.{◌≡◌}
use lib.ListN.{take}
use Rattle.numbers.specs.Bits.{in_word, have_bit}
use Rattle.buffer.proofs.count.count_with_bit.Given as goal

abbrev pub invariant-loop-w : goal.invariant-loop-w
invariant-loop-w l = l.count ≡ have_bit (in_word l.i) (take l.w-index l.words)
