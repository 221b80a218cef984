-- The gates of kinds 1, 3, 4 and 5, and the machine's way of a gate. Assumes nothing.
use Prim.Native.Nat.{ℕ, ◌%◌}
use mathlib.Core.Path.{◌≡◌, refl}
use mathlib.Core.Bool.{Bool, true, false, not, xor, ◌&&◌, ◌||◌}
use lib.Dec.{eqb}
use lib.Bits.{bit_and, bit_xor}
use Rattle.numbers.specs.Bits.{bit, bit_at, in_word}
use Rattle.numbers.proofs.BitLaws.{bit-told}
use Rattle.numbers.proofs.Masks.{odd-xor, odd-and}
use Rattle.steps.specs.Steps.{gate_mark, always_gate, not_gate, or_gate, and_gate}

always-is : (x : Bool) → xor (xor x false && xor x true) true ≡ true
unfolding xor
always-is true = refl
always-is false = refl

not_is : (x : Bool) → xor (xor x true && xor x true) false ≡ not x
unfolding xor
not_is true = refl
not_is false = refl

or_is : (x y : Bool) → xor (xor x true && xor y true) true ≡ (x || y)
unfolding xor
or_is true true = refl
or_is true false = refl
or_is false true = refl
or_is false false = refl

and_is : (x y : Bool) → xor (xor x false && xor y false) false ≡ (x && y)
unfolding xor
and_is true true = refl
and_is true false = refl
and_is false true = refl
and_is false false = refl

-- What each gate makes of a word.
pub gate-always : (w : ℕ) → gate_mark always_gate w ≡ true
unfolding gate_mark
gate-always w = always-is _

pub gate-not : (a w : ℕ) → gate_mark (not_gate a) w ≡ not (bit_at w (in_word a))
unfolding gate_mark
gate-not a w = not_is _

pub gate-or : (a b w : ℕ) → gate_mark (or_gate a b) w ≡ (bit_at w (in_word a) || bit_at w (in_word b))
unfolding gate_mark
gate-or a b w = or_is _ _

pub gate-and : (a b w : ℕ) → gate_mark (and_gate a b) w ≡ (bit_at w (in_word a) && bit_at w (in_word b))
unfolding gate_mark
gate-and a b w = and_is _ _

-- The machine's gate, of numbers whose lowest bits are the gate's two.
pub gate-low : (first second outcome : Bool) (x y : ℕ)
    → eqb (bit_xor (bit_and (bit_xor x (bit first)) (bit_xor y (bit second))) (bit outcome) % 2) 1
    ≡ xor (xor (eqb (x % 2) 1) first && xor (eqb (y % 2) 1) second) outcome
gate-low first second outcome x y =
    rw (
      odd-xor (bit_and (bit_xor x (bit first)) (bit_xor y (bit second))) (bit outcome),
      odd-and (bit_xor x (bit first)) (bit_xor y (bit second)),
      odd-xor x (bit first),
      odd-xor y (bit second),
      bit-told first,
      bit-told second,
      bit-told outcome,
    )
