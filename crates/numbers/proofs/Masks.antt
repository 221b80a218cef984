-- The machine's masks and shifts as numbers: bit i put above the bits below it, and the lowest bits of what the machine computes.
-- Assumes nothing.
use Prim.Native.Nat.{ℕ, zero, suc, ◌+◌, ◌*◌, ◌^◌, ◌%◌, ◌-◌, ◌≤◌, ◌<◌}
use native.Mathlib.Nat.{mod-lt, one-mul, add-zero}
use native.Mathlib.Omega.{arith}
use mathlib.Core.Path.{◌≡◌, refl, sym, ap, ◌∙◌}
use mathlib.Core.Bool.{Bool, true, false, xor, ◌&&◌, ◌||◌}
use lib.Dec.{eqb}
use lib.Bits.{bit_and, bit_or, bit_xor, and_comm, and_zero_l, and_mask, or_shifted_r, or_block, or_zero_r, and_mod, or_mod, xor_mod}
use lib.Pow.{pow_pos, shl_exact}
use Rattle.numbers.specs.Bits.{bit, word_bits}
use Rattle.numbers.proofs.BitLaws.{bit-small, bit-told}

-- 1 shifted by i fits a word, and is 1 or more.
pub one_shifted : (i : ℕ) → i < word_bits → (1 ≤ (1 * 2 ^ i) % 2 ^ word_bits) × ((1 * 2 ^ i) % 2 ^ word_bits ≡ 2 ^ i)
one_shifted i l =
    let e : (1 * 2 ^ i) % 2 ^ word_bits ≡ 2 ^ i = shl_exact 1 i word_bits (omega arith) (omega arith) ∙ one-mul (2 ^ i) in
    (omega (arith, pow_pos i), e)

-- The machine's `(w & ((1 << i) - 1)) | ((on as u64) << i)`.
pub masked-bit : (i w : ℕ) (on : Bool) → i < word_bits
    → bit_or (bit_and w ((1 * 2 ^ i) % 2 ^ word_bits - 1)) ((bit on * 2 ^ i) % 2 ^ word_bits) ≡ bit on * 2 ^ i + w % 2 ^ i
masked-bit i w on l =
    rw ((one_shifted i l).1, and_mask w i, shl_exact 1 i word_bits (bit-small on) (omega arith))
    (or_shifted_r (bit on) i (w % 2 ^ i) (mod-lt w (pow_pos i)))

-- The machine's `on << i`, of a number below 2.
pub shifted-number : (i n : ℕ) → i < word_bits → n < 2 → (n * 2 ^ i) % 2 ^ word_bits ≡ n * 2 ^ i
shifted-number i n l h = shl_exact 1 i word_bits (omega arith) (omega arith)

or-bits : (p q : Bool) → bit_or (bit p) (bit q) ≡ bit (p || q)
or-bits true true = refl
or-bits true false = refl
or-bits false true = refl
or-bits false false = refl

-- Bit i put where bit i may stand already.
pub joined-bit : (i w : ℕ) (p q : Bool) → w < 2 ^ i → bit_or (bit p * 2 ^ i + w) (bit q * 2 ^ i) ≡ bit (p || q) * 2 ^ i + w
joined-bit i w p q h =
    ap (bit_or (bit p * 2 ^ i + w)) (sym (add-zero (bit q * 2 ^ i))) ∙ or_block i (bit p) (bit q) w 0 h (pow_pos i)
    ∙ rw (or-bits p q, or_zero_r w)

-- ---- lowest bits

bit_is : (p : Bool) → eqb (bit p) 1 ≡ p
bit_is true = refl
bit_is false = refl

-- An operation that is h on bits, and goes through to lowest bits, is h on lowest bits.
module _ (f : ℕ → ℕ → ℕ) (h : Bool → Bool → Bool) (bits : (p q : Bool) → f (bit p) (bit q) ≡ bit (h p q))
    (through : (x y : ℕ) → f x y % 2 ≡ f (x % 2) (y % 2)) where
  of_two : (p q : ℕ) → p < 2 → q < 2 → eqb (f p q) 1 ≡ h (eqb p 1) (eqb q 1)
  of_two zero zero l m = rw (bits false false) (bit_is (h false false))
  of_two zero (suc zero) l m = rw (bits false true) (bit_is (h false true))
  of_two zero (suc (suc q)) l m = absurd (omega arith)
  of_two (suc zero) zero l m = rw (bits true false) (bit_is (h true false))
  of_two (suc zero) (suc zero) l m = rw (bits true true) (bit_is (h true true))
  of_two (suc zero) (suc (suc q)) l m = absurd (omega arith)
  of_two (suc (suc p)) q l m = absurd (omega arith)

  of-lowest : (x y : ℕ) → eqb (f x y % 2) 1 ≡ h (eqb (x % 2) 1) (eqb (y % 2) 1)
  of-lowest x y =
      ap (λ (n : ℕ). eqb n 1) (through x y) ∙ of_two (x % 2) (y % 2) (mod-lt x (omega arith)) (mod-lt y (omega arith))

xor-bits : (p q : Bool) → bit_xor (bit p) (bit q) ≡ bit (xor p q)
unfolding xor
xor-bits true true = refl
xor-bits true false = refl
xor-bits false true = refl
xor-bits false false = refl

and-bits : (p q : Bool) → bit_and (bit p) (bit q) ≡ bit (p && q)
and-bits true true = refl
and-bits true false = refl
and-bits false true = refl
and-bits false false = refl

pub odd-or : (x y : ℕ) → eqb (bit_or x y % 2) 1 ≡ (eqb (x % 2) 1 || eqb (y % 2) 1)
odd-or = of-lowest bit_or ◌||◌ or-bits (λ x y. or_mod x y 1)

pub odd-xor : (x y : ℕ) → eqb (bit_xor x y % 2) 1 ≡ xor (eqb (x % 2) 1) (eqb (y % 2) 1)
odd-xor = of-lowest bit_xor xor xor-bits (λ x y. xor_mod x y 1)

pub odd-and : (x y : ℕ) → eqb (bit_and x y % 2) 1 ≡ (eqb (x % 2) 1 && eqb (y % 2) 1)
odd-and = of-lowest bit_and ◌&&◌ and-bits (λ x y. and_mod x y 1)

two-bit : (q : ℕ) → q < 2 → q ≡ bit (eqb q 1)
two-bit zero h = refl
two-bit (suc zero) h = refl
two-bit (suc (suc q)) h = absurd (omega arith)

where-bit : (p : Bool) (x : ℕ) → bit_and (bit p) x ≡ bit (p && eqb (x % 2) 1)
where-bit true x = and_comm 1 x ∙ and_mask x 1 ∙ two-bit (x % 2) (mod-lt x (omega arith))
where-bit false x = and_zero_l x

-- A lowest bit where p, and what the passes from the first element on ask until a mark, as numbers below 2.
pub low-where : (p : Bool) (x : ℕ) → (bit_and (bit p) x ≡ bit (p && eqb (x % 2) 1)) × (bit_and (bit p) x < 2)
low-where p x = (where-bit p x, rw (where-bit p x) (bit-small (p && eqb (x % 2) 1)))

pub low-until : (p : Bool) (x y z : ℕ)
    → (bit_or x (bit_and y (bit_and (bit p) z)) % 2 ≡ bit (eqb (x % 2) 1 || (eqb (y % 2) 1 && (p && eqb (z % 2) 1))))
    × (bit_or x (bit_and y (bit_and (bit p) z)) % 2 < 2)
low-until p x y z =
    let h : bit_or x (bit_and y (bit_and (bit p) z)) % 2 < 2 = mod-lt (bit_or x (bit_and y (bit_and (bit p) z))) (omega arith) in (
      two-bit (bit_or x (bit_and y (bit_and (bit p) z)) % 2) h
          ∙ rw (odd-or x (bit_and y (bit_and (bit p) z)), odd-and y (bit_and (bit p) z), where-bit p z, bit-told (p && eqb (z % 2) 1)),
      h,
    )
