-- Single bits of a word: what `with_bit` changes and keeps, and how the machine works it out. Assumes nothing.
use Prim.Native.Nat.{ℕ, suc, ◌+◌, ◌*◌, ◌/◌, ◌%◌, ◌^◌, ◌-◌, ◌≤◌, ◌<◌}
use native.Mathlib.Nat.{add-mul, mod-lt, div-add-mod', div-lt_iff_lt-mul}
use native.Mathlib.Decide.{dec_lt}
use native.Mathlib.Omega.{arith}
use mathlib.Core.Path.{◌≡◌, refl, sym, ap, subst, ◌∙◌}
use mathlib.Core.Bool.{Bool, true, false, cond}
use borrow.Author.Tests.{eq-eqb, ne_eqb}
use lib.Dec.{eqb}
use lib.Pow.{pow_pos, pow-add, high, low, split, shl_exact, shr-shr, field, mod-mod-pow}
use Rattle.numbers.specs.Bits.{bit, bit_at, word_bits, with_bit}
use Rattle.numbers.proofs.BitLaws.{bit-small, word_lt, word-bit, word-only}

-- ---- a bit put to a value

-- The word is one of 64 bits.
pub with-bit-small : (i w : ℕ) (on : Bool) → with_bit i on w < 2 ^ word_bits
unfolding with_bit
with-bit-small i w on = word_lt word_bits _

-- Bit i is what it is put to, and every other bit stays.
pub with-bit-at : (i w : ℕ) (on : Bool) (j : ℕ) → j < word_bits → bit_at (with_bit i on w) j ≡ cond (eqb j i) on (bit_at w j)
unfolding with_bit
with-bit-at i w on j l = word-bit word_bits j _ l

-- ---- the machine's way: h above bit i, l below it

module _ (i h l : ℕ) (small : l < 2 ^ i) where
  -- The number with h above bit i, x as bit i, and l below.
  abbrev around : ℕ → ℕ
  around x = (h * 2 + x) * 2 ^ i + l

  around-low : (x j : ℕ) → j < i → around x / 2 ^ j % 2 ≡ l / 2 ^ j % 2
  around-low x j m =
      let e : i - suc j + 1 + j ≡ i = omega arith in
      let f : (n : ℕ) → n % 2 ^ i / 2 ^ j % 2 ≡ n / 2 ^ j % 2 =
      λ n. subst (λ (k : ℕ). n % 2 ^ k / 2 ^ j % 2 ≡ n / 2 ^ j % 2) e (rw (field n (i - suc j + 1) j) (mod-mod-pow (n / 2 ^ j) (i - suc j) 1)) in
      sym (f (around x)) ∙ rw (low (h * 2 + x) i small)

  around_here : (x : ℕ) → x < 2 → around x / 2 ^ i % 2 ≡ x
  around_here x m = rw (high (h * 2 + x) i small) (omega arith)

  around-high : (x k : ℕ) → x < 2 → around x / 2 ^ (i + (1 + k)) ≡ h / 2 ^ k
  around-high x k m =
      let e : (h * 2 + x) / 2 ≡ h = omega arith in
      sym (shr-shr (around x) i (1 + k)) ∙ rw (high (h * 2 + x) i small) (sym (shr-shr (h * 2 + x) 1 k) ∙ ap (λ (n : ℕ). n / 2 ^ k) e)

  -- Where bit i is put, the other bits stay.
  around-bits : (b : ℕ) (on : Bool) (j : ℕ) → b < 2 → bit_at (around (bit on)) j ≡ cond (eqb j i) on (bit_at (around b) j)
  around-bits b on j m =
      elim (dec_lt j i) [
        | yes p ↦ rw (ne_eqb j i (λ e. omega arith), around-low (bit on) j p, around-low b j p)
        | no p ↦
            elim (dec_lt i j) [
              | yes q ↦
                  let e : i + (1 + (j - suc i)) ≡ j = omega arith in
                  let f : (x : ℕ) → x < 2 → around x / 2 ^ j ≡ h / 2 ^ (j - suc i) =
                  λ x k. subst (λ (n : ℕ). around x / 2 ^ n ≡ h / 2 ^ (j - suc i)) e (around-high x (j - suc i) k) in
                  rw (ne_eqb j i (λ e. omega arith), f (bit on) (bit-small on), f b m)
              | no q ↦
                  let e : j ≡ i = omega arith in
                  rw (e, eq-eqb i i refl, around_here (bit on) (bit-small on)) (bit-told on)
            ]
      ]
    where
      bit-told : (c : Bool) → eqb (bit c) 1 ≡ c
      bit-told true = refl
      bit-told false = refl

  around-small : (b x : ℕ) → b < 2 → x < 2 → i < word_bits → around b < 2 ^ word_bits → around x < 2 ^ word_bits
  around-small b x lb lx li small' =
      let e : 63 - i + (i + (1 + 0)) ≡ word_bits = omega arith in
      let p : 2 ^ word_bits ≡ 2 ^ (63 - i) * 2 ^ (i + (1 + 0)) = ap (λ (n : ℕ). 2 ^ n) (sym e) ∙ pow-add 2 (63 - i) (i + (1 + 0)) in
      let q = (div-lt_iff_lt-mul (pow_pos (i + (1 + 0)))).1 (rw p at small') in
      rw p ((div-lt_iff_lt-mul (pow_pos (i + (1 + 0)))).0 (rw (around-high x 0 lx, ← around-high b 0 lb) q))

-- The word that the machine works out: bit i taken out, and put in anew.
module _ (i w : ℕ) (on : Bool) (li : i < word_bits) (small : w < 2 ^ word_bits) where
  abbrev b : ℕ
  b = w / 2 ^ i % 2

  abbrev l : ℕ
  l = w % 2 ^ i

  abbrev h : ℕ
  h = w / 2 ^ i / 2

  word-around : (h * 2 + b) * 2 ^ i + l ≡ w
  word-around = rw (div-add-mod' (w / 2 ^ i) 2) (split w i)

  b-small : b < 2
  b-small = mod-lt (w / 2 ^ i) (omega arith)

  l-small : l < 2 ^ i
  l-small = mod-lt w (pow_pos i)

  -- The bit taken out is no more than the word.
  pub out-le : (w / 2 ^ i % 2 * 2 ^ i) % 2 ^ word_bits ≤ w
  out-le = rw (shl_exact 1 i word_bits b-small (omega arith)) (omega (arith, word-around, add-mul (h * 2) b (2 ^ i)))

  -- The bit taken out and put in anew is the bit put to a value.
  pub with-bit-machine : w - (w / 2 ^ i % 2 * 2 ^ i) % 2 ^ word_bits + (bit on * 2 ^ i) % 2 ^ word_bits ≡ with_bit i on w
  unfolding with_bit
  with-bit-machine =
      rw (shl_exact 1 i word_bits b-small (omega arith), shl_exact 1 i word_bits (bit-small on) (omega arith))
      (put ∙ word-only word_bits _ (λ j. cond (eqb j i) on (bit_at w j)) (around-small i h l l-small b (bit on) b-small (bit-small on) li (rw word-around small))
      (λ j m. around-bits i h l l-small b on j b-small ∙ rw word-around))
    where
      put : w - b * 2 ^ i + bit on * 2 ^ i ≡ (h * 2 + bit on) * 2 ^ i + l
      put = omega (arith, word-around, add-mul (h * 2) b (2 ^ i), add-mul (h * 2) (bit on) (2 ^ i))

  -- It is one of 64 bits.
  pub with-bit-room : w - (w / 2 ^ i % 2 * 2 ^ i) % 2 ^ word_bits + (bit on * 2 ^ i) % 2 ^ word_bits < 2 ^ word_bits
  with-bit-room = rw with-bit-machine (with-bit-small i w on)
