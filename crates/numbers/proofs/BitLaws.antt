-- The bits of words, once over the number of bits: the laws serve more than one machine word for an element (`word_split`).
-- Assumes nothing.
use Prim.Native.Nat.{ℕ, zero, suc, pred, ◌+◌, ◌*◌, ◌/◌, ◌%◌, ◌^◌, ◌<◌, ◌≤◌, ◌-◌}
use native.Mathlib.Nat.{not-suc-le-zero, le_of_suc-le-suc, eq-or-lt_of_le, pow-suc, add_comm, add_assoc, min-le_left, mul-add, mul_assoc, mul_left_comm, add-zero}
use native.Mathlib.Nat.{add-suc, add_left_comm, add-mul-div_right, div-eq_of_lt, div-lt_iff_lt-mul, lt_of_lt_of_le, mod-lt, mul-zero, zero-mul, one-mul}
use native.Mathlib.Numerals.{add-one}
use native.Mathlib.Omega.{arith}
use mathlib.Core.Path.{◌≡◌, refl, ap, subst, sym, ◌∙◌}
use mathlib.Core.Bool.{Bool, true, false}
use mathlib.Core.List.{List, [], ◌∷◌, ◌++◌}
use mathlib.Core.Logic.{⊎_elim}
use lib.Dec.{eqb}
use lib.ListN.{length, get_or, take, length-take}
use lib.Seq.{take-suc}
use lib.Pow.{pow_pos, pow_mono, pow-add, high, split}
use lib.Bits.{block_odd}
use Rattle.numbers.specs.Bits.{bit, bit_at, word, have_bit}

-- ---- bits

-- The number before a number, as the machine works it out.
pub pred-sub : (n : ℕ) → n - 1 ≡ pred n
pred-sub zero = refl
pred-sub (suc n) = omega arith

-- A bit is one bit wide.
pub bit-small : (b : Bool) → bit b < 2 ^ 1
bit-small true = omega arith
bit-small false = omega arith

-- A bit's part of a word is its place at most.
pub bit_le : (b : Bool) (p : ℕ) → bit b * p ≤ p
bit_le true p = omega (arith, one-mul p)
bit_le false p = omega (arith, zero-mul p)

-- The lowest bit of a bit is the bit.
pub bit-told : (b : Bool) → eqb (bit b % 2) 1 ≡ b
bit-told true = refl
bit-told false = refl

-- The bit on top of m bits, and those below it.
pub bit-top : (m : ℕ) (b : Bool) (w : ℕ) → w < 2 ^ m → bit_at (bit b * 2 ^ m + w) m ≡ b
bit-top m b w h = rw (high (bit b) m h) (bit-told b)

bit-under-at : (j a x w : ℕ) → (x * 2 ^ (suc j + a) + w) / 2 ^ a % 2 ≡ w / 2 ^ a % 2
bit-under-at j a x w =
    rw (pow-add 2 (suc j) a, ← mul_assoc, add_comm, add-mul-div_right w (x * 2 ^ suc j) (pow_pos a), add_comm, block_odd x j (w / 2 ^ a))

pub bit-under : (m a : ℕ) (b : Bool) (w : ℕ) → a < m → bit_at (bit b * 2 ^ m + w) a ≡ bit_at w a
bit-under m a b w h =
    let e : suc (m - suc a) + a ≡ m = omega arith in
    ap (λ (n : ℕ). eqb n 1) (subst (λ (n : ℕ). (bit b * 2 ^ n + w) / 2 ^ a % 2 ≡ w / 2 ^ a % 2) e (bit-under-at (m - suc a) a (bit b) w))

-- ---- the word of m marks

-- A word of m marks is a number of m bits.
pub word_lt : (m : ℕ) (f : ℕ → Bool) → word m f < 2 ^ m
unfolding word
word_lt zero f = omega arith
word_lt (suc m) f = omega (arith, pow-suc 2 m, bit_le (f m) (2 ^ m), word_lt m f)

-- Bit a of a word is mark a.
pub word-bit : (m a : ℕ) (f : ℕ → Bool) → a < m → bit_at (word m f) a ≡ f a
unfolding word
word-bit zero a f h = absurd (not-suc-le-zero h)
word-bit (suc m) a f h =
    ⊎_elim (λ e. subst (λ (n : ℕ). bit_at (bit (f m) * 2 ^ m + word m f) n ≡ f n) (sym e) (bit-top m (f m) (word m f) (word_lt m f)))
    (λ l. bit-under m a (f m) (word m f) l ∙ word-bit m a f l)
    (eq-or-lt_of_le (le_of_suc-le-suc h))

-- Bits past the last mark are 0.
pub word-past : (m a : ℕ) (f : ℕ → Bool) → m ≤ a → bit_at (word m f) a ≡ false
word-past m a f h = rw (div-eq_of_lt (lt_of_lt_of_le (word_lt m f) (pow_mono h)))

-- Equal marks have equal words.
pub word_same : (m : ℕ) (f g : ℕ → Bool) → ((i : ℕ) → i < m → f i ≡ g i) → word m f ≡ word m g
unfolding word
word_same zero f g h = refl
word_same (suc m) f g h = rw (h m (omega arith), word_same m f g (λ i l. h i (omega arith)))

-- The word of m + k marks is that of the first m, and above it that of the other k: so an element's marks may be kept in parts.
pub word_split : (m k : ℕ) (f : ℕ → Bool) → word (m + k) f ≡ word m f + 2 ^ m * word k (λ i. f (m + i))
unfolding word
word_split m zero f = rw (add-zero m, mul-zero (2 ^ m), add-zero (word m f))
word_split m (suc k) f =
    rw (add-suc m k, word, word_split m k f, pow-add 2 m k, mul-add, mul_left_comm (bit (f (m + k))) (2 ^ m) (2 ^ k))
    (add_left_comm _ _ _)

-- A number of one bit more: its top bit, and the bits below.
bit-low : (q : ℕ) → q < 2 → bit (eqb (q % 2) 1) ≡ q
bit-low zero h = refl
bit-low (suc zero) h = refl
bit-low (suc (suc q)) h = absurd (omega arith)

number-top : (m w : ℕ) → w < 2 ^ suc m → bit (bit_at w m) * 2 ^ m + w % 2 ^ m ≡ w
number-top m w h =
    rw (bit-low (w / 2 ^ m) ((div-lt_iff_lt-mul (pow_pos m)).1 (omega (arith, pow-suc 2 m)))) (split w m)

-- A number of m bits that are the marks is their word.
pub word-only : (m w : ℕ) (f : ℕ → Bool) → w < 2 ^ m → ((i : ℕ) → i < m → bit_at w i ≡ f i) → w ≡ word m f
unfolding word
word-only zero w f h e = omega arith
word-only (suc m) w f h e =
    let top = number-top m w h in
    let low : (i : ℕ) → i < m → bit_at (w % 2 ^ m) i ≡ f i =
    λ i l. sym (bit-under m i (bit_at w m) (w % 2 ^ m) l) ∙ ap (λ (x : ℕ). bit_at x i) top ∙ e i (omega arith) in
    rw (← word-only m (w % 2 ^ m) f (mod-lt w (pow_pos m)) low, ← e m (omega arith)) (sym top)

-- ---- how many words have a bit

-- One word more counts its own bit more.
pub have_bit-more : (a w : ℕ) (ws : List ℕ) → have_bit a (ws ++ (w ∷ [])) ≡ have_bit a ws + bit (bit_at w a)
unfolding have_bit
have_bit-more a w [] = add_comm _ _
have_bit-more a w (v ∷ ws) = rw (have_bit-more a w ws) (sym (add_assoc _ _ _))

-- No more than there are words.
pub have_bit-few : (a : ℕ) (ws : List ℕ) → have_bit a ws ≤ length ws
unfolding have_bit
have_bit-few a [] = omega arith
have_bit-few a (w ∷ ws) = omega (arith, bit-small (bit_at w a), have_bit-few a ws)

-- Of the first s words no more than s.
pub have_bit-first : (a s : ℕ) (ws : List ℕ) → have_bit a (take s ws) ≤ s
have_bit-first a s ws = omega (arith, have_bit-few a (take s ws), length-take s ws, min-le_left s (length ws))

-- A count of the first words goes on with the next word's bit.
pub have_bit-next : {count : ℕ} (a s : ℕ) (ws : List ℕ) → s < length ws → count ≡ have_bit a (take s ws)
    → count + bit (bit_at (get_or ws s 0) a) ≡ have_bit a (take (s + 1) ws)
have_bit-next a s ws l e = rw (add-one s, take-suc ws s 0 l, have_bit-more, e)
