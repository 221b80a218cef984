-- Numbers of any width in a byte string: their parts, their bound, and what storing one changes and keeps.
-- Assumes nothing.
use Prim.Native.Nat.{ℕ, zero, suc, ◌+◌, ◌*◌, ◌/◌, ◌%◌, ◌^◌, ◌≤◌, ◌<◌}
use native.Mathlib.Nat.{add-zero, zero-add, one-mul, mul_assoc, pow-suc, pow-succ', div-one, div-div-eq-div-mul, div-lt_iff_lt-mul, mod-lt}
use native.Mathlib.Nat.{div-add-mod'}
use native.Mathlib.Omega.{arith}
use native.Mathlib.Numerals.{add-one}
use mathlib.Core.Path.{◌≡◌, refl, sym, ap, subst, ◌∙◌}
use mathlib.Core.List.{List, [], ◌∷◌}
use lib.ListN.{length, get_or, set, length-set}
use lib.Seq.{sets, length-sets, get_or-set_same, get_or-set_other}
use Rattle.numbers.specs.Lists.{put_at}
use Rattle.numbers.specs.Bytes.{Bytes, word_at, low_bytes, number_put}

-- ---- parts and bounds

-- A number of j + k bytes is the number of the first j, and above it that of the other k.
pub word_split : (j k : ℕ) (s : List ℕ) (at : ℕ) → word_at (j + k) s at ≡ word_at j s at + 256 ^ j * word_at k s (at + j)
unfolding word_at
word_split zero k s at = rw (zero-add k, add-zero at, one-mul (word_at k s at), zero-add (word_at k s at))
word_split (suc j) k s at =
    let e : at + suc j ≡ at + 1 + j = omega arith in
    let n : suc j + k ≡ suc (j + k) = omega arith in
    let p : 256 ^ suc j * word_at k s (at + 1 + j) ≡ 256 * (256 ^ j * word_at k s (at + 1 + j)) = rw (pow-succ' 256 j) (mul_assoc 256 (256 ^ j) _) in
    rw (n, e, word_at) (omega (arith, p, word_split j k s (at + 1)))

-- A number of k bytes is below 256 to the k.
pub word_small : (k : ℕ) (s : List ℕ) → Bytes s → (at : ℕ) → word_at k s at < 256 ^ k
unfolding word_at
word_small zero s b at = omega arith
word_small (suc k) s b at = omega (arith, pow-suc 256 k, b at, word_small k s b (at + 1))

-- ---- a number stored, byte by byte

-- No byte: the string as it was.
pub put-none : (at v : ℕ) (s : List ℕ) → number_put zero at v s ≡ s
unfolding number_put low_bytes put_at
put-none at v s = refl

-- One byte more: the lowest, and the others behind it.
pub put_step : (k at v : ℕ) (s : List ℕ) → number_put (suc k) at v s ≡ number_put k (at + 1) (v / 256) (set s at (v % 256))
unfolding number_put low_bytes put_at
put_step k at v s = ap (λ (i : ℕ). sets (set s at (v % 256)) i (low_bytes k (v / 256))) (sym (add-one at))

-- Storing j + k bytes is storing the first j, and then the other k behind them.
pub put-split : (j k at v : ℕ) (s : List ℕ) → number_put (j + k) at v s ≡ number_put k (at + j) (v / 256 ^ j) (number_put j at v s)
put-split zero k at v s = rw (zero-add k, add-zero at, div-one v, put-none at v s)
put-split (suc j) k at v s =
    let e : at + suc j ≡ at + 1 + j = omega arith in
    let n : suc j + k ≡ suc (j + k) = omega arith in
    let d : v / 256 ^ suc j ≡ v / 256 / 256 ^ j = rw (pow-succ' 256 j) (sym (div-div-eq-div-mul v 256 (256 ^ j))) in
    rw (n, e, d, put_step (j + k) at v s, put_step j at v s) (put-split j k (at + 1) (v / 256) (set s at (v % 256)))

-- ---- what a store keeps

-- The length.
pub put-length : (k at v : ℕ) (s : List ℕ) → length (number_put k at v s) ≡ length s
unfolding number_put put_at
put-length k at v s = length-sets s at (low_bytes k v)

-- Every byte that is not one of the k.
put_other : (k at v : ℕ) (s : List ℕ) (i : ℕ) → (at ≤ i → i < at + k → ⊥) → get_or (number_put k at v s) i 0 ≡ get_or s i 0
put_other zero at v s i n = rw (put-none at v s)
put_other (suc k) at v s i n =
    rw (put_step k at v s)
    (put_other k (at + 1) (v / 256) (set s at (v % 256)) i (λ l m. n (omega arith) (omega arith))
    ∙ get_or-set_other s at i (v % 256) 0 (λ e. n (omega arith) (omega arith)))

-- A number depends on its own bytes only.
word_same : (j p : ℕ) (s t : List ℕ) → ((i : ℕ) → p ≤ i → i < p + j → get_or s i 0 ≡ get_or t i 0) → word_at j s p ≡ word_at j t p
unfolding word_at
word_same zero p s t h = refl
word_same (suc j) p s t h =
    rw (h p (omega arith) (omega arith), word_same j (p + 1) s t (λ i l m. h i (omega arith) (omega arith)))

-- So every number that shares no byte with the k.
pub word-other : (j p k at v : ℕ) (s : List ℕ) → ((i : ℕ) → p ≤ i → i < p + j → at ≤ i → i < at + k → ⊥)
    → word_at j (number_put k at v s) p ≡ word_at j s p
word-other j p k at v s n = word_same j p _ s (λ i l m. put_other k at v s i (n i l m))

set-bytes : (s : List ℕ) (at x : ℕ) → Bytes s → x < 256 → Bytes (set s at x)
set-bytes [] at x b h i = b i
set-bytes (y ∷ s) zero x b h zero = h
set-bytes (y ∷ s) zero x b h (suc i) = b (suc i)
set-bytes (y ∷ s) (suc at) x b h zero = b zero
set-bytes (y ∷ s) (suc at) x b h (suc i) = set-bytes s at x (λ j. b (suc j)) h i

-- A byte string stays one.
pub put-bytes : (k at v : ℕ) (s : List ℕ) → Bytes s → Bytes (number_put k at v s)
put-bytes zero at v s b = subst Bytes (sym (put-none at v s)) b
put-bytes (suc k) at v s b =
    subst Bytes (sym (put_step k at v s)) (put-bytes k (at + 1) (v / 256) _ (set-bytes s at (v % 256) b (mod-lt v (omega arith))))

-- ---- what a store changes

-- The number read where a value is stored is that value, where there is room and the value has no more bytes.
pub word-put : (k at v : ℕ) (s : List ℕ) → at + k ≤ length s → v < 256 ^ k → word_at k (number_put k at v s) at ≡ v
unfolding word_at
word-put zero at v s r h = omega arith
word-put (suc k) at v s r h =
    let t = set s at (v % 256) in
    let low : get_or (number_put k (at + 1) (v / 256) t) at 0 ≡ v % 256 =
    put_other k (at + 1) (v / 256) t at (λ l m. omega arith) ∙ get_or-set_same s at (v % 256) 0 (omega arith) in
    let room : at + 1 + k ≤ length t = rw length-set (omega arith) in
    let high = word-put k (at + 1) (v / 256) t room ((div-lt_iff_lt-mul {k = 256} (omega arith)).1 (omega (arith, pow-suc 256 k))) in
    rw (put_step k at v s) (omega (arith, low, high, div-add-mod' v 256))
