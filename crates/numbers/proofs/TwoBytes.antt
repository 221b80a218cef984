-- Numbers as bytes, both ways: the number that stands where its two bytes stand, and the bytes that stand where a number is read.
-- Assumes nothing.
use Prim.Native.Nat.{ℕ, suc, ◌+◌, ◌*◌, ◌/◌, ◌%◌, ◌<◌}
use native.Mathlib.Nat.{div-add-mod', add-mul-mod_self_left, add-mul-div_left, mod-eq_of_lt, div-eq_of_lt, add_assoc, zero-add, add-zero}
use native.Mathlib.Numerals.{add-one}
use native.Mathlib.Omega.{arith}
use mathlib.Core.Path.{◌≡◌, sym}
use mathlib.Core.List.{List, [], ◌∷◌, ◌++◌}
use lib.ListN.{length, take, drop, take-append-drop}
use lib.Seq.{drop-cons, drop-drop, take-add, get_or-append-add}
use Rattle.numbers.specs.Bytes.{word_at, number_at}
use Rattle.numbers.specs.Bytes.{two_bytes, Bytes}

-- The number read where a number's two bytes stand is that number.
pub number-back : (n : ℕ) (rest : List ℕ) → number_at (two_bytes n ++ rest) 0 ≡ n
unfolding word_at two_bytes
number-back n rest = omega (arith, div-add-mod' n 256)

-- Two bytes are the bytes of the number that they make.
two-bytes-of : (x y : ℕ) → x < 256 → x ∷ y ∷ [] ≡ two_bytes (x + 256 * (y + 256 * 0))
unfolding two_bytes
two-bytes-of x y h =
    sym (rw (add-zero y, add-mul-mod_self_left x 256 y, add-mul-div_left x y {y = 256} (omega arith), mod-eq_of_lt h, div-eq_of_lt h, zero-add))

-- Reading a number after a list that stands in front is reading it in the rest.
pub number-shift : (xs ys : List ℕ) (k : ℕ) → number_at (xs ++ ys) (length xs + k) ≡ number_at ys k
unfolding word_at
number-shift xs ys k = rw (add_assoc, get_or-append-add xs ys k 0, get_or-append-add xs ys (k + 1) 0)

-- The same where the offset is given by an equation.
pub number-at : (xs ys : List ℕ) (at k : ℕ) → at ≡ length xs + k → number_at (xs ++ ys) at ≡ number_at ys k
number-at xs ys at k e = rw e (number-shift xs ys k)

-- The two bytes at an offset are those of the number read there.
pub bytes_back : (s : List ℕ) (at : ℕ) → Bytes s → at + 1 < length s → take 2 (drop at s) ≡ two_bytes (number_at s at)
unfolding word_at
bytes_back s at bytes h =
    let l : at < length s = omega arith in
    let m : suc at < length s = omega arith in
    rw (add-one, drop-cons s at 0 l, drop-cons s (suc at) 0 m) (two-bytes-of _ _ (bytes at))

-- From an offset on, a string is the two bytes of the number read there and what follows them.
pub bytes-split : (s : List ℕ) (at : ℕ) → Bytes s → at + 1 < length s → drop at s ≡ two_bytes (number_at s at) ++ drop (at + 2) s
bytes-split s at bytes h = rw (← bytes_back s at bytes h, ← drop-drop 2 at s) (sym (take-append-drop 2 (drop at s)))

-- The bytes taken from an offset on begin with the two bytes of the number read there.
pub bytes-more : (s : List ℕ) (at m : ℕ) → Bytes s → at + 1 < length s
    → take (2 + m) (drop at s) ≡ two_bytes (number_at s at) ++ take m (drop (at + 2) s)
bytes-more s at m bytes h = rw (take-add 2 m (drop at s), drop-drop 2 at s, bytes_back s at bytes h)

-- Reading a number after a number's two bytes is reading it in the rest.
pub number-after : (n : ℕ) (rest : List ℕ) (k : ℕ) → number_at (two_bytes n ++ rest) (2 + k) ≡ number_at rest k
unfolding two_bytes
number-after n rest k = number-shift (n % 256 ∷ n / 256 ∷ []) rest k
