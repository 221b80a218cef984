-- For a parser that calls itself. What it promises of an expectation e at a cursor, over every stack K below: the bytes from there are
-- read as e ∷ K exactly as the bytes from its end are read as K; or reading stops. Its returns cite the laws here, one step each, and
-- join them with what its callees promise. Assumes nothing.
use Prim.Native.Nat.{ℕ, suc, ◌<◌}
use native.Mathlib.Omega.{arith}
use mathlib.Core.Path.{◌≡◌, refl}
use mathlib.Core.Bool.{Bool, true, false, cond}
use mathlib.Core.List.{List, [], ◌∷◌}
use lib.Dec.{eqb}
use lib.ListN.{length, drop}
use Rattle.paths.proofs.Machine.{Expected, byte, test, lettered, alternative, path, axis, after_step, is_digit, is_word, choices, pick, next, ended, stopped, run}

-- e is read from s, and r is left.
abbrev pub Reads : (after : Bool) (e : Expected) (s : List ℕ) (behind : Bool) (r : List ℕ) → Type 0
Reads w e s v r = (K : List Expected) → run w (e ∷ K) s ≡ run v K r

-- Reading e from s stops where `left` is left.
abbrev pub Stops : (after : Bool) (e : Expected) (s left : List ℕ) → Type 0
Stops w e s left = (K : List Expected) → run w (e ∷ K) s ≡ stopped left

-- ---- fixed words

-- The bytes of a word, expected one by one.
unfoldable pub spelt : List ℕ → List Expected → List Expected
spelt [] K = K
spelt (c ∷ x) K = byte c ∷ spelt x K

-- How many bytes of a word stand at the front of s.
unfoldable pub agree : (x s : List ℕ) → ℕ
agree [] s = 0
agree (c ∷ x) [] = 0
agree (c ∷ x) (b ∷ s) = cond (eqb b c) (suc (agree x s)) 0

-- A word that does not stand there whole: reading stops behind the bytes that agree.
pub word-stops : (x s : List ℕ) (w : Bool) (K : List Expected) → agree x s < length x → run w (spelt x K) s ≡ stopped (drop (agree x s) s)
unfolding agree spelt run next choices pick ended
word-stops [] s w K l = absurd (omega arith)
word-stops (c ∷ x) [] w K l = refl
word-stops (c ∷ x) (b ∷ s) w K l = go (eqb b c) refl l (word-stops x s (is_word b) K) where
  go : (t : Bool) → eqb b c ≡ t → cond t (suc (agree x s)) 0 < suc (length x)
      → (agree x s < length x → run (is_word b) (spelt x K) s ≡ stopped (drop (agree x s) s))
      → run w (spelt (c ∷ x) K) (b ∷ s) ≡ stopped (drop (cond t (suc (agree x s)) 0) (b ∷ s))
  go true f l k = rw f (k (omega arith))
  go false f l k = rw f

-- ---- what begins at a cursor

module _ (w : Bool) (K : List Expected) (s : List ℕ) where
  pub test-opens : run w (test ∷ K) (40 ∷ s) ≡ run false (test ∷ alternative ∷ test ∷ byte 41 ∷ K) s
  unfolding run next choices pick is_word is_digit
  test-opens = refl

  pub test_path : run w (test ∷ K) (60 ∷ s) ≡ run false (path ∷ K) s
  unfolding run next choices pick is_word is_digit
  test_path = refl

  pub test-space : run true (test ∷ K) (32 ∷ s) ≡ run false (lettered ∷ K) s
  unfolding run next choices pick is_word is_digit
  test-space = refl

  pub step-test : run w (path ∷ K) (63 ∷ s) ≡ run false (test ∷ after_step ∷ K) s
  unfolding run next choices pick is_word is_digit
  step-test = refl

  pub step-while : run w (path ∷ K) (40 ∷ s) ≡ run false (axis ∷ byte 63 ∷ test ∷ byte 41 ∷ byte 42 ∷ after_step ∷ K) s
  unfolding run next choices pick is_word is_digit
  step-while = refl

  pub path-on : run w (after_step ∷ K) (47 ∷ s) ≡ run false (path ∷ K) s
  unfolding run next choices pick is_word is_digit
  path-on = refl

  pub path-ends : run w (after_step ∷ K) (62 ∷ s) ≡ run false K s
  unfolding run next choices pick is_word is_digit
  path-ends = refl
