-- Laws of one record and of where records begin: the test of a record tells whether it is faulty; records without fault lie within
-- the string. Assumes nothing.
use Prim.Native.Nat.{ℕ, zero, suc, ◌+◌, ◌-◌, ◌*◌, ◌≤◌, ◌<◌}
use native.Mathlib.Nat.{add-zero, add-suc}
use native.Mathlib.Omega.{arith}
use mathlib.Core.Path.{◌≡◌, refl}
use mathlib.Core.Bool.{Bool, cond}
use mathlib.Core.List.{List}
use lib.ListN.{length}
use Rattle.numbers.specs.Bytes.{number_at}
use Rattle.terms.specs.Frame.{frame_of, kind_at, broken, next_of, start_of, Whole, Cut, Garbled}
use Rattle.grammar.specs.When.{Faulty, few-left, unknown-kind, wrong-length, past_end}
use Rattle.numbers.proofs.Tells.{IsTest, holds, fails, test-stable, ltb-tests, eqb-tests}

-- ---- one record

module _ (lengths : ℕ → ℕ) (s : List ℕ) (at : ℕ) where
  -- What a record without fault is: 4 bytes or more are left, its kind is known, its length is its kind's, it ends within the string.
  pub record Sound : Type 0 where
    pub left : at + 4 ≤ length s
    pub known : lengths (kind_at s at) ≡ 0 → ⊥
    pub right : number_at s at ≡ lengths (kind_at s at)
    pub fits : at + 2 + number_at s at ≤ length s

  -- A sound record is not faulty.
  pub sound-unfaulty : Sound → Faulty lengths s at → ⊥
  sound-unfaulty r (few-left h) = omega (arith, r.left)
  sound-unfaulty r (unknown-kind e) = r.known e
  sound-unfaulty r (wrong-length n) = n r.right
  sound-unfaulty r (past_end h) = omega (arith, r.fits)

  broken-told-at : {b1 b2 b3 b4 : Bool} → IsTest (length s < at + 4) b1 → IsTest (lengths (kind_at s at) ≡ 0) b2
      → IsTest (number_at s at ≡ lengths (kind_at s at)) b3 → IsTest (length s < at + 2 + lengths (kind_at s at)) b4
      → IsTest (Faulty lengths s at) (broken (cond b1 Cut (cond b2 Garbled (cond b3 (cond b4 Cut Whole) Garbled))))
  broken-told-at (holds h) t2 t3 t4 = holds (few-left h)
  broken-told-at (fails h) (holds e) t3 t4 = holds (unknown-kind e)
  broken-told-at (fails h) (fails k) (holds e) (holds l) = holds (past_end (omega arith))
  broken-told-at (fails h) (fails k) (holds e) (fails l) =
      fails (sound-unfaulty (record { left = omega arith; known = k; right = e; fits = omega arith }))
  broken-told-at (fails h) (fails k) (fails n) t4 = holds (wrong-length n)

  -- The test of rows 2 and 6 tells whether a record is faulty.
  pub broken-told : IsTest (Faulty lengths s at) (broken (frame_of s at (lengths (kind_at s at))))
  unfolding frame_of
  broken-told =
      broken-told-at (ltb-tests (length s) (at + 4)) (eqb-tests (lengths (kind_at s at)) 0)
      (eqb-tests (number_at s at) (lengths (kind_at s at))) (ltb-tests (length s) (at + 2 + lengths (kind_at s at)))

  -- A record that is not faulty is sound.
  pub unfaulty-sound : (Faulty lengths s at → ⊥) → Sound
  unfaulty-sound n =
      let h : length s < at + 4 → ⊥ = λ l. n (few-left l) in
      let p : length s < at + 2 + number_at s at → ⊥ = λ l. n (past_end l) in
      record {
        left = omega arith;
        known = λ e. n (unknown-kind e);
        right = test-stable (eqb-tests (number_at s at) (lengths (kind_at s at))) (λ m. n (wrong-length m));
        fits = omega arith;
      }

-- ---- where records begin
module _ (s : List ℕ) where
  -- A record begins where the one before it ends.
  pub start-step : (i : ℕ) → start_of s (suc i) ≡ start_of s i + 2 + number_at s (start_of s i)
  unfolding start_of next_of
  start-step i = refl

  start-grows : (i k : ℕ) → start_of s i + 2 * k ≤ start_of s (i + k)
  start-grows i zero = rw (add-zero i) (omega arith)
  start-grows i (suc k) = rw (add-suc i k) (omega (arith, start-grows i k, start-step (i + k)))

  -- Every record takes two bytes or more.
  pub start-far : (i j : ℕ) → i ≤ j → start_of s i + 2 * (j - i) ≤ start_of s j
  start-far i j h = let e : i + (j - i) ≡ j = omega arith in rw e at (start-grows i (j - i))

  -- Later records begin later.
  pub start-strict : (i j : ℕ) → i < j → start_of s i < start_of s j
  start-strict i j h = omega (arith, start-far i j (omega arith))

  -- The records before which no record has a fault begin within the string.
  pub start-within : (lengths : ℕ → ℕ) (i : ℕ) → ((j : ℕ) → j < i → Faulty lengths s (start_of s j) → ⊥) → start_of s i ≤ length s
  unfolding start_of
  start-within lengths zero h = omega arith
  start-within lengths (suc i) h = omega (arith, start-step i, (unfaulty-sound lengths s (start_of s i) (h i (omega arith))).fits)
