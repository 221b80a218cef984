-- The laws of `first`: where it stops, every number before fails the test and the one there passes it; and only one number is so.
-- Assumes nothing.
use Prim.Native.Nat.{ℕ, zero, suc, ◌+◌, ◌≤◌, ◌<◌}
use native.Mathlib.Omega.{arith}
use native.Mathlib.Nat.{eq-or-lt_of_le}
use native.Mathlib.Decide.{dec_lt}
use mathlib.Core.Path.{◌≡◌, refl, subst}
use mathlib.Core.Bool.{Bool, true, false, cond}
use mathlib.Core.Logic.{⊎_elim}
use Rattle.numbers.specs.First.{first_from, first}

pub clash : {A : Type 0} {b : Bool} → b ≡ true → b ≡ false → A
clash e f = let z : ◌≡◌ {A = ℕ} 0 1 = cc in absurd (omega arith)

module _ (p : ℕ → Bool) where
  -- k is where the search from i on stops: the tests before it fail, and the test at it passes unless all n are looked at
  pub record Stops (i n k : ℕ) : Type 0 where
    pub low : i ≤ k
    pub high : k ≤ i + n
    pub before : (j : ℕ) → i ≤ j → j < k → p j ≡ false
    pub there : k < i + n → p k ≡ true

  from-stops-at : (b : Bool) (i n k : ℕ) → p i ≡ b → Stops (suc i) n k → Stops i (suc n) (cond b i k)
  from-stops-at true i n k e s =
      record { low = omega arith; high = omega arith; before = λ j l h. absurd (omega arith); there = λ h. e }
  from-stops-at false i n k e s =
      record {
        low = omega (arith, s.low);
        high = omega (arith, s.high);
        before = λ j l h. ⊎_elim (λ q. subst (λ (x : ℕ). p x ≡ false) q e) (λ m. s.before j m h) (eq-or-lt_of_le l);
        there = λ h. s.there (omega arith);
      }

  pub from-stops : (i n : ℕ) → Stops i n (first_from p i n)
  unfolding first_from
  from-stops i zero =
      record { low = omega arith; high = omega arith; before = λ j l h. absurd (omega arith); there = λ h. absurd (omega arith) }
  from-stops i (suc n) = from-stops-at (p i) i n (first_from p (suc i) n) refl (from-stops (suc i) n)

  -- two such places are one
  stops-order : {i n k m : ℕ} → Stops i n k → Stops i n m → k < m → ⊥
  stops-order {i} {n} {k} {m} s t l = clash (s.there (omega (arith, t.high))) (t.before k s.low l)

  pub stops-only : {i n k m : ℕ} → Stops i n k → Stops i n m → k ≡ m
  stops-only {i} {n} {k} {m} s t =
      elim (dec_lt k m) [
        | yes l ↦ absurd (stops-order s t l)
        | no a ↦ elim (dec_lt m k) [ yes l ↦ absurd (stops-order t s l) | no b ↦ omega arith ]
      ]

  -- what `first` finds, for a caller that has the place
  pub first-is : (n k : ℕ) → k ≤ n → ((j : ℕ) → j < k → p j ≡ false) → (k < n → p k ≡ true) → first p n ≡ k
  first-is n k h before there =
      stops-only (from-stops 0 n)
      (record { low = omega arith; high = omega arith; before = λ j l m. before j m; there = λ l. there (omega arith) })

  pub first-le : (n : ℕ) → first p n ≤ n
  first-le n = omega (arith, (from-stops 0 n).high)

  pub first-before : (n j : ℕ) → j < first p n → p j ≡ false
  first-before n j h = (from-stops 0 n).before j (omega arith) h

  pub first-there : (n : ℕ) → first p n < n → p (first p n) ≡ true
  first-there n h = (from-stops 0 n).there (omega arith)
