-- The order of three rows: of their numbers the first row's that applies is given, and 0 where none applies.
-- Over any three numbers, so that it serves rule records (4, 2, 3) and report records (6, 7, 8). Assumes nothing.
use Prim.Native.Nat.{ℕ}
use mathlib.Core.Path.{◌≡◌, refl, sym}
use mathlib.Core.Bool.{Bool, true, false, cond}
use mathlib.Core.Logic.{◌⊎◌, inl, inr, ◌↔◌}
use Rattle.numbers.proofs.Tells.{IsTest, holds, fails, pick-here, pick-later, pick-never}

-- Three numbers that differ from each other and from 0.
pub record Distinct (x y z : ℕ) : Type 0 where
  pub some_x : x ≡ 0 → ⊥
  pub some_y : y ≡ 0 → ⊥
  pub some_z : z ≡ 0 → ⊥
  pub x_y : x ≡ y → ⊥
  pub x_z : x ≡ z → ⊥
  pub y_z : y ≡ z → ⊥

-- The number of the first of three tests that passes; 0 where none does.
abbrev pub chain : ℕ → ℕ → ℕ → Bool → Bool → Bool → ℕ
chain x y z a b c = cond a x (cond b y (cond c z 0))

-- No other number is given.
pub chain-numbers : (x y z : ℕ) (a b c : Bool) (k : ℕ) → chain x y z a b c ≡ k → (k ≡ 0 → ⊥) → (k ≡ x) ⊎ ((k ≡ y) ⊎ (k ≡ z))
chain-numbers x y z true b c k e n = inl (sym e)
chain-numbers x y z false true c k e n = inr (inl (sym e))
chain-numbers x y z false false true k e n = inr (inr (sym e))
chain-numbers x y z false false false k e n = absurd (n (sym e))

module _ {P Q R : Type 0} {a b c : Bool} (x y z : ℕ) (d : Distinct x y z) (p : IsTest P a) (q : IsTest Q b) (r : IsTest R c) where
  -- The first number is given exactly where the first row applies.
  pub chain-first-iff : (chain x y z a b c ≡ x) ↔ P
  chain-first-iff =
      pick-here x _ p
      (pick-never b y _ x (λ e. d.x_y (sym e)) (pick-never c z 0 x (λ e. d.x_z (sym e)) (λ e. d.some_x (sym e))))

  -- The second number is given exactly where the second row applies and the first does not.
  pub chain-second-iff : (chain x y z a b c ≡ y) ↔ ((P → ⊥) × Q)
  chain-second-iff = pick-later x _ y p d.x_y (pick-here y _ q (pick-never c z 0 y (λ e. d.y_z (sym e)) (λ e. d.some_y (sym e))))

  -- The third number is given exactly where the third row applies and neither of the others does.
  pub chain-third-iff : (chain x y z a b c ≡ z) ↔ ((P → ⊥) × ((Q → ⊥) × R))
  chain-third-iff = pick-later x _ z p d.x_z (pick-later y _ z q d.y_z (pick-here z 0 r (λ e. d.some_z (sym e))))

  -- 0 is given exactly where no row applies.
  pub chain-none-iff : (chain x y z a b c ≡ 0) ↔ ((P → ⊥) × ((Q → ⊥) × (R → ⊥)))
  chain-none-iff = pick-later x _ 0 p d.some_x (pick-later y _ 0 q d.some_y (last r)) where
    last : {t : Bool} → IsTest R t → (cond t z 0 ≡ 0) ↔ (R → ⊥)
    last (holds h) = (λ e. absurd (d.some_z e), λ n. absurd (n h))
    last (fails n) = (λ e. n, λ m. refl)
