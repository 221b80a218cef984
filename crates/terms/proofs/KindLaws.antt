-- Laws of the table of kinds.
-- Assumes nothing.
use Prim.Native.Nat.{ℕ, zero, suc, ◌+◌, ◌≤◌, ◌<◌}
use native.Mathlib.Omega.{arith}
use native.Mathlib.Nat.{eq-or-lt_of_le}
use lib.ListN.{get_or-eq_default}
use mathlib.Core.Path.{◌≡◌, refl, ap, subst}
use mathlib.Core.Bool.{true, false}
use mathlib.Core.List.{[], ◌∷◌, map}
use mathlib.Core.Logic.{⊎_elim}
use Rattle.terms.specs.Kinds.{kind_rows, no_kind, row_of, leads_back, shape_looks_back, looks_back}
use Rattle.terms.specs.declared.kind.Row.{Row}

-- P holds at n numbers from lo on: what a range of a match, or a whole table, is shown by.
abbrev pub Each : (ℕ → Type 0) → ℕ → ℕ → Type 0
Each P lo zero = Unit
Each P lo (suc n) = P lo × Each P (lo + 1) n

-- Then it holds at each of them.
pub each : (P : ℕ → Type 0) (lo n : ℕ) → Each P lo n → (k : ℕ) → lo ≤ k → k < lo + n → P k
each P lo zero a k l h = absurd (omega arith)
each P lo (suc n) a k l h =
    ⊎_elim (λ e. subst P e a.0) (λ g. each P (lo + 1) n a.1 k (omega arith) (omega arith)) (eq-or-lt_of_le l)

-- Past the table there is no kind.
row-none : (k : ℕ) → 14 < k → row_of k ≡ no_kind
unfolding row_of
row-none k h = get_or-eq_default kind_rows no_kind {n = k} (omega arith)

-- Kinds 1 to 5, 7, 9, 11 and 13 look back; 6, 8, 10, 12 and 14 look ahead, and so does 0, which is no kind.
pub kinds-back : map looks_back (0 ∷ 1 ∷ 2 ∷ 3 ∷ 4 ∷ 5 ∷ 6 ∷ 7 ∷ 8 ∷ 9 ∷ 10 ∷ 11 ∷ 12 ∷ 13 ∷ 14 ∷ [])
    ≡ false ∷ true ∷ true ∷ true ∷ true ∷ true ∷ false ∷ true ∷ false ∷ true ∷ false ∷ true ∷ false ∷ true ∷ false ∷ []
unfolding row_of shape_looks_back leads_back
kinds-back = refl

-- Nor does a number past the table.
pub past_back : (k : ℕ) → 14 < k → looks_back k ≡ false
unfolding shape_looks_back
past_back k h = ap (λ (r : Row). shape_looks_back r.shape) (row-none k h)
