-- The table of kinds, row by row: there are four sorts of rows, and each kind has its sort. From that, what the readers of rules need
-- of a row: its length is that of its arguments, its arguments are two or fewer, and what they are. Assumes nothing.
use Prim.Native.Nat.{ℕ, zero, suc, ◌+◌, ◌*◌, ◌≤◌}
use native.Mathlib.Nat.{add-zero, add-suc, suc-add, zero-add}
use native.Mathlib.Omega.{arith}
use mathlib.Core.Path.{◌≡◌, refl}
use mathlib.Core.List.{List, [], ◌∷◌}
use lib.ListN.{get_or}
use Rattle.terms.specs.Kinds.{row, no_kind, kind_rows, row_of, shape_of, local_numbers, numbers_of}
use Rattle.terms.specs.declared.kind.Axis.TheVariants.{Child, Parent, Next, Previous}
use Rattle.terms.specs.declared.kind.Local.TheVariants.{Always, HasLabel, Negation, Disjunction, Conjunction}
use Rattle.terms.specs.declared.kind.Shape.{Shape}
use Rattle.terms.specs.declared.kind.Shape.TheVariants.{Here, SomeAlong, UntilAlong, EveryChild}
use Rattle.terms.specs.declared.kind.Numbers.TheVariants.{Label, Entries}
use Rattle.terms.specs.declared.kind.Row.{Row}

-- The row of a kind: none for 0 and from 15 on, no body for 1, a label for 2, one entry number or two from 3 to 14.
pub data Sort : ℕ → Row → Type 0 where
  no_zero : Sort 0 no_kind
  no_more : (kind : ℕ) → 15 ≤ kind → Sort kind no_kind
  bare : Sort 1 (row 2 0 (Here Always))
  labelled : Sort 2 (row 4 1 (Here HasLabel))
  one : (kind : ℕ) (shape : Shape) → 3 ≤ kind → kind ≤ 14 → numbers_of shape ≡ Entries → Sort kind (row 4 1 shape)
  two : (kind : ℕ) (shape : Shape) → 3 ≤ kind → kind ≤ 14 → numbers_of shape ≡ Entries → Sort kind (row 6 2 shape)

-- The rows in a list, from kind n on, are of their sorts.
data Sorts : ℕ → List Row → Type 0 where
  end : (n : ℕ) → 15 ≤ n → Sorts n []
  more : {n : ℕ} {r : Row} {rs : List Row} → Sort n r → Sorts (suc n) rs → Sorts n (r ∷ rs)

sorts-at : {n : ℕ} {rs : List Row} → Sorts n rs → (k : ℕ) → Sort (n + k) (get_or rs k no_kind)
sorts-at (end n h) k = no_more (n + k) (omega arith)
sorts-at {n} (more r rs) zero = rw add-zero r
sorts-at {n} (more r rs) (suc k) = rw (add-suc n k, ← suc-add n k) (sorts-at rs k)

-- Each kind's row is of its sort.
pub row-sort : (kind : ℕ) → Sort kind (row_of kind)
unfolding row_of numbers_of local_numbers
row-sort kind = rw zero-add at (sorts-at rows kind) where
  rows : Sorts 0 kind_rows
  rows =
      more no_zero (more bare (more labelled
      (more (one 3 (Here Negation) (omega arith) (omega arith) refl) (more (two 4 (Here Disjunction) (omega arith) (omega arith) refl) (more (two 5 (Here Conjunction) (omega arith) (omega arith) refl)
      (more (one 6 (SomeAlong Child) (omega arith) (omega arith) refl) (more (one 7 (SomeAlong Parent) (omega arith) (omega arith) refl) (more (one 8 (SomeAlong Next) (omega arith) (omega arith) refl)
      (more (one 9 (SomeAlong Previous) (omega arith) (omega arith) refl) (more (two 10 (UntilAlong Child) (omega arith) (omega arith) refl) (more (two 11 (UntilAlong Parent) (omega arith) (omega arith) refl)
      (more (two 12 (UntilAlong Next) (omega arith) (omega arith) refl) (more (two 13 (UntilAlong Previous) (omega arith) (omega arith) refl) (more (one 14 EveryChild (omega arith) (omega arith) refl)
      (end 15 (omega arith))))))))))))))))

-- ---- what the readers need of a row

-- A kind that has a row is one of 1 to 14.
pub known-range : (kind : ℕ) → ((row_of kind).length ≡ 0 → ⊥) → (1 ≤ kind) × (kind ≤ 14)
known-range kind n = go (row-sort kind) n where
  go : {k : ℕ} {r : Row} → Sort k r → (r.length ≡ 0 → ⊥) → (1 ≤ k) × (k ≤ 14)
  go no_zero m = absurd (m refl)
  go (no_more k l) m = absurd (m refl)
  go bare m = (omega arith, omega arith)
  go labelled m = (omega arith, omega arith)
  go (one k x l h e) m = (omega arith, omega arith)
  go (two k x l h e) m = (omega arith, omega arith)

-- A row's sizes: two bytes for the kind and two for each argument, of which there are two at most, and one at most where they are
-- no entry numbers.
pub record Measured (r : Row) : Type 0 where
  pub long : r.length ≡ 2 + 2 * r.arguments
  pub few : r.arguments ≤ 2
  pub fewer : (r.numbers ≡ Entries → ⊥) → r.arguments ≤ 1

-- The row of a known kind has these sizes.
pub row-measured : (kind : ℕ) → ((row_of kind).length ≡ 0 → ⊥) → Measured (row_of kind)
row-measured kind n = go (row-sort kind) n where
  go : {k : ℕ} {r : Row} → Sort k r → (r.length ≡ 0 → ⊥) → Measured r
  go no_zero m = absurd (m refl)
  go (no_more k l) m = absurd (m refl)
  go bare m = record { long = refl; few = omega arith; fewer = λ f. omega arith }
  go labelled m = record { long = refl; few = omega arith; fewer = λ f. omega arith }
  go (one k x l h e) m = record { long = refl; few = omega arith; fewer = λ f. omega arith }
  go (two k x l h e) m = record { long = refl; few = omega arith; fewer = λ f. absurd (f e) }

-- Kind 2 has a label.
pub kind-label : (row_of 2).numbers ≡ Label
unfolding row_of numbers_of local_numbers
kind-label = refl

-- Kinds 3 to 14 have entry numbers.
pub kind-entries : (kind : ℕ) → 3 ≤ kind → kind ≤ 14 → (row_of kind).numbers ≡ Entries
kind-entries kind l h = go (row-sort kind) l h where
  go : {k : ℕ} {r : Row} → Sort k r → 3 ≤ k → k ≤ 14 → r.numbers ≡ Entries
  go no_zero a b = absurd (omega arith)
  go (no_more k c) a b = absurd (omega arith)
  go bare a b = absurd (omega arith)
  go labelled a b = absurd (omega arith)
  go (one k x c d e) a b = e
  go (two k x c d e) a b = e

-- The numbers of a row are those of its shape.
pub numbers-are : (kind : ℕ) → (row_of kind).numbers ≡ numbers_of (shape_of kind)
numbers-are kind = go (row-sort kind) where
  go : {k : ℕ} {r : Row} → Sort k r → r.numbers ≡ numbers_of r.shape
  go no_zero = refl
  go (no_more k l) = refl
  go bare = refl
  go labelled = refl
  go (one k x l h e) = refl
  go (two k x l h e) = refl
