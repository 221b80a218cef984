-- Runs of stores by a layout: what a run keeps, and THE LAW, `read-run`: a number is what the last store into it has put there, and
-- stays where there is none, since two numbers of a layout share no byte. Assumes nothing.
use Prim.Native.Nat.{ℕ, zero, suc, ◌+◌, ◌*◌, ◌^◌, ◌≤◌, ◌<◌}
use native.Mathlib.Nat.{not-suc-le-zero, mul-suc, mul-le-mul_left}
use native.Mathlib.Decide.{dec_lt, ℕ_discrete}
use native.Mathlib.Omega.{arith}
use borrow.Author.Tests.{eq-eqb, ne_eqb}
use mathlib.Core.Path.{◌≡◌, refl, ap, ◌∙◌}
use mathlib.Core.Bool.{cond, ◌&&◌}
use mathlib.Core.List.{List, [], ◌∷◌}
use mathlib.Core.Logic.{◌⊎◌, inl, inr}
use lib.Dec.{eqb}
use lib.ListN.{length}
use Rattle.numbers.specs.Bytes.{Bytes, number_put}
use Rattle.state.specs.Layout.{Group, width_in, count_in, place_from, place_in, size_in, Store, number_in, stored}
use Rattle.numbers.proofs.ByteLaws.{put-length, put-bytes, word-other, word-put}

-- ---- two numbers of a layout

-- A number ends where the next one of its group stands, or before.
next-behind : (w i j : ℕ) → i < j → w * i + w ≤ w * j
next-behind w i j l = rw (← mul-suc w i) (mul-le-mul_left w l)

-- No number stands before the first group, and none ends behind the last.
place-least : (a : ℕ) (l : List Group) (g i : ℕ) → a ≤ place_from a l g i
unfolding place_from
place-least a [] g i = omega arith
place-least a (x ∷ xs) zero i = omega arith
place-least a (x ∷ xs) (suc g) i = omega (arith, place-least (a + x.width * x.count) xs g i)

place_inside : (a : ℕ) (l : List Group) (g i : ℕ) → i < count_in l g → place_from a l g i + width_in l g ≤ a + size_in l
unfolding count_in place_from width_in size_in
place_inside a [] g i h = absurd (not-suc-le-zero h)
place_inside a (x ∷ xs) zero i h = omega (arith, next-behind x.width i x.count h)
place_inside a (x ∷ xs) (suc g) i h = omega (arith, place_inside (a + x.width * x.count) xs g i h)

abbrev Apart : (a : ℕ) → List Group → (g i h j : ℕ) → Type 0
Apart a l g i h j = (place_from a l g i + width_in l g ≤ place_from a l h j) ⊎ (place_from a l h j + width_in l h ≤ place_from a l g i)

-- Two that are not the same share no byte.
places-apart : (a : ℕ) (l : List Group) (g i h j : ℕ) → i < count_in l g → j < count_in l h → (g ≡ h → i ≡ j → ⊥) → Apart a l g i h j
unfolding count_in place_from width_in
places-apart a [] g i h j p q n = absurd (not-suc-le-zero p)
places-apart a (x ∷ xs) zero i zero j p q n =
    elim (dec_lt i j) [
      | yes l ↦ inl (omega (arith, next-behind x.width i j l))
      | no l ↦ inr (omega (arith, next-behind x.width j i (below i j l (n refl))))
    ]
  where
    below : (i j : ℕ) → (i < j → ⊥) → (i ≡ j → ⊥) → j < i
    below i j p q = omega arith
places-apart a (x ∷ xs) zero i (suc h) j p q n =
    inl (omega (arith, next-behind x.width i x.count p, place-least (a + x.width * x.count) xs h j))
places-apart a (x ∷ xs) (suc g) i zero j p q n =
    inr (omega (arith, next-behind x.width j x.count q, place-least (a + x.width * x.count) xs g i))
places-apart a (x ∷ xs) (suc g) i (suc h) j p q n = places-apart (a + x.width * x.count) xs g i h j p q (λ e. n (ap suc e))

-- ---- runs

-- What the last store into number i of group g has put there; v where there is none.
unfoldable pub last_stored : (g i : ℕ) → List Store → ℕ → ℕ
last_stored g i [] v = v
last_stored g i (x ∷ xs) v = last_stored g i xs (cond (eqb x.group g && eqb x.index i) x.value v)

module _ (l : List Group) where
  -- Every store is into a number of the layout, and its value is no wider than that.
  unfoldable pub Fits : List Store → Type 0
  Fits [] = Unit {0}
  Fits (x ∷ xs) = ((x.index < count_in l x.group) × (x.value < 256 ^ width_in l x.group)) × Fits xs

  -- A run keeps the length, and that the bytes are bytes.
  pub run_length : (xs : List Store) (s : List ℕ) → length (stored l xs s) ≡ length s
  unfolding stored
  run_length [] s = refl
  run_length (x ∷ xs) s = run_length xs _ ∙ put-length (width_in l x.group) (place_in l x.group x.index) x.value s

  pub run-bytes : (xs : List Store) (s : List ℕ) → Bytes s → Bytes (stored l xs s)
  unfolding stored
  run-bytes [] s b = b
  run-bytes (x ∷ xs) s b = run-bytes xs _ (put-bytes (width_in l x.group) (place_in l x.group x.index) x.value s b)

  -- One store.
  read_one : (g i h j v : ℕ) (s : List ℕ) → i < count_in l g → j < count_in l h → v < 256 ^ width_in l h → size_in l ≤ length s
      → number_in l g i (number_put (width_in l h) (place_in l h j) v s) ≡ cond (eqb h g && eqb j i) v (number_in l g i s)
  read_one g i h j v s a b small room = go (ℕ_discrete h g) (ℕ_discrete j i) where
    other : (h ≡ g → j ≡ i → ⊥) → number_in l g i (number_put (width_in l h) (place_in l h j) v s) ≡ number_in l g i s
    other n = word-other (width_in l g) (place_in l g i) (width_in l h) (place_in l h j) v s (shared (places-apart 0 l h j g i b a n)) where
      shared : Apart 0 l h j g i → (k : ℕ) → place_in l g i ≤ k → k < place_in l g i + width_in l g → place_in l h j ≤ k → k < place_in l h j + width_in l h → ⊥
      shared (inl p) k q r t u = omega arith
      shared (inr p) k q r t u = omega arith

    go : Dec (h ≡ g) → Dec (j ≡ i) → number_in l g i (number_put (width_in l h) (place_in l h j) v s) ≡ cond (eqb h g && eqb j i) v (number_in l g i s)
    go (yes p) (yes q) =
        rw (p, q, eq-eqb g g refl, eq-eqb i i refl) (word-put (width_in l g) (place_in l g i) v s (omega (arith, place_inside 0 l g i a)) (rw p at small))
    go (yes p) (no q) = rw (eq-eqb h g p, ne_eqb j i q) (other (λ x. q))
    go (no p) q = rw (ne_eqb h g p) (other (λ x. absurd (p x)))

  -- THE LAW.
  pub read-run : (g i : ℕ) (xs : List Store) (s : List ℕ) → i < count_in l g → size_in l ≤ length s → Fits xs
      → number_in l g i (stored l xs s) ≡ last_stored g i xs (number_in l g i s)
  unfolding stored last_stored Fits
  read-run g i [] s a room f = refl
  read-run g i (x ∷ xs) s a room f =
      read-run g i xs _ a (rw (put-length (width_in l x.group) (place_in l x.group x.index) x.value s) room) f.1
      ∙ ap (last_stored g i xs) (read_one g i x.group x.index x.value s a f.0.0 f.0.1 room)
