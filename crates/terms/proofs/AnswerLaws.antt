-- Laws of answers: what is an acceptance, and bounds on places and counts. Assumes nothing.
use Prim.Native.Nat.{ℕ, ◌≤◌}
use native.Mathlib.Omega.{arith}
use mathlib.Core.Path.{◌≡◌, refl, sym, subst}
use mathlib.Core.Bool.{Bool, true, false, cond, ◌||◌}
use mathlib.Core.List.{List}
use Rattle.terms.specs.Answer.{number_of, place_of, count_of, by_answer, where_accepted, in_order, numbered, Accepts, Answer, Accepted, Refused}
use borrow.Author.Tests.{ltb-false, eqb-true, eqb-false, ne_eqb}
use lib.Dec.{ltb, eqb}

-- An answer that is an acceptance, from the acceptance itself.
pub accepts-of : {r : Answer} {n : ℕ} → Accepted n ≡ r → Accepts r
accepts-of e = subst Accepts e tt

pub found-accepted : (r : Answer) (xs : List ℕ) → Accepts r → where_accepted r xs ≡ xs
found-accepted (Accepted n) xs a = refl
found-accepted (Refused number place) xs a = absurd a

-- A refusal is no acceptance.
pub refused-not : {A : Type 0} {number place n : ℕ} → Refused number place ≡ Accepted n → A
refused-not e = let z : ◌≡◌ {A = ℕ} 0 1 = cc in absurd (omega arith)

-- ---- a refusal's number is not 0

-- Number 0 is given to an acceptance alone.
abbrev pub Sound : Answer → Type 0
Sound a = number_of a ≡ 0 → Accepts a

-- So it is of answers in order, and of what a table of numbers answers.
pub order-sound : (a b : Answer) → Sound a → Sound b → Sound (in_order a b)
order-sound (Accepted n) b p q = q
order-sound (Refused number place) b p q = p

pub numbered-sound : (number count : ℕ) → Sound (numbered number count)
unfolding numbered
numbered-sound number count = go (eqb number 0) refl
  where
    go : (b : Bool) → eqb number 0 ≡ b → Sound (cond b (Accepted count) (Refused number 0))
    go true e z = tt
    go false e z = absurd (eqb-false number 0 e z)

-- What depends on an answer that is sound depends on whether its number is 0.
pub sound-by {ℓ} : {A : Type ℓ} (a : Answer) → Sound a → (x y : A) → by_answer a x y ≡ cond (eqb (number_of a) 0) x y
sound-by (Accepted n) s x y = refl
sound-by (Refused number place) s x y = rw (ne_eqb number 0 s)

-- The number of what a table answers is the table's.
pub numbered-number : (number count : ℕ) → number_of (numbered number count) ≡ number
unfolding numbered
numbered-number number count = go (eqb number 0) refl
  where
    go : (b : Bool) → eqb number 0 ≡ b → number_of (cond b (Accepted count) (Refused number 0)) ≡ number
    go true e = sym (eqb-true number 0 e)
    go false e = refl

-- What depends on it depends on whether the number is 0.
pub numbered-by {ℓ} : {A : Type ℓ} (number count : ℕ) (x y : A) → by_answer (numbered number count) x y ≡ cond (eqb number 0) x y
unfolding numbered
numbered-by number count x y = go (eqb number 0)
  where
    go : (b : Bool) → by_answer (cond b (Accepted count) (Refused number 0)) x y ≡ cond b x y
    go true = refl
    go false = refl

-- ---- bounds

-- The place is at most `size`, and the count at most `most`.
pub record Within (size most : ℕ) (a : Answer) : Type 0 where
  pub place_in : place_of a ≤ size
  pub count_within : count_of a ≤ most

-- Either answer is within its bounds where each is.
pub within-either : (size most : ℕ) (a b : Answer) (t : Bool) → Within size most a → Within size most b → Within size most (cond t a b)
within-either size most a b true p q = p
within-either size most a b false p q = q

pub refused-within : (size most number place : ℕ) → place ≤ size → Within size most (Refused number place)
refused-within size most number place h = record { place_in = h; count_within = omega arith }

pub accepted-within : (size most n : ℕ) → n ≤ most → Within size most (Accepted n)
accepted-within size most n h = record { place_in = omega arith; count_within = h }

-- Where a string of more than `limit` bytes is refused at place 0, a place within the string is within the limit too.
pub within-size : (size limit most number : ℕ) (a : Answer) → Within size most a
    → Within limit most (cond (ltb size 1 || ltb limit size) (Refused number 0) a)
within-size size limit most number a w = go (ltb size 1) (ltb limit size) refl
  where
    go : (few many : Bool) → ltb limit size ≡ many → Within limit most (cond (few || many) (Refused number 0) a)
    go true many q = refused-within limit most number 0 (omega arith)
    go false true q = refused-within limit most number 0 (omega arith)
    go false false q = record { place_in = omega (arith, ltb-false limit size q, w.place_in); count_within = w.count_within }
