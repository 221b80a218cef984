-- Laws of the values below a number, and of values stored in a lent list: one value more, and what stands where afterwards.
-- Assumes nothing.
use Prim.Native.Nat.{ℕ, zero, suc, ◌+◌, ◌-◌, ◌≤◌, ◌<◌}
use native.Mathlib.Omega.{arith}
use native.Mathlib.Nat.{add-zero, zero-add, eq-or-lt_of_le, le_of_suc-le-suc, not-suc-le-zero}
use native.Mathlib.Numerals.{add-one}
use mathlib.Core.Path.{◌≡◌, refl, sym, ap, ◌∙◌}
use mathlib.Core.List.{List, [], ◌∷◌, ◌++◌, append-nil}
use mathlib.Core.Logic.{⊎_elim}
use lib.ListN.{length, get_or, set, take, drop, length-append, get_or-append, replicate, length-set, length-replicate, get_or-replicate}
use lib.Seq.{sets, length-sets, sets-eq, length-take-le, take-suc, drop-length, get_or-append-add, get_or-drop, get_or_at, ext_get_or, get_or-set_same, get_or-set_other}
use Rattle.numbers.specs.Lists.{listed, put_at, over}
use native.Mathlib.Decide.{ℕ_discrete}
use borrow.Author.Tests.{eq-eqb, ne_eqb}
use mathlib.Core.Bool.{cond}
use lib.Dec.{eqb}

-- ---- the values below a number

module _ {A : Type 0} where
  -- There is a place for each number below n.
  pub listed-length : (n : ℕ) (f : ℕ → A) → length (listed n f) ≡ n
  unfolding listed
  listed-length zero f = refl
  listed-length (suc n) f = length-append (listed n f) (f n ∷ []) ∙ add-one (length (listed n f)) ∙ ap suc (listed-length n f)

  -- Place i holds the value at i.
  pub listed_at : (n : ℕ) (f : ℕ → A) (i : ℕ) (d : A) → i < n → get_or (listed n f) i d ≡ f i
  unfolding listed
  listed_at zero f i d l = absurd (not-suc-le-zero l)
  listed_at (suc n) f i d l =
      ⊎_elim (λ e. rw e (get_or_at (listed n f) (f n) [] d n (listed-length n f)))
      (λ m. get_or-append (listed n f) (f n ∷ []) d i (omega (arith, listed-length n f)) ∙ listed_at n f i d m)
      (eq-or-lt_of_le (le_of_suc-le-suc l))

  -- A list is that of some values where it has as many places and each holds its value.
  pub listed-only : (n : ℕ) (f : ℕ → A) (xs : List A) (d : A) → length xs ≡ n → ((i : ℕ) → i < n → f i ≡ get_or xs i d) → listed n f ≡ xs
  listed-only n f xs d e h =
      ext_get_or d _ xs (listed-length n f ∙ sym e) (λ i l. let m : i < n = omega (arith, listed-length n f) in listed_at n f i d m ∙ h i m)

  -- Equal values, equal lists.
  pub listed_same : (n : ℕ) (f g : ℕ → A) → ((i : ℕ) → i < n → f i ≡ g i) → listed n f ≡ listed n g
  unfolding listed
  listed_same zero f g h = refl
  listed_same (suc n) f g h = rw (listed_same n f g (λ i l. h i (omega arith)), h n (omega arith))

  -- One value all along.
  pub listed-all : (n : ℕ) (f : ℕ → A) (v : A) → ((i : ℕ) → f i ≡ v) → listed n f ≡ replicate n v
  listed-all n f v h =
      listed-only n f (replicate n v) v (length-replicate n v) (λ i l. h i ∙ sym (get_or-replicate n i v v l))

  -- One value changed.
  pub listed-set : (n : ℕ) (f g : ℕ → A) (k : ℕ) (v : A) → k < n → g k ≡ v → ((i : ℕ) → i < n → (i ≡ k → ⊥) → g i ≡ f i)
      → listed n g ≡ set (listed n f) k v
  listed-set n f g k v l e h =
      listed-only n g (set (listed n f) k v) v (length-set (listed n f) k v ∙ listed-length n f) (λ i m. at i m (ℕ_discrete i k))
    where
      at : (i : ℕ) → i < n → Dec (i ≡ k) → g i ≡ get_or (set (listed n f) k v) i v
      at i m (yes q) = rw q (e ∙ sym (get_or-set_same (listed n f) k v v (omega (arith, listed-length n f))))
      at i m (no q) = h i m q ∙ sym (get_or-set_other (listed n f) k i v v q ∙ listed_at n f i v m)

  -- Put by a test.
  pub listed-put : (n : ℕ) (f : ℕ → A) (k : ℕ) (v : A) → k < n → listed n (λ i. cond (eqb k i) v (f i)) ≡ set (listed n f) k v
  listed-put n f k v l = listed-set n f _ k v l (rw (eq-eqb k k refl)) (λ i m q. rw (ne_eqb k i (λ e. q (sym e))))

-- ---- values stored in a lent list

module _ {A : Type 0} where
  -- No value: the list as it was.
  pub over_none : (lent : List A) → over [] lent ≡ lent
  unfolding put_at
  over_none lent = refl

  -- One value more, stored behind the others.
  sets-next : (vs lent : List A) (k : ℕ) (x : A) → set (sets lent k vs) (k + length vs) x ≡ sets lent k (vs ++ (x ∷ []))
  sets-next [] lent k x = ap (λ (i : ℕ). set lent i x) (add-zero k)
  sets-next (v ∷ vs) lent k x =
      let e : k + suc (length vs) ≡ suc k + length vs = omega arith in
      ap (λ (i : ℕ). set (sets (set lent k v) (suc k) vs) i x) e ∙ sets-next vs (set lent k v) (suc k) x

  pub over-next : (xs lent : List A) (x : A) (i : ℕ) → length xs ≡ i → set (over xs lent) i x ≡ over (xs ++ (x ∷ [])) lent
  unfolding put_at
  over-next xs lent x i e = ap (λ (k : ℕ). set (sets lent 0 xs) k x) (sym e ∙ sym (zero-add (length xs))) ∙ sets-next xs lent 0 x

  -- The list keeps its length.
  pub over-length : (xs lent : List A) → length (over xs lent) ≡ length lent
  unfolding put_at
  over-length xs lent = length-sets lent 0 xs

  -- Where there is room, the first places hold the values, and those past them what they held.
  pub over-is : (xs lent : List A) → length xs ≤ length lent → over xs lent ≡ xs ++ drop (length xs) lent
  unfolding put_at
  over-is xs lent h =
      sets-eq xs lent 0 (omega arith) ∙ ap (λ (k : ℕ). xs ++ drop k lent) (zero-add (length xs))

pub over-at : (xs lent : List ℕ) → length xs ≤ length lent → (i : ℕ) → i < length xs → get_or (over xs lent) i 0 ≡ get_or xs i 0
over-at xs lent r i h = rw (over-is xs lent r) (get_or-append xs (drop (length xs) lent) 0 i h)

pub over-past : (xs lent : List ℕ) → length xs ≤ length lent → (i : ℕ) → length xs ≤ i → get_or (over xs lent) i 0 ≡ get_or lent i 0
over-past xs lent r i h =
    let e : i ≡ length xs + (i - length xs) = omega arith in
    rw (over-is xs lent r)
    (ap (λ (k : ℕ). get_or (xs ++ drop (length xs) lent) k 0) e
    ∙ get_or-append-add xs (drop (length xs) lent) (i - length xs) 0
    ∙ get_or-drop (length xs) lent (i - length xs) 0
    ∙ ap (λ (k : ℕ). get_or lent k 0) (sym e))

-- A lent list into which nothing is put is as it was.
pub over-kept : (xs lent : List ℕ) → xs ≡ [] → lent ≡ over xs lent
over-kept xs lent e = rw e (sym (over_none lent))

-- ---- the first values of a list put over a lent list, one after the other

-- One value more.
pub copied_next : (from lent : List ℕ) {to : List ℕ} (i : ℕ) → i < length from → to ≡ over (take i from) lent
    → set to i (get_or from i 0) ≡ over (take (i + 1) from) lent
copied_next from lent i h e =
    rw e (over-next (take i from) lent (get_or from i 0) i (length-take-le i from (omega arith)))
    ∙ ap (λ (xs : List ℕ). over xs lent) (sym (ap (λ (k : ℕ). take k from) (add-one i) ∙ take-suc from i 0 h))

-- ---- the values of a function put over a lent list, one after the other

module _ (f : ℕ → ℕ) (lent : List ℕ) {ws : List ℕ} where
  -- The next place holds what it held.
  pub filled-ahead : (s : ℕ) → s ≤ length lent → ws ≡ over (listed s f) lent → get_or ws s 0 ≡ get_or lent s 0
  filled-ahead s l e = let n = listed-length s f in rw e (over-past (listed s f) lent (omega arith) s (omega arith))

  -- One value more.
  pub filled_next : {v : ℕ} (s : ℕ) → v ≡ f s → ws ≡ over (listed s f) lent → set ws s v ≡ over (listed (s + 1) f) lent
  unfolding listed
  filled_next s q e = rw (e, q, add-one s) (over-next (listed s f) lent (f s) s (listed-length s f))

  -- All of them.
  pub filled-all : (s : ℕ) → s ≡ length lent → ws ≡ over (listed s f) lent → ws ≡ listed (length lent) f
  filled-all s q e =
      let n : length (listed s f) ≡ length lent = listed-length s f ∙ q in
      e ∙ over-is (listed s f) lent (omega arith) ∙ rw (n, drop-length) (append-nil _) ∙ ap (λ (k : ℕ). listed k f) q
