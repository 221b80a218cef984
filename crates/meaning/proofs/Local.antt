-- A rule that looks back only has at an element the same marks, and the same word, in every tree that has the same levels and labels
-- up to that element. Assumes nothing.
use Prim.Native.Nat.{ℕ, zero, suc, ◌≤◌, ◌<◌, suc-le-suc}
use native.Mathlib.Nat.{not-suc-le-zero, le_of_suc-le-suc}
use native.Mathlib.Decide.{dec_lt}
use native.Mathlib.Omega.{arith}
use mathlib.Core.Path.{◌≡◌, refl, sym, ◌∙◌}
use mathlib.Core.Bool.{Bool, true, false, cond}
use mathlib.Core.List.{List, [], ◌∷◌, ◌++◌}
use mathlib.Core.Option.{Option, none, some}
use lib.Dec.{eqb}
use lib.ListN.{length, get_or, get_or-eq_default}
use Rattle.entry.specs.declared.entry.Entry.{Entry}
use Rattle.tag.specs.Tags.{Tag, opens, depth, levels_from, levels, labels, opened_count}
use Rattle.tag.proofs.TagLaws.{levels-append, labels_append, levels-count}
use Rattle.numbers.proofs.First.{clash}
use Rattle.grammar.specs.Rules.{no_entry, LooksBack}
use Rattle.meaning.specs.Links.{link}
use Rattle.terms.specs.declared.kind.Axis.{Axis}
use Rattle.meaning.specs.Tree.{backward, direction}
use Rattle.terms.specs.declared.kind.Shape.{Shape}
use Rattle.terms.specs.declared.kind.Shape.TheVariants.{Nothing as nothing, Here as local, SomeAlong as some_along, UntilAlong as until_along, EveryChild as every_child}
use Rattle.terms.specs.Kinds.{row_of, shape_of, leads_back, shape_looks_back}
use Rattle.meaning.specs.Marks.{at, some_of, until_of, means, below, mark, word_of}
use Rattle.meaning.proofs.Links.{Agree, link-prefix}
use Rattle.meaning.proofs.Tests.{found-down, until-is}
use Rattle.meaning.proofs.Reflect.{axis-along}
use Rattle.numbers.proofs.BitLaws.{word_same}

-- Tests that agree at the element that is found pass alike there.
at_same : (o : Option ℕ) (p q : ℕ → Bool) → ((t : ℕ) → o ≡ some t → p t ≡ q t) → at o p ≡ at o q
at_same none p q h = refl
at_same (some t) p q h = h t refl

pick_same : (q : Bool) (s : ℕ) (f g f' g' : ℕ → Bool) → f s ≡ f' s → g s ≡ g' s → cond q f g s ≡ cond q f' g' s
pick_same true s f g f' g' e d = e
pick_same false s f g f' g' e d = d

-- An axis that leads back has that direction.
leads-back : (x : Axis) → leads_back x ≡ true → direction x ≡ backward
unfolding direction
leads-back x e = rw e

-- Two tests agree up to s.
abbrev Alike : ℕ → (ℕ → Bool) → (ℕ → Bool) → Type 0
Alike s p q = (t : ℕ) → t ≤ s → p t ≡ q t

module _ (levels levels' labels labels' : List ℕ) (s : ℕ) (l : s < length levels) (l' : s < length levels')
    (same : Agree levels levels' s) (named : Agree labels labels' s) where
  -- What an axis that leads back asks of s depends on levels and marks up to s only.
  some_same : (x : Axis) → direction x ≡ backward → (a a' : ℕ → Bool) (t : ℕ) → t ≤ s → ((u : ℕ) → u < t → a u ≡ a' u)
      → some_of (direction x) (length levels) (link levels x) a t ≡ some_of (direction x) (length levels') (link levels' x) a' t
  unfolding some_of
  some_same x d a a' t m e =
      rw (d, link-prefix levels levels' t (omega arith) (omega arith) (λ k i. same k (omega arith)) x)
      (at_same (link levels' x t) a a' (λ u h. e u (found-down (axis-along levels' x) t u h)))

  until-same : (x : Axis) → direction x ≡ backward → (a b a' b' : ℕ → Bool) → Alike s a a' → Alike s b b' → (m t : ℕ) → t < m → t ≤ s
      → until_of (direction x) (length levels) (link levels x) a b t ≡ until_of (direction x) (length levels') (link levels' x) a' b' t
  until-same x d a b a' b' ea eb zero t lm ls = absurd (not-suc-le-zero lm)
  until-same x d a b a' b' ea eb (suc m) t lm ls =
      until-is (axis-along levels x) a b t (omega arith)
      ∙ rw (ea t ls, eb t ls, some_same x d _ _ t ls (λ u h. until-same x d a b a' b' ea eb m u (omega arith) (omega arith)))
      (sym (until-is (axis-along levels' x) a' b' t (omega arith)))

  module _ (label : ℕ) (a b a' b' : ℕ → Bool) (ea : Alike s a a') (eb : Alike s b b') (t : ℕ) (m : t ≤ s) where
    -- A kind that looks back asks nothing past s.
    means-same : (k : Shape) → shape_looks_back k ≡ true → means levels labels k label a b t ≡ means levels' labels' k label a' b' t
    unfolding means shape_looks_back
    means-same nothing e = refl
    means-same (local k) e = rw (named t m, ea t m, eb t m)
    means-same (some_along x) e = some_same x (leads-back x e) a a' t m (λ u h. ea u (omega arith))
    means-same (until_along x) e = until-same x (leads-back x e) a b a' b' ea eb (suc t) t (omega arith) m
    means-same every_child e = clash e refl

  module _ (entries : List Entry) (back : LooksBack entries) where
    entry-same : (k : ℕ) (a b a' b' : ℕ → Bool) → Alike s a a' → Alike s b b' → (t : ℕ) → t ≤ s
        → means levels labels (shape_of (get_or entries k no_entry).kind) (get_or entries k no_entry).a a b t
        ≡ means levels' labels' (shape_of (get_or entries k no_entry).kind) (get_or entries k no_entry).a a' b' t
    unfolding means row_of
    entry-same k a b a' b' ea eb t m =
        elim (dec_lt k (length entries)) [
          | yes i ↦ means-same (get_or entries k no_entry).a a b a' b' ea eb t m (shape_of (get_or entries k no_entry).kind) (back k i)
          | no i ↦ let n : length entries ≤ k = omega arith in rw (get_or-eq_default entries no_entry n)
        ]

    below-same : (k i t : ℕ) → t ≤ s → below levels labels entries k i t ≡ below levels' labels' entries k i t
    unfolding below
    below-same zero i t m = refl
    below-same (suc k) i t m =
        let e = get_or entries k no_entry in
        pick_same (eqb i k) t _ _ _ _ (entry-same k _ _ _ _ (below-same k e.a) (below-same k e.b) t m) (below-same k i t m)

    -- The marks at s are the same.
    pub mark-local : (i : ℕ) → mark levels labels entries i s ≡ mark levels' labels' entries i s
    unfolding mark
    mark-local i = below-same (suc i) i s (omega arith)

    -- So is the word of s, and its verdict.
    pub word-local : word_of entries levels labels s ≡ word_of entries levels' labels' s
    unfolding word_of
    word-local = word_same (length entries) _ _ (λ i m. mark-local i)

-- ---- trees that begin with the same tags

append-agree : (xs : List ℕ) (y : ℕ) (ys ys' : List ℕ) → Agree (xs ++ (y ∷ ys)) (xs ++ (y ∷ ys')) (length xs)
append-agree [] y ys ys' zero l = refl
append-agree [] y ys ys' (suc k) l = absurd (not-suc-le-zero l)
append-agree (x ∷ xs) y ys ys' zero l = refl
append-agree (x ∷ xs) y ys ys' (suc k) l = append-agree xs y ys ys' k (le_of_suc-le-suc l)

append-more : (xs : List ℕ) (y : ℕ) (ys : List ℕ) → length xs < length (xs ++ (y ∷ ys))
append-more [] y ys = omega arith
append-more (x ∷ xs) y ys = suc-le-suc (append-more xs y ys)

module _ (entries : List Entry) (back : LooksBack entries) where
  begun-same : (xs ns : List ℕ) → length xs ≡ length ns → (x : ℕ) (ys ys' : List ℕ) (n : ℕ) (ms ms' : List ℕ) (i : ℕ)
      → mark (xs ++ (x ∷ ys)) (ns ++ (n ∷ ms)) entries i (length ns) ≡ mark (xs ++ (x ∷ ys')) (ns ++ (n ∷ ms')) entries i (length ns)
  begun-same xs ns e x ys ys' n ms ms' i =
      rw (← e) (mark-local (xs ++ (x ∷ ys)) (xs ++ (x ∷ ys')) (ns ++ (n ∷ ms)) (ns ++ (n ∷ ms')) (length xs)
      (append-more xs x ys) (append-more xs x ys') (append-agree xs x ys ys') (rw e (append-agree ns n ms ms')) entries back i)

  -- The element that opens after some tags has the same marks whatever tags come after its opening.
  pub mark-begun : (ts : List Tag) (l : ℕ) (more more' : List Tag) (i : ℕ)
      → mark (levels (ts ++ (opens l ∷ more))) (labels (ts ++ (opens l ∷ more))) entries i (opened_count ts)
      ≡ mark (levels (ts ++ (opens l ∷ more'))) (labels (ts ++ (opens l ∷ more'))) entries i (opened_count ts)
  unfolding levels_from labels
  mark-begun ts l more more' i =
      rw (levels-append 0 ts (opens l ∷ more), levels-append 0 ts (opens l ∷ more'))
      (rw (labels_append ts (opens l ∷ more), labels_append ts (opens l ∷ more'))
      (begun-same (levels ts) (labels ts) (levels-count 0 ts) (depth ts) (levels_from (suc (depth ts)) more) (levels_from (suc (depth ts)) more')
      l (labels more) (labels more') i))
