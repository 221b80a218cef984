-- The parents and previous siblings that are found from the levels are those of the relations Child and Next; what they depend on.
-- Assumes nothing.
use Prim.Native.Nat.{ℕ, zero, suc, pred, ◌≤◌, ◌<◌}
use native.Mathlib.Nat.{not-suc-le-zero, le_of_suc-le-suc, eq-or-lt_of_le}
use native.Mathlib.Decide.{dec_lt}
use native.Mathlib.Omega.{arith}
use lib.Arith.{lt_of_le-ne}
use mathlib.Core.Path.{◌≡◌, refl, sym, ap, subst, ◌∙◌}
use mathlib.Core.Bool.{Bool, cond}
use mathlib.Core.List.{List}
use mathlib.Core.Logic.{◌↔◌, ⊎_elim}
use mathlib.Core.Option.{Option, none, some}
use borrow.Author.Tests.{le-ltb, le-leb, lt-leb, eq-eqb}
use lib.ListN.{length, get_or}
use Rattle.numbers.proofs.Tells.{IsTest, holds, fails, ltb-tests, leb-tests, eqb-tests}
use Rattle.terms.specs.declared.kind.Axis.{Axis}
use Rattle.terms.specs.declared.kind.Axis.TheVariants.{Child as child, Parent as to_parent, Next as next, Previous as to_previous}
use Rattle.meaning.specs.Tree.{Child, Next}
use Rattle.meaning.specs.Links.{last_up_to, if_level, parent_at, parent, previous, link}

-- A chosen value is t exactly where the test passes and the value is t.
pub guard-iff : {P : Type 0} {b : Bool} (o : Option ℕ) (t : ℕ) → IsTest P b → (cond b o none ≡ some t) ↔ (P × (o ≡ some t))
guard-iff o t (holds p) = (λ e. (p, e), λ h. h.1)
guard-iff o t (fails n) = (λ e. let z : ◌≡◌ {A = ℕ} 0 1 = cc in absurd (omega arith), λ h. absurd (n h.0))

module _ (levels : List ℕ) where
  -- t is the last element before s whose level is at most d.
  pub record Last (d s t : ℕ) : Type 0 where
    pub before : t < s
    pub low : get_or levels t 0 ≤ d
    pub between : (k : ℕ) → t < k → k < s → d < get_or levels k 0

  -- The element before s is the last up to a level that it does not pass.
  pub last-here : (d s : ℕ) → get_or levels s 0 ≤ d → Last d (suc s) s
  last-here d s l = record { before = omega arith; low = l; between = λ k a b. absurd (omega arith) }

  -- An element that passes the level changes nothing.
  pub last-past : (d s t : ℕ) → (get_or levels s 0 ≤ d → ⊥) → Last d s t → Last d (suc s) t
  last-past d s t n r =
      record {
        before = omega arith;
        low = r.low;
        between = λ k a b.
            ⊎_elim (λ e. subst (λ (x : ℕ). d < get_or levels x 0) (sym e) (omega arith)) (r.between k a) (eq-or-lt_of_le (le_of_suc-le-suc b));
      }

  last-pick : {b : Bool} (d s t : ℕ) (o : Option ℕ) → IsTest (get_or levels s 0 ≤ d) b → (o ≡ some t → Last d s t)
      → cond b (some s) o ≡ some t → Last d (suc s) t
  last-pick d s t o (holds l) h e = let z : s ≡ t = cc in subst (Last d (suc s)) z (last-here d s l)
  last-pick d s t o (fails n) h e = last-past d s t n (h e)

  last-sound : (d s t : ℕ) → last_up_to levels d s ≡ some t → Last d s t
  unfolding last_up_to
  last-sound d zero t e = let z : ◌≡◌ {A = ℕ} 0 1 = cc in absurd (omega arith)
  last-sound d (suc s) t e = last-pick d s t (last_up_to levels d s) (leb-tests (get_or levels s 0) d) (last-sound d s t) e

  last-complete : (d s t : ℕ) → Last d s t → last_up_to levels d s ≡ some t
  unfolding last_up_to
  last-complete d zero t r = absurd (not-suc-le-zero r.before)
  last-complete d (suc s) t r =
      ⊎_elim (λ e. rw (le-leb (get_or levels s 0) d (subst (λ (x : ℕ). get_or levels x 0 ≤ d) e r.low)) (ap some (sym e)))
      (λ l. rw (lt-leb (get_or levels s 0) d (r.between s l (omega arith)))
      (last-complete d s t (record { before = l; low = r.low; between = λ k a b. r.between k a (omega arith) })))
      (eq-or-lt_of_le (le_of_suc-le-suc r.before))

  last-there-more : {b : Bool} (d s c : ℕ) → IsTest (get_or levels s 0 ≤ d) b → c < suc s → get_or levels c 0 ≤ d
      → (c < s → (t : ℕ) × Last d s t) → (t : ℕ) × Last d (suc s) t
  last-there-more d s c (holds l) b m h = (s, last-here d s l)
  last-there-more d s c (fails n) b m h =
      let r = h (lt_of_le-ne (le_of_suc-le-suc b) (λ e. n (rw e at m))) in (r.0, last-past d s r.0 n r.1)

  -- Where an element before s has a level of at most d, there is a last one.
  pub last-there : (d s c : ℕ) → c < s → get_or levels c 0 ≤ d → (t : ℕ) × Last d s t
  last-there d zero c b m = absurd (not-suc-le-zero b)
  last-there d (suc s) c b m = last-there-more d s c (leb-tests (get_or levels s 0) d) b m (λ l. last-there d s c l m)

  -- No later element before s has a level of at most d.
  pub last-latest : (d s t c : ℕ) → Last d s t → c < s → get_or levels c 0 ≤ d → c ≤ t
  last-latest d s t c r b m = elim (dec_lt t c) [ yes l ↦ absurd (omega (arith, r.between c l b)) | no l ↦ omega arith ]

  -- The same with its level: what is found is the last element before s whose level is at most d, and its level is d.
  pub level-iff : (d s t : ℕ) → (if_level levels d (last_up_to levels d s) ≡ some t) ↔ (Last d s t × (get_or levels t 0 ≡ d))
  unfolding if_level
  level-iff d s t = (go (last_up_to levels d s) refl, λ h. rw (last-complete d s t h.0, h.1, eq-eqb d d refl)) where
    go : (o : Option ℕ) → last_up_to levels d s ≡ o → if_level levels d o ≡ some t → Last d s t × (get_or levels t 0 ≡ d)
    go none e h = let z : ◌≡◌ {A = ℕ} 0 1 = cc in absurd (omega arith)
    go (some u) e h =
        let r = (guard-iff (some u) t (eqb-tests (get_or levels u 0) d)).0 h in
        let z : u ≡ t = cc r.1 in
        (last-sound d s t (e ∙ ap some z), subst (λ (x : ℕ). get_or levels x 0 ≡ d) z r.0)

  -- q is the previous sibling of s exactly where s is its next sibling.
  pub previous-is : (s q : ℕ) → (previous levels s ≡ some q) ↔ Next levels q s
  unfolding previous
  previous-is s q =
      let g = guard-iff (if_level levels (get_or levels s 0) (last_up_to levels (get_or levels s 0) s)) q (ltb-tests s (length levels)) in
      let f = level-iff (get_or levels s 0) s q in (
        λ e. let h = g.0 e in
            let r = f.0 h.1 in
            record { element = h.0; before = r.0.before; beside = sym r.1; between = λ k a b. omega (arith, r.0.between k a b, r.1) },
        λ n. g.1 (
          n.element,
          f.1 (
            record { before = n.before; low = omega arith; between = λ k a b. omega (arith, n.between k a b, n.beside) },
            sym n.beside,
          ),
        ),
      )

  above-iff : (d s p : ℕ) → get_or levels s 0 ≡ d → (parent_at levels d s ≡ some p) ↔ (Last (pred d) s p × (suc (get_or levels p 0) ≡ d))
  unfolding parent_at
  above-iff zero s p e = (λ h. let z : ◌≡◌ {A = ℕ} 0 1 = cc in absurd (omega arith), λ r. absurd (omega arith))
  above-iff (suc d) s p e = let f = level-iff d s p in (λ h. ((f.0 h).0, ap suc (f.0 h).1), λ r. f.1 (r.0, ap pred r.1))

  -- p is the parent of s exactly where s is a child of p.
  pub parent_is : (s p : ℕ) → (parent levels s ≡ some p) ↔ Child levels p s
  unfolding parent
  parent_is s p =
      let g = guard-iff (parent_at levels (get_or levels s 0) s) p (ltb-tests s (length levels)) in
      let f = above-iff (get_or levels s 0) s p refl in (
        λ e. let h = g.0 e in
            let r = f.0 h.1 in
            record { element = h.0; before = r.0.before; under = sym r.1; between = λ k a b. omega (arith, r.0.between k a b, r.1) },
        λ c. g.1 (
          c.element,
          f.1 (
            record { before = c.before; low = omega arith; between = λ k a b. omega (arith, c.between k a b, c.under) },
            sym c.under,
          ),
        ),
      )

-- ---- where they lead

-- f leads to a lower number.
abbrev pub Down : (ℕ → Option ℕ) → Type 0
Down f = (s t : ℕ) → f s ≡ some t → t < s

-- A parent opens before its child.
pub parent-down : (levels : List ℕ) → Down (parent levels)
parent-down levels s t e = ((parent_is levels s t).0 e).before

-- A previous sibling opens before its next.
pub previous-down : (levels : List ℕ) → Down (previous levels)
previous-down levels s t e = ((previous-is levels s t).0 e).before

-- What is no element has no parent.
pub parent-within : (levels : List ℕ) (s : ℕ) → length levels ≤ s → parent levels s ≡ none
unfolding parent
parent-within levels s l = rw (le-ltb s (length levels) l)

-- What is no element has no previous sibling.
pub previous-within : (levels : List ℕ) (s : ℕ) → length levels ≤ s → previous levels s ≡ none
unfolding previous
previous-within levels s l = rw (le-ltb s (length levels) l)

-- ---- what they depend on

some_same : (o o' : Option ℕ) → ((t : ℕ) → (o ≡ some t) ↔ (o' ≡ some t)) → o ≡ o'
some_same none none h = refl
some_same none (some t) h = (h t).1 refl
some_same (some t) o' h = sym ((h t).0 refl)

-- Two values are equal where what is true of the one number that they hold is the same.
found-same : {P Q : ℕ → Type 0} (o o' : Option ℕ) → ((t : ℕ) → (o ≡ some t) ↔ P t) → ((t : ℕ) → (o' ≡ some t) ↔ Q t)
    → ((t : ℕ) → P t → Q t) → ((t : ℕ) → Q t → P t) → o ≡ o'
found-same o o' p q f g = some_same o o' (λ t. (λ e. (q t).1 (f t ((p t).0 e)), λ e. (p t).1 (g t ((q t).0 e))))

-- What a function finds backward comes from one element only.
pub found-only : (R : ℕ → ℕ → Type 0) (f : ℕ → Option ℕ) → ((s t : ℕ) → (f s ≡ some t) ↔ R t s) → {s u t : ℕ} → R s t → R u t → s ≡ u
found-only R f is {s} {u} {t} p q = cc ((is t s).1 p, (is t u).1 q)

-- The two lists have the same levels up to s.
abbrev pub Agree : List ℕ → List ℕ → ℕ → Type 0
Agree levels levels' s = (k : ℕ) → k ≤ s → get_or levels k 0 ≡ get_or levels' k 0

child-kept : (levels levels' : List ℕ) (s p : ℕ) → s < length levels' → Agree levels levels' s → Child levels p s → Child levels' p s
child-kept levels levels' s p l same c =
    record {
      element = l;
      before = c.before;
      under = omega (arith, same s (omega arith), same p (omega arith));
      between = λ k a b. omega (arith, same k (omega arith), same p (omega arith), c.between k a b);
    }

next-kept : (levels levels' : List ℕ) (s q : ℕ) → s < length levels' → Agree levels levels' s → Next levels q s → Next levels' q s
next-kept levels levels' s q l same c =
    record {
      element = l;
      before = c.before;
      beside = omega (arith, same s (omega arith), same q (omega arith));
      between = λ k a b. omega (arith, same k (omega arith), same q (omega arith), c.between k a b);
    }

module _ (levels levels' : List ℕ) (s : ℕ) (l : s < length levels) (l' : s < length levels') (same : Agree levels levels' s) where
  -- The parent of s depends on the levels up to s only.
  parent-prefix : parent levels s ≡ parent levels' s
  parent-prefix =
      found-same _ _ (parent_is levels s) (parent_is levels' s) (λ p. child-kept levels levels' s p l' same)
      (λ p. child-kept levels' levels s p l (λ k m. sym (same k m)))

  -- The previous sibling of s depends on the levels up to s only.
  previous-prefix : previous levels s ≡ previous levels' s
  previous-prefix =
      found-same _ _ (previous-is levels s) (previous-is levels' s) (λ q. next-kept levels levels' s q l' same)
      (λ q. next-kept levels' levels s q l (λ k m. sym (same k m)))

  -- So does what an axis is found by.
  pub link-prefix : (x : Axis) → link levels x s ≡ link levels' x s
  unfolding link
  link-prefix child = parent-prefix
  link-prefix to_parent = parent-prefix
  link-prefix next = previous-prefix
  link-prefix to_previous = previous-prefix
