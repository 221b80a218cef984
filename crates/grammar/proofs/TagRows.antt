-- When a tag gets a number: rows 6 (label), 7 and 8 of document 01's table, each told by a test; and what a tag meets that gets none.
-- Assumes nothing.
use Prim.Native.Nat.{ℕ, ◌≤◌, ◌<◌}
use native.Mathlib.Omega.{arith}
use mathlib.Core.Path.{◌≡◌, refl}
use mathlib.Core.Bool.{Bool, false, ◌||◌, ◌&&◌}
use mathlib.Core.Logic.{◌↔◌, ◌⊎◌, inl, inr, ⊎_elim}
use lib.Dec.{leb, ltb, eqb}
use Rattle.tag.specs.Tags.{Tag, opens, closes, tag_fault}
use Rattle.grammar.specs.When.{Outside, Mislabelled, bad-tag, Unbalanced, nothing-open, root-closed, TooMuch, too-deep}
use Rattle.grammar.specs.When.{too_many}
use Rattle.numbers.proofs.Tells.{IsTest, fails, test_iff, ltb-tests, leb-tests, eqb-tests, or-tests, and-tests}
use Rattle.grammar.proofs.Chain.{Distinct, chain, chain-none-iff}
use Rattle.terms.specs.Limits.{elements_most, label_most, levels_most, outside}

-- The test of row 6 at a tag.
abbrev pub mislabels : Tag → Bool
mislabels (opens label) = outside label
mislabels closes = false

-- The test of row 7 at a tag before which d elements are open and e have been opened.
abbrev pub unbalances : ℕ → ℕ → Tag → Bool
unbalances d e (opens label) = eqb d 0 && ltb 0 e
unbalances d e closes = eqb d 0

-- The test of row 8 at such a tag.
abbrev pub overfills : ℕ → ℕ → Tag → Bool
overfills d e (opens label) = leb levels_most d || leb elements_most e
overfills d e closes = false

-- What each row says of a tag, by the tag.
abbrev BadLabel : Tag → Type 0
BadLabel (opens label) = Outside label
BadLabel closes = ⊥

abbrev BadPlace : ℕ → ℕ → Tag → Type 0
BadPlace d e (opens label) = (d ≡ 0) × (0 < e)
BadPlace d e closes = d ≡ 0

abbrev BadSize : ℕ → ℕ → Tag → Type 0
BadSize d e (opens label) = (levels_most ≤ d) ⊎ (elements_most ≤ e)
BadSize d e closes = ⊥

bad-label-of : {t : Tag} → Mislabelled t → BadLabel t
bad-label-of (bad-tag h) = h

bad-place-of : {d e : ℕ} {t : Tag} → Unbalanced d e t → BadPlace d e t
bad-place-of (nothing-open h) = h
bad-place-of (root-closed h k) = (h, k)

bad-size-of : {d e : ℕ} {t : Tag} → TooMuch d e t → BadSize d e t
bad-size-of (too-deep h) = inl h
bad-size-of (too_many h) = inr h

-- The test of row 6 tells it.
pub mislabels-told : (t : Tag) → IsTest (Mislabelled t) (mislabels t)
mislabels-told (opens l) = test_iff (or-tests (ltb-tests l 1) (ltb-tests label_most l)) (bad-tag, bad-label-of)
mislabels-told closes = fails bad-label-of

-- The test of row 7 tells it.
pub unbalances-told : (d e : ℕ) (t : Tag) → IsTest (Unbalanced d e t) (unbalances d e t)
unbalances-told d e (opens l) = test_iff (and-tests (eqb-tests d 0) (ltb-tests 0 e)) (λ h. root-closed h.0 h.1, bad-place-of)
unbalances-told d e closes = test_iff (eqb-tests d 0) (nothing-open, bad-place-of)

-- The test of row 8 tells it.
pub overfills-told : (d e : ℕ) (t : Tag) → IsTest (TooMuch d e t) (overfills d e t)
overfills-told d e (opens l) = test_iff (or-tests (leb-tests levels_most d) (leb-tests elements_most e)) (⊎_elim too-deep too_many, bad-size-of)
overfills-told d e closes = fails bad-size-of

-- The three numbers differ.
pub numbers-distinct : Distinct 6 7 8
numbers-distinct = omega arith

module _ (d e : ℕ) where
  -- A tag's number is that of the first of the rows 6, 7 and 8 whose test passes.
  pub tag-fault-is : (t : Tag) → tag_fault d e (eqb d 0 && ltb 0 e) t ≡ chain 6 7 8 (mislabels t) (unbalances d e t) (overfills d e t)
  unfolding tag_fault
  tag-fault-is (opens l) = refl
  tag-fault-is closes = refl

  -- A tag gets no number exactly where none of the rows 6, 7 and 8 applies.
  pub tag-fine-iff : (t : Tag) → (tag_fault d e (eqb d 0 && ltb 0 e) t ≡ 0)
      ↔ ((Mislabelled t → ⊥) × ((Unbalanced d e t → ⊥) × (TooMuch d e t → ⊥)))
  tag-fine-iff t = rw (tag-fault-is t) (chain-none-iff 6 7 8 numbers-distinct (mislabels-told t) (unbalances-told d e t) (overfills-told d e t))

-- What an opening meets that gets no number.
pub record OpensWell (d e label : ℕ) : Type 0 where
  pub positive : 1 ≤ label
  pub small : label ≤ label_most
  pub root_open : d ≡ 0 → e ≡ 0
  pub shallow : d < levels_most
  pub few : e < elements_most

module _ (d e : ℕ) where
  -- An opening gets no number exactly where its label is in 1..999 and there is room for the element.
  pub opens-well-iff : (l : ℕ) → (tag_fault d e (eqb d 0 && ltb 0 e) (opens l) ≡ 0) ↔ OpensWell d e l
  opens-well-iff l = (λ z. well ((tag-fine-iff d e (opens l)).0 z), λ w. (tag-fine-iff d e (opens l)).1 (fine w)) where
    well : ((Mislabelled (opens l) → ⊥) × ((Unbalanced d e (opens l) → ⊥) × (TooMuch d e (opens l) → ⊥))) → OpensWell d e l
    well h =
        let a : l < 1 → ⊥ = λ q. h.0 (bad-tag (inl q)) in
        let b : label_most < l → ⊥ = λ q. h.0 (bad-tag (inr q)) in
        let c : levels_most ≤ d → ⊥ = λ q. h.1.1 (too-deep q) in
        let f : elements_most ≤ e → ⊥ = λ q. h.1.1 (too_many q) in
        record {
          positive = omega arith;
          small = omega arith;
          root_open = λ q. let g : 0 < e → ⊥ = λ r. h.1.0 (root-closed q r) in omega arith;
          shallow = omega arith;
          few = omega arith;
        }

    fine : OpensWell d e l → (Mislabelled (opens l) → ⊥) × ((Unbalanced d e (opens l) → ⊥) × (TooMuch d e (opens l) → ⊥))
    fine w = (
      λ m. ⊎_elim (λ q. omega (arith, w.positive)) (λ q. omega (arith, w.small)) (bad-label-of m),
      (
        λ u. let r = bad-place-of u in omega (arith, w.root_open r.0, r.1),
        λ m. ⊎_elim (λ q. omega (arith, w.shallow)) (λ q. omega (arith, w.few)) (bad-size-of m),
      ),
    )

  -- A closing gets no number exactly where an element is open.
  pub closes-well-iff : (tag_fault d e (eqb d 0 && ltb 0 e) closes ≡ 0) ↔ (0 < d)
  closes-well-iff = (
    λ z. let n : d ≡ 0 → ⊥ = λ q. ((tag-fine-iff d e closes).0 z).1.0 (nothing-open q) in omega arith,
    λ p. (tag-fine-iff d e closes).1 (bad-label-of, (λ u. omega (arith, bad-place-of u), bad-size-of)),
  )
