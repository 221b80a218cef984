-- Laws of tags that get no number: along `++`; their labels are in 1..999, their elements at most 4,096, their levels legal.
-- Assumes nothing.
use Prim.Native.Nat.{ℕ, zero, suc, pred, ◌+◌, ◌≤◌, ◌<◌}
use native.Mathlib.Nat.{add_assoc, add-zero, zero-add, le_of_suc-le-suc, not-suc-le-zero}
use native.Mathlib.Omega.{arith}
use mathlib.Core.Path.{◌≡◌, refl}
use mathlib.Core.Bool.{◌&&◌}
use mathlib.Core.List.{List, [], ◌∷◌, ◌++◌}
use mathlib.Core.Logic.{◌↔◌}
use lib.Dec.{ltb, eqb}
use lib.ListN.{length, get_or}
use Rattle.tag.specs.Tags.{Tag, opens, closes, depth_from, depth, labels, levels_from, levels, opened_count, tag_fault}
use Rattle.grammar.specs.Legal.{Fit, LegalLevels}
use Rattle.grammar.specs.Reports.{Labelled}
use Rattle.tag.proofs.TagLaws.{depth-append, opened-append, levels-count}
use Rattle.grammar.proofs.TagRows.{opens-well-iff, closes-well-iff}
use Rattle.terms.specs.Limits.{elements_most, label_most}

-- Two sequences one after the other fit exactly where the first fits and the second fits where the first ends.
pub fit_append : (ts us : List Tag) (d e : ℕ) → Fit d e (ts ++ us) ↔ (Fit d e ts × Fit (depth_from d ts) (e + opened_count ts) us)
unfolding Fit labels depth_from
fit_append [] us d e = (λ h. (tt, rw add-zero h), λ h. rw add-zero at h.1)
fit_append (t ∷ ts) us d e =
    let ih = fit_append ts us (depth_from d (t ∷ [])) (e + opened_count (t ∷ [])) in
    let n = add_assoc e (opened_count (t ∷ [])) (opened_count ts) in
    rw (depth-append d (t ∷ []) ts, opened-append (t ∷ []) ts, ← n)
    (λ h. let r = ih.0 h.1 in ((h.0, r.0), r.1), λ h. (h.0.0, ih.1 (h.0.1, h.1)))

-- A sequence fits with one tag more exactly where it fits and that tag gets no number after it.
pub fit-snoc : (ts : List Tag) (t : Tag) → Fit 0 0 (ts ++ (t ∷ []))
    ↔ (Fit 0 0 ts × (tag_fault (depth ts) (opened_count ts) (eqb (depth ts) 0 && ltb 0 (opened_count ts)) t ≡ 0))
unfolding Fit
fit-snoc ts t =
    let r = fit_append ts (t ∷ []) 0 0 in
    let z = zero-add (opened_count ts) in
    (λ h. ((r.0 h).0, rw z at (r.0 h).1.0), λ h. r.1 (h.0, (rw z h.1, tt)))

-- The elements that fit are no more than 4,096.
pub fit-few : (ts : List Tag) (d e : ℕ) → e ≤ elements_most → Fit d e ts → e + opened_count ts ≤ elements_most
unfolding Fit labels depth_from
fit-few [] d e l h = omega arith
fit-few (opens a ∷ ts) d e l h =
    let w = (opens-well-iff d e a).0 h.0 in omega (arith, fit-few ts (suc d) (e + 1) (omega (arith, w.few)) h.1)
fit-few (closes ∷ ts) d e l h = omega (arith, fit-few ts (pred d) (e + 0) (omega arith) h.1)

labelled-cons : (l : ℕ) (ls : List ℕ) → 1 ≤ l → l ≤ label_most → Labelled ls → Labelled (l ∷ ls)
labelled-cons l ls p q h zero m = (p, q)
labelled-cons l ls p q h (suc i) m = h i (le_of_suc-le-suc m)

-- The labels of tags that fit are in 1..999.
pub fit-labelled : (ts : List Tag) (d e : ℕ) → Fit d e ts → Labelled (labels ts)
unfolding Fit labels depth_from
fit-labelled [] d e h = λ i m. absurd (not-suc-le-zero m)
fit-labelled (opens l ∷ ts) d e h =
    let w = (opens-well-iff d e l).0 h.0 in
    labelled-cons l (labels ts) w.positive w.small (fit-labelled ts (suc d) (e + 1) h.1)
fit-labelled (closes ∷ ts) d e h = fit-labelled ts (pred d) (e + 0) h.1

-- The levels of tags that fit are no more than 63.
fit_low : (ts : List Tag) (d e : ℕ) → Fit d e ts → (i : ℕ) → i < length (levels_from d ts) → get_or (levels_from d ts) i 0 ≤ 63
unfolding Fit levels_from depth_from
fit_low [] d e h i m = absurd (not-suc-le-zero m)
fit_low (opens l ∷ ts) d e h zero m = omega (arith, ((opens-well-iff d e l).0 h.0).shallow)
fit_low (opens l ∷ ts) d e h (suc i) m = fit_low ts (suc d) _ h.1 i (le_of_suc-le-suc m)
fit_low (closes ∷ ts) d e h i m = fit_low ts (pred d) _ h.1 i m

-- After an element at level p, the next is below the root and at most one level below it.
fit_next : (ts : List Tag) (d e p : ℕ) → 1 ≤ e → d ≤ suc p → Fit d e ts → (i : ℕ) → i < length (levels_from d ts)
    → (1 ≤ get_or (levels_from d ts) i 0) × (get_or (levels_from d ts) i 0 ≤ suc (get_or (p ∷ levels_from d ts) i 0))
unfolding Fit levels_from depth_from labels
fit_next [] d e p le ld h i m = absurd (not-suc-le-zero m)
fit_next (opens l ∷ ts) d e p le ld h zero m =
    let n : d ≡ 0 → ⊥ = λ z. omega (arith, ((opens-well-iff d e l).0 h.0).root_open z) in (omega arith, ld)
fit_next (opens l ∷ ts) d e p le ld h (suc i) m = fit_next ts (suc d) (e + 1) d (omega arith) (omega arith) h.1 i (le_of_suc-le-suc m)
fit_next (closes ∷ ts) d e p le ld h i m = fit_next ts (pred d) (e + 0) p (omega arith) (omega arith) h.1 i m

root-zero : (ts : List Tag) → Fit 0 0 ts → get_or (levels ts) 0 0 ≡ 0
unfolding Fit levels_from
root-zero [] h = refl
root-zero (opens l ∷ ts) h = refl
root-zero (closes ∷ ts) h = absurd (omega (arith, (closes-well-iff 0 0).0 h.0))

next_one : (ts : List Tag) → Fit 0 0 ts → (i : ℕ) → suc i < length (levels ts)
    → (1 ≤ get_or (levels ts) (suc i) 0) × (get_or (levels ts) (suc i) 0 ≤ suc (get_or (levels ts) i 0))
unfolding Fit levels_from depth_from labels
next_one [] h i m = absurd (not-suc-le-zero m)
next_one (opens l ∷ ts) h i m = fit_next ts 1 1 0 (omega arith) (omega arith) h.1 i (le_of_suc-le-suc m)
next_one (closes ∷ ts) h i m = absurd (omega (arith, (closes-well-iff 0 0).0 h.0))

-- The levels of a legal sequence of tags are legal.
pub legal-levels : (ts : List Tag) → Fit 0 0 ts → LegalLevels (levels ts)
legal-levels ts h =
    record {
      root = root-zero ts h;
      next = next_one ts h;
      low = fit_low ts 0 0 h;
      few = rw levels-count (omega (arith, fit-few ts 0 0 (omega arith) h));
    }
