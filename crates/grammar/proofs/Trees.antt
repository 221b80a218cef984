-- A sequence of tags is legal exactly where it is the sequence of one tree within the limits, and of one only.
-- Assumes nothing.
use Prim.Native.Nat.{ℕ, zero, suc, pred, ◌+◌, ◌*◌, ◌≤◌, suc-le-suc}
use native.Mathlib.Nat.{add-zero, zero-add, le_of_suc-le-suc}
use native.Mathlib.Omega.{arith}
use mathlib.Core.Path.{◌≡◌, refl, sym, ap, ap₂, ◌∙◌}
use mathlib.Core.List.{List, [], ◌∷◌, ◌++◌, append_assoc, append-nil}
use lib.ListN.{length, length-append, get_or-append}
use lib.Seq.{get_or-append-add}
use Rattle.tag.specs.Tags.{Tag, opens, closes, depth_from, labels, opened_count}
use Rattle.grammar.specs.Reports.{Tree, node, Forest, empty, ◌before◌, tags_t, tags_f, size_t, size_f, height_t, height_f}
use Rattle.grammar.specs.Reports.{Labelled, Within, bytes_of, tag_bytes}
use Rattle.numbers.specs.Bytes.{two_bytes}
use Rattle.grammar.specs.Legal.{Fit, Legal}
use Rattle.tag.proofs.TagLaws.{depth-append, labels_append, opened-append}
use Rattle.grammar.proofs.TagRows.{OpensWell, opens-well-iff, closes-well-iff}
use Rattle.grammar.proofs.Fits.{fit_append, fit-few, fit-labelled}
use Rattle.terms.specs.Limits.{elements_most, levels_most}

-- ---- what a tree's tags open and leave open

mutual
  unfolding tags_t depth_from

  -- After a tree's tags as many elements are open as before them.
  pub tree-depth : (t : Tree) (d : ℕ) → depth_from d (tags_t t) ≡ d
  tree-depth (node l f) d = depth-append (suc d) (tags_f f) (closes ∷ []) ∙ ap pred (forest-depth f (suc d))

  forest-depth : (f : Forest) (d : ℕ) → depth_from d (tags_f f) ≡ d
  forest-depth empty d = refl
  forest-depth (◌before◌ t f) d = depth-append d (tags_t t) (tags_f f) ∙ rw (tree-depth t d) (forest-depth f d)

mutual
  unfolding tags_t size_t labels

  -- A tree's tags open as many elements as it has.
  pub tags-size : (t : Tree) → opened_count (tags_t t) ≡ size_t t
  tags-size (node l f) = ap suc (opened-append (tags_f f) (closes ∷ []) ∙ add-zero _ ∙ forest-size f)

  forest-size : (f : Forest) → opened_count (tags_f f) ≡ size_f f
  forest-size empty = refl
  forest-size (◌before◌ t f) = opened-append (tags_t t) (tags_f f) ∙ ap₂ ◌+◌ (tags-size t) (forest-size f)

-- A tree has an element.
pub tree-some : (t : Tree) → 1 ≤ size_t t
unfolding size_t
tree-some (node l f) = omega arith

-- The bytes of two sequences are those of the first, then those of the second.
pub bytes-append : (ts us : List Tag) → bytes_of (ts ++ us) ≡ bytes_of ts ++ bytes_of us
unfolding bytes_of
bytes-append [] us = refl
bytes-append (t ∷ ts) us = ap (λ (b : List ℕ). tag_bytes t ++ b) (bytes-append ts us) ∙ sym (append_assoc (tag_bytes t) (bytes_of ts) (bytes_of us))

bytes-length-append : (ts us : List Tag) → length (bytes_of (ts ++ us)) ≡ length (bytes_of ts) + length (bytes_of us)
bytes-length-append ts us = rw (bytes-append, length-append)

mutual
  unfolding tags_t size_t bytes_of tag_bytes two_bytes

  -- A tree of n elements has 10 n bytes.
  pub bytes-size : (t : Tree) → length (bytes_of (tags_t t)) ≡ 10 * size_t t
  bytes-size (node l f) = omega (arith, bytes-length-append (tags_f f) (closes ∷ []), forest-bytes f)

  forest-bytes : (f : Forest) → length (bytes_of (tags_f f)) ≡ 10 * size_f f
  forest-bytes empty = refl
  forest-bytes (◌before◌ t f) = omega (arith, bytes-length-append (tags_t t) (tags_f f), bytes-size t, forest-bytes f)

-- ---- one tree only

closes-not-tree : {A : Type 0} (t : Tree) (xs ys : List Tag) → closes ∷ xs ≡ tags_t t ++ ys → A
unfolding tags_t
closes-not-tree (node l f) xs ys e = let z : ◌≡◌ {A = ℕ} 0 1 = cc in absurd (omega arith)

mutual
  unfolding tags_t

  -- Two trees whose tags begin one sequence are one, and so is what follows them.
  pub tags-start-only : (t u : Tree) (xs ys : List Tag) → tags_t t ++ xs ≡ tags_t u ++ ys → (t ≡ u) × (xs ≡ ys)
  tags-start-only (node l f) (node m g) xs ys e =
      let a = append_assoc (tags_f f) (closes ∷ []) xs in
      let b = append_assoc (tags_f g) (closes ∷ []) ys in
      let q : l ≡ m = cc in
      let r = forest-start-only f g xs ys (cc) in
      (ap₂ node q r.0, r.1)

  forest-start-only : (f g : Forest) (xs ys : List Tag) → tags_f f ++ (closes ∷ xs) ≡ tags_f g ++ (closes ∷ ys) → (f ≡ g) × (xs ≡ ys)
  forest-start-only empty empty xs ys e = (refl, cc)
  forest-start-only empty (◌before◌ u g) xs ys e =
      closes-not-tree u xs (tags_f g ++ (closes ∷ ys)) (e ∙ append_assoc (tags_t u) (tags_f g) (closes ∷ ys))
  forest-start-only (◌before◌ t f) empty xs ys e =
      closes-not-tree t ys (tags_f f ++ (closes ∷ xs)) (sym e ∙ append_assoc (tags_t t) (tags_f f) (closes ∷ xs))
  forest-start-only (◌before◌ t f) (◌before◌ u g) xs ys e =
      let a = append_assoc (tags_t t) (tags_f f) (closes ∷ xs) in
      let b = append_assoc (tags_t u) (tags_f g) (closes ∷ ys) in
      let r = tags-start-only t u (tags_f f ++ (closes ∷ xs)) (tags_f g ++ (closes ∷ ys)) (sym a ∙ e ∙ b) in
      let q = forest-start-only f g xs ys r.1 in
      (ap₂ ◌before◌ r.0 q.0, q.1)

-- Two trees with the same tags are one.
pub tags-only : (t u : Tree) → tags_t t ≡ tags_t u → t ≡ u
tags-only t u e = (tags-start-only t u [] [] (ap (λ (ts : List Tag). ts ++ []) e)).0

-- ---- legal sequences are trees

tree-before : (a : ℕ) (f g : Forest) (us rs xs : List Tag) → us ≡ tags_f f ++ (closes ∷ rs) → rs ≡ tags_f g ++ (closes ∷ xs)
    → opens a ∷ us ≡ tags_f (◌before◌ (node a f) g) ++ (closes ∷ xs)
unfolding tags_t
tree-before a f g us rs xs p q = simp (p, q, append_assoc)

root_before : (a : ℕ) (f : Forest) (us rest : List Tag) → us ≡ tags_f f ++ (closes ∷ rest) → opens a ∷ us ≡ tags_t (node a f) ++ rest
unfolding tags_t
root_before a f us rest p = simp (p, append_assoc)

-- After some trees' tags and a closing, one element less is open.
forest-closed : (d : ℕ) (f : Forest) (ts rest : List Tag) → ts ≡ tags_f f ++ (closes ∷ rest) → depth_from (suc d) ts ≡ depth_from d rest
unfolding depth_from
forest-closed d f ts rest e = rw (e, depth-append, forest-depth)

-- Where an element is open and none is at the end, the tags begin with those of some trees and the closing after them.
forest-there : (n d : ℕ) (ts : List Tag) → length ts ≤ n → depth_from (suc d) ts ≡ 0
    → (f : Forest) × (rest : List Tag) × (ts ≡ tags_f f ++ (closes ∷ rest))
unfolding depth_from tags_t
forest-there zero d [] l e = absurd (omega arith)
forest-there zero d (t ∷ us) l e = absurd (omega arith)
forest-there (suc n) d [] l e = absurd (omega arith)
forest-there (suc n) d (closes ∷ us) l e = (empty, us, refl)
forest-there (suc n) d (opens a ∷ us) l e =
    let p = forest-there n (suc d) us (le_of_suc-le-suc l) e in
    let m : length p.1 ≤ n = omega (arith, simp length-append at (ap length p.2)) in
    let q = forest-there n d p.1 m (sym (forest-closed (suc d) p.0 us p.1 p.2) ∙ e) in
    (◌before◌ (node a p.0) q.0, q.1, tree-before a p.0 q.0 us p.1 q.1 p.2 q.2)

-- Nothing follows the tags of a closed root.
fit-closed : (ts : List Tag) (e : ℕ) → Fit 0 (suc e) ts → ts ≡ []
unfolding Fit
fit-closed [] e h = refl
fit-closed (opens l ∷ ts) e h = absurd (omega (arith, ((opens-well-iff 0 (suc e) l).0 h.0).root_open refl))
fit-closed (closes ∷ ts) e h = absurd (omega (arith, (closes-well-iff 0 (suc e)).0 h.0))

mutual
  unfolding tags_t height_t Fit depth_from

  -- A tree whose tags fit where d elements are open reaches no level over 63.
  fit-height : (t : Tree) (d e : ℕ) → d ≤ levels_most → Fit d e (tags_t t) → d + height_t t ≤ levels_most
  fit-height (node l f) d e b h =
      let w = (opens-well-iff d e l).0 h.0 in
      omega (arith, forest-height f (suc d) _ (omega (arith, w.shallow)) ((fit_append (tags_f f) (closes ∷ []) (suc d) _).0 h.1).0)

  forest-height : (f : Forest) (d e : ℕ) → d ≤ levels_most → Fit d e (tags_f f) → d + height_f f ≤ levels_most
  forest-height empty d e b h = omega arith
  forest-height (◌before◌ t f) d e b h =
      let p = (fit_append (tags_t t) (tags_f f) d e).0 h in
      let r : Fit d (e + opened_count (tags_t t)) (tags_f f) = rw (tree-depth t d) at p.1 in
      omega (arith, fit-height t d e b p.0, forest-height f d (e + opened_count (tags_t t)) b r)

-- A tree whose tags fit is within the limits.
fit-within : (t : Tree) → Fit 0 0 (tags_t t) → Within t
fit-within t h =
    record {
      few = omega (arith, fit-few (tags_t t) 0 0 (omega arith) h, tags-size t);
      shallow = omega (arith, fit-height t 0 0 (omega arith) h);
      labelled = fit-labelled (tags_t t) 0 0 h;
    }

-- Tags that fit after a tree's are none.
fit-alone : (t : Tree) (rest : List Tag) → Fit 0 0 (tags_t t ++ rest) → rest ≡ []
unfolding size_t
fit-alone (node l f) rest h =
    let t = node l f in fit-closed rest (size_f f) (rw (tree-depth t 0, tags-size t, zero-add) at ((fit_append (tags_t t) rest 0 0).0 h).1)

-- Tags that begin with a tree's and fit are that tree's, and it is within the limits.
fit-tree : (t : Tree) (ts rest : List Tag) → Fit 0 0 ts → ts ≡ tags_t t ++ rest → (t : Tree) × (ts ≡ tags_t t) × Within t
fit-tree t ts rest h e =
    let z : rest ≡ [] = fit-alone t rest (rw e at h) in
    let q : ts ≡ tags_t t = e ∙ rw z (append-nil (tags_t t)) in
    (t, q, fit-within t (rw q at h))

-- Every legal sequence of tags, unless it is empty, is that of a tree within the limits.
pub legal-tree : (ts : List Tag) → Legal 0 0 ts → (ts ≡ [] → ⊥) → (t : Tree) × (ts ≡ tags_t t) × Within t
unfolding Fit depth_from tags_t
legal-tree [] h n = absurd (n refl)
legal-tree (closes ∷ us) h n = absurd (omega (arith, (closes-well-iff 0 0).0 h.fit.0))
legal-tree (opens l ∷ us) h n =
    let p = forest-there (length us) 0 us (omega arith) h.ended in
    fit-tree (node l p.0) (opens l ∷ us) p.1 h.fit (root_before l p.0 us p.1 p.2)

-- ---- trees are legal sequences

labelled-tail : (l : ℕ) (ls : List ℕ) → Labelled (l ∷ ls) → Labelled ls
labelled-tail l ls h i m = h (suc i) (suc-le-suc m)

labelled-left : (xs ys : List ℕ) → Labelled (xs ++ ys) → Labelled xs
labelled-left xs ys h i m = rw (get_or-append xs ys 0 i m) at (h i (omega (arith, length-append xs ys)))

labelled-right : (xs ys : List ℕ) → Labelled (xs ++ ys) → Labelled ys
labelled-right xs ys h i m = rw (get_or-append-add xs ys i 0) at (h (length xs + i) (omega (arith, length-append xs ys)))

labels-left : (ts us : List Tag) → Labelled (labels (ts ++ us)) → Labelled (labels ts)
labels-left ts us h = labelled-left (labels ts) (labels us) (rw labels_append at h)

labels_right : (ts us : List Tag) → Labelled (labels (ts ++ us)) → Labelled (labels us)
labels_right ts us h = labelled-right (labels ts) (labels us) (rw labels_append at h)

mutual
  unfolding tags_t height_t size_t labels depth_from Fit

  -- A tree's tags fit where there is room for its elements and levels.
  tree-fit : (t : Tree) (d e : ℕ) → (d ≡ 0 → e ≡ 0) → d + height_t t ≤ levels_most → e + size_t t ≤ elements_most → Labelled (labels (tags_t t))
      → Fit d e (tags_t t)
  tree-fit (node l f) d e r h n m =
      let w : OpensWell d e l = record {
        positive = (m 0 (omega arith)).0;
        small = (m 0 (omega arith)).1;
        root_open = r;
        shallow = omega arith;
        few = omega arith;
      } in
      let g = labels-left (tags_f f) (closes ∷ []) (labelled-tail l (labels (tags_f f ++ (closes ∷ []))) m) in
      let c = (closes-well-iff (suc d) (e + 1 + opened_count (tags_f f))).1 (omega arith) in (
        (opens-well-iff d e l).1 w,
        (fit_append (tags_f f) (closes ∷ []) (suc d) (e + 1)).1
            (forest-fit f (suc d) (e + 1) (omega arith) (omega arith) (omega arith) g, rw (forest-depth f (suc d)) (c, tt)),
      )

  forest-fit : (f : Forest) (d e : ℕ) → 1 ≤ d → d + height_f f ≤ levels_most → e + size_f f ≤ elements_most → Labelled (labels (tags_f f)) → Fit d e (tags_f f)
  forest-fit empty d e p h n m = tt
  forest-fit (◌before◌ t f) d e p h n m =
      let a = tree-fit t d e (λ z. absurd (omega arith)) (omega arith) (omega arith) (labels-left (tags_t t) (tags_f f) m) in
      let b = forest-fit f d (e + opened_count (tags_t t)) p (omega arith) (omega (arith, tags-size t)) (labels_right (tags_t t) (tags_f f) m) in
      (fit_append (tags_t t) (tags_f f) d e).1 (a, rw (tree-depth t d) b)

-- The tags of a tree within the limits are legal.
pub tree-legal : (t : Tree) → Within t → Legal 0 0 (tags_t t)
tree-legal t w =
    record {
      fit = tree-fit t 0 0 (λ z. refl) (omega (arith, w.shallow)) (omega (arith, w.few)) w.labelled;
      ended = tree-depth t 0;
    }
