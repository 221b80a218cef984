-- A mark is true exactly where the entry holds: the computing form tells the meaning, for every kind, at every element.
-- Assumes nothing.
use Prim.Native.Nat.{ℕ, zero, suc, pred, ◌≤◌, ◌<◌}
use mathlib.Core.Path.{◌≡◌}
use mathlib.Core.Bool.{Bool, true, false, cond}
use mathlib.Core.List.{List}
use mathlib.Core.Logic.{◌↔◌}
use lib.Dec.{eqb}
use lib.ListN.{length, get_or}
use Rattle.entry.specs.declared.entry.Entry.{Entry}
use Rattle.grammar.specs.Rules.{no_entry}
use Rattle.numbers.proofs.Tells.{IsTest, holds, fails, true-iff, eqb-tests, or-tests, and-tests, not-tests}
use Rattle.terms.specs.declared.kind.Axis.{Axis}
use Rattle.terms.specs.declared.kind.Axis.TheVariants.{Child as child, Parent as to_parent, Next as next, Previous as to_previous}
use Rattle.meaning.specs.Tree.{Child, Next, Neighbour, direction}
use Rattle.meaning.specs.Links.{parent, previous, link}
use Rattle.terms.specs.declared.kind.Local.{Local}
use Rattle.terms.specs.declared.kind.Local.TheVariants.{Always as always, HasLabel as has_label, Negation as negation, Disjunction as disjunction, Conjunction as conjunction}
use Rattle.terms.specs.declared.kind.Shape.{Shape}
use Rattle.terms.specs.declared.kind.Shape.TheVariants.{Nothing as nothing, Here as local, SomeAlong as some_along, UntilAlong as until_along, EveryChild as every_child}
use Rattle.terms.specs.Kinds.{shape_of, leads_back}
use Rattle.meaning.specs.Meaning.{MeansHere, Means, Below, Holds}
use Rattle.meaning.specs.Marks.{means_here, means, below, mark, word_of, verdict}
use Rattle.meaning.proofs.Links.{parent_is, parent-down, previous-is, previous-down}
use Rattle.meaning.proofs.Tests.{ToldBelow, Finds, Along, ahead, behind, nearer, some-told, every-told, until-told}
use Rattle.meaning.proofs.Words.{word_of-bit, verdict-is}
use Rattle.numbers.specs.Bits.{bit_at}

-- Parents find the child relation among a report's elements, and previous siblings the next-sibling relation.
parent-finds : (levels : List ℕ) → Finds (Child levels) (parent levels) (length levels)
parent-finds levels =
    record { is = parent_is levels; down = parent-down levels; inside = λ s t e. ((parent_is levels s t).0 e).element }

previous-finds : (levels : List ℕ) → Finds (Next levels) (previous levels) (length levels)
previous-finds levels =
    record { is = previous-is levels; down = previous-down levels; inside = λ s t e. ((previous-is levels s t).0 e).element }

-- So each axis is found by its link.
pub axis-along : (levels : List ℕ) (x : Axis) → Along (link levels x) (length levels) (direction x) (Neighbour levels x)
unfolding link direction leads_back Neighbour
axis-along levels child = ahead (parent-finds levels)
axis-along levels to_parent = behind (parent-finds levels)
axis-along levels next = ahead (previous-finds levels)
axis-along levels to_previous = behind (previous-finds levels)

-- Kinds 1 to 5.
here-told : {A B : Type 0} {a b : Bool} (k : Local) (label own : ℕ) → IsTest A a → IsTest B b
    → IsTest (MeansHere k label own A B) (means_here k label own a b)
unfolding MeansHere means_here
here-told always label own ha hb = holds tt
here-told has_label label own ha hb = eqb-tests own label
here-told negation label own ha hb = not-tests ha
here-told disjunction label own ha hb = or-tests ha hb
here-told conjunction label own ha hb = and-tests ha hb

module _ (levels labels : List ℕ) where
  module _ (label : ℕ) (A B : ℕ → Type 0) (a b : ℕ → Bool)
      (ha : ToldBelow (length levels) A a) (hb : ToldBelow (length levels) B b) (s : ℕ) (l : s < length levels) where
    near : (x : Axis) (t : ℕ) → Neighbour levels x s t → IsTest (A t) (a t)
    near x t q = ha t (nearer (axis-along levels x) s t l q).0

    -- The test of a kind tells what the kind means, where the tests of a and b do.
    pub means-told : (k : Shape) → IsTest (Means levels labels k label A B s) (means levels labels k label a b s)
    unfolding Means means
    means-told nothing = fails (λ x. x)
    means-told (local k) = here-told k label (get_or labels s 0) (ha s l) (hb s l)
    means-told (some_along x) = some-told (axis-along levels x) s (near x)
    means-told (until_along x) = until-told (axis-along levels x) ha hb s l
    means-told every_child = every-told (axis-along levels child) s (near child)

  pick-told : (q : Bool) (s : ℕ) (P P' : ℕ → Type 0) (p p' : ℕ → Bool) → IsTest (P s) (p s) → IsTest (P' s) (p' s)
      → IsTest (cond q P P' s) (cond q p p' s)
  pick-told true s P P' p p' h h' = h
  pick-told false s P P' p p' h h' = h'

  module _ (entries : List Entry) where
    -- So it is for the entries below k, by recursion on the entry number.
    below-told : (k i s : ℕ) → s < length levels → IsTest (Below levels labels entries k i s) (below levels labels entries k i s)
    unfolding Below below
    below-told zero i s l = fails (λ x. x)
    below-told (suc k) i s l =
        pick-told (eqb i k) s _ _ _ _
        (means-told (get_or entries k no_entry).a _ _ _ _ (below-told k (get_or entries k no_entry).a) (below-told k (get_or entries k no_entry).b)
        s l (shape_of (get_or entries k no_entry).kind))
        (below-told k i s l)

    -- An entry's mark at an element tells whether the entry holds there.
    mark-told : (i s : ℕ) → s < length levels → IsTest (Holds levels labels entries i s) (mark levels labels entries i s)
    unfolding Holds mark
    mark-told i s l = below-told (suc i) i s l

    -- A mark is true exactly where the entry holds.
    pub mark-iff : (i s : ℕ) → s < length levels → (mark levels labels entries i s ≡ true) ↔ Holds levels labels entries i s
    mark-iff i s l = true-iff (mark-told i s l)

    -- A bit of an element's word is set exactly where that entry holds.
    pub word-iff : (i s : ℕ) → i < length entries → s < length levels
        → (bit_at (word_of entries levels labels s) i ≡ true) ↔ Holds levels labels entries i s
    word-iff i s m l = rw (word_of-bit entries levels labels i s m) (mark-iff i s l)

    -- The verdict is true exactly where the last entry, which is the rule, holds.
    pub verdict-iff : (s : ℕ) → 1 ≤ length entries → s < length levels
        → (verdict entries levels labels s ≡ true) ↔ Holds levels labels entries (pred (length entries)) s
    verdict-iff s m l = rw (verdict-is entries levels labels s m) (mark-iff (pred (length entries)) s l)
