-- What the entries of a rule mean: the table of kinds of document 01, "Records", over a report's whole tree. Kinds 10 to 13 are
-- until and since of source 000, section 4.1, word for word.
-- Shuts out: a asked at the end of the way too; a way that may not be empty; one child's way only; 7 and 9 more than one step away;
-- 7 true at the root.
-- Laws: proofs/Reflect.antt (the computing form), proofs/OneStep.antt (what an engine may use). Assumes nothing.
use Rattle.std.specs.Prelude.{ℕ, zero, suc, ◌≡◌, cond, ◌⊎◌, List, eqb, get_or}
use Rattle.entry.specs.declared.entry.Entry.{Entry}
use Rattle.terms.specs.declared.kind.Local.{Local}
use Rattle.terms.specs.declared.kind.Local.TheVariants.{Always as always, HasLabel as has_label, Negation as negation, Disjunction as disjunction, Conjunction as conjunction}
use Rattle.terms.specs.declared.kind.Shape.{Shape}
use Rattle.terms.specs.declared.kind.Shape.TheVariants.{Nothing as nothing, Here as local, SomeAlong as some_along, UntilAlong as until_along, EveryChild as every_child}
use Rattle.terms.specs.Kinds.{shape_of}
use Rattle.grammar.specs.Rules.{no_entry}
use Rattle.terms.specs.declared.kind.Axis.TheVariants.{Child as child}
use Rattle.meaning.specs.Tree.{Neighbour, Star}

-- B holds at some t at the end of a way of R from s, which may be s itself, and A holds at every u on the way, t excepted.
unfoldable pub Until : (R : ℕ → ℕ → Type 0) (A B : ℕ → Type 0) → ℕ → Type 0
Until R A B s =
    (t : ℕ) × Star R s t × B t × ((u : ℕ) → Star R s u → Star R u t → (u ≡ t → ⊥) → A u)

-- Kinds 1 to 5 at an element: `label` is the entry's, `own` the element's; A and B are what entries a and b mean there.
unfoldable pub MeansHere : Local → (label own : ℕ) (A B : Type 0) → Type 0
MeansHere always label own A B = Unit {0}
MeansHere has_label label own A B = own ≡ label
MeansHere negation label own A B = A → ⊥
MeansHere disjunction label own A B = A ⊎ B
MeansHere conjunction label own A B = A × B

-- A tree: the levels and the labels of its elements in order of opening.
module _ (levels labels : List ℕ) where
  -- The kinds at element s; `label` is the label of kind 2, A and B are what entries a and b mean.
  unfoldable pub Means : Shape → (label : ℕ) (A B : ℕ → Type 0) → ℕ → Type 0
  Means nothing label A B s = ⊥
  Means (local k) label A B s = MeansHere k label (get_or labels s 0) (A s) (B s)
  Means (some_along x) label A B s = (t : ℕ) × Neighbour levels x s t × A t
  Means (until_along x) label A B s = Until (Neighbour levels x) A B s
  Means every_child label A B s = ((t : ℕ) × Neighbour levels child s t) × ((t : ℕ) → Neighbour levels child s t → A t)

  module _ (entries : List Entry) where
    abbrev entry : ℕ → Entry
    entry i = get_or entries i no_entry

    -- What entry i means, by recursion on the entry number: only entries below k have a meaning yet, and an entry's a and b are
    -- below the entry itself.
    unfoldable pub Below : (k i : ℕ) → ℕ → Type 0
    Below zero i = λ s. ⊥
    Below (suc k) i =
        cond (eqb i k) (Means (shape_of (entry k).kind) (entry k).a (Below k (entry k).a) (Below k (entry k).b)) (Below k i)

    -- Entry i holds at element s.
    unfoldable pub Holds : (i s : ℕ) → Type 0
    Holds i = Below (suc i) i
