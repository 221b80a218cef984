-- Working definitions: nothing here has to be believed.
-- Marks: the meaning as a test that computes; the word of an element; verdict and selected count. Document 01, "Numbers given back"
-- (mark buffer) and demand 2.
-- Laws: proofs/Reflect.antt says that a mark is true exactly where the entry holds; proofs/Words.antt. Assumes nothing.
use Rattle.std.specs.Prelude.{ℕ, zero, suc, pred, Bool, true, false, cond, not, ◌&&◌, ◌||◌, List, eqb, length, get_or}
use Rattle.std.proofs.Math.Option.{Option, none, some}
use Rattle.entry.specs.declared.entry.Entry.{Entry}
use Rattle.grammar.specs.Rules.{no_entry}
use Rattle.terms.specs.declared.kind.Axis.TheVariants.{Child as child}
use Rattle.meaning.specs.Tree.{Direction, forward, backward, direction}
use Rattle.meaning.specs.Links.{link}
use Rattle.terms.specs.declared.kind.Local.{Local}
use Rattle.terms.specs.declared.kind.Local.TheVariants.{Always as always, HasLabel as has_label, Negation as negation, Disjunction as disjunction, Conjunction as conjunction}
use Rattle.terms.specs.declared.kind.Shape.{Shape}
use Rattle.terms.specs.declared.kind.Shape.TheVariants.{Nothing as nothing, Here as local, SomeAlong as some_along, UntilAlong as until_along, EveryChild as every_child}
use Rattle.terms.specs.Kinds.{shape_of}
use Rattle.numbers.specs.Bits.{word, bit_at, have_bit}
use Rattle.numbers.specs.Lists.{listed}

-- There is such an element, and p passes at it.
abbrev pub at : Option ℕ → (ℕ → Bool) → Bool
at none p = false
at (some t) p = p t

-- p passes at some number below n.
unfoldable pub any_below : ℕ → (ℕ → Bool) → Bool
any_below zero p = false
any_below (suc n) p = p n || any_below n p

-- The tests of a step along an axis with that direction, found by f among n elements: a passes at some neighbour of s. Backward it
-- is where f leads; forward each element that f leads from to s.
unfoldable pub some_of : Direction → ℕ → (f : ℕ → Option ℕ) (a : ℕ → Bool) → ℕ → Bool
some_of backward n f a s = at (f s) a
some_of forward n f a s = any_below n (λ t. at (f t) (λ p. eqb p s) && a t)

-- There is a neighbour, and none at which a does not pass.
unfoldable pub every_of : Direction → ℕ → (f : ℕ → Option ℕ) (a : ℕ → Bool) → ℕ → Bool
every_of d n f a s = some_of d n f (λ t. true) s && not (some_of d n f (λ t. not (a t)) s)

-- b passes at s, or a at s and the same at some neighbour, over fewer than k steps: a way among n elements has fewer than n.
unfoldable pub until_in : Direction → ℕ → (f : ℕ → Option ℕ) (a b : ℕ → Bool) (k : ℕ) → ℕ → Bool
until_in d n f a b zero s = false
until_in d n f a b (suc k) s = b s || (a s && some_of d n f (until_in d n f a b k) s)

unfoldable pub until_of : Direction → ℕ → (f : ℕ → Option ℕ) (a b : ℕ → Bool) → ℕ → Bool
until_of d n f a b s = until_in d n f a b n s

-- Kinds 1 to 5, as tests.
unfoldable pub means_here : Local → (label own : ℕ) (a b : Bool) → Bool
means_here always label own a b = true
means_here has_label label own a b = eqb own label
means_here negation label own a b = not a
means_here disjunction label own a b = a || b
means_here conjunction label own a b = a && b

module _ (levels labels : List ℕ) where
  -- The kinds, as tests.
  unfoldable pub means : Shape → (label : ℕ) (a b : ℕ → Bool) → ℕ → Bool
  means nothing label a b s = false
  means (local k) label a b s = means_here k label (get_or labels s 0) (a s) (b s)
  means (some_along x) label a b s = some_of (direction x) (length levels) (link levels x) a s
  means (until_along x) label a b s = until_of (direction x) (length levels) (link levels x) a b s
  means every_child label a b s = every_of (direction child) (length levels) (link levels child) a s

  module _ (entries : List Entry) where
    abbrev entry : ℕ → Entry
    entry i = get_or entries i no_entry

    unfoldable pub below : (k i : ℕ) → ℕ → Bool
    below zero i = λ s. false
    below (suc k) i =
        cond (eqb i k) (means (shape_of (entry k).kind) (entry k).a (below k (entry k).a) (below k (entry k).b)) (below k i)

    -- Entry i's mark at element s.
    unfoldable pub mark : (i s : ℕ) → Bool
    mark i = below (suc i) i

module _ (entries : List Entry) (levels labels : List ℕ) where
  -- The word of an element: a bit for every entry.
  unfoldable pub word_of : ℕ → ℕ
  word_of s = word (length entries) (λ i. mark levels labels entries i s)

  -- The words of the first n elements, and of all.
  abbrev pub words_below : ℕ → List ℕ
  words_below n = listed n word_of

  unfoldable pub words : List ℕ
  words = words_below (length levels)

  -- The verdict: the last entry's mark, which is the last entry's bit of the word.
  unfoldable pub verdict : ℕ → Bool
  verdict s = bit_at (word_of s) (pred (length entries))

-- How many words of a list have the bit of the last of m entries: the selected count is this of the words.
abbrev pub selected : ℕ → List ℕ → ℕ
selected m ws = have_bit (pred m) ws
