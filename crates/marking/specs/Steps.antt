-- Working definitions: nothing here has to be believed.
-- What a pass's marks are, along any function F that leads from an element to one before it.
-- Laws: proofs/StepLaws.antt says that the marks of a pass are the steps of the crate steps, proofs/KindLaws.antt that along the columns
-- they are what a kind means.
-- Assumes nothing.
use Rattle.std.specs.Prelude.{ℕ, suc, ◌≡◌, Bool, true, false, List}
use Rattle.std.proofs.Math.Option.{Option, some}
use Rattle.meaning.specs.Tree.{Direction, forward}
use Rattle.meaning.specs.Marks.{some_of, every_of, until_of}
use Rattle.layout.specs.Links.{leads}
use Rattle.steps.specs.declared.ahead.AskedAhead.{AskedAhead}
use Rattle.steps.specs.declared.ahead.AskedAhead.TheVariants.{Until, Every}

-- The marks of a pass along an axis with a direction, which F finds: at the end of a way, or at some neighbour.
unfoldable pub along_mark : (until : Bool) → Direction → ℕ → (F : ℕ → Option ℕ) (a b : ℕ → Bool) → ℕ → Bool
along_mark true d n F a b s = until_of d n F a b s
along_mark false d n F a b s = some_of d n F a s

-- The marks of the pass by turns over n elements.
unfoldable pub ahead_mark : AskedAhead → ℕ → (F : ℕ → Option ℕ) (a b : ℕ → Bool) → ℕ → Bool
ahead_mark Until n F a b s = until_of forward n F a b s
ahead_mark Every n F a b s = every_of forward n F a s

-- Whoever is led to is led to from the very next element: so it is of parents, and a pass asks it for kind 14 only.
unfoldable pub Nearest : AskedAhead → List ℕ → Type 0
Nearest Until f = Unit
Nearest Every f = (s t : ℕ) → leads f t ≡ some s → leads f (suc s) ≡ some s
