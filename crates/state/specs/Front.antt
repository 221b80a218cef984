-- Working definitions: nothing here has to be believed.
-- What is promised of the numbers in front of a state's words, for a state of 1,040 bytes: they are read where the state is not bad.
-- Assumes nothing.
use Rattle.std.specs.Prelude.{ℕ, ◌≡◌, Bool, true, false, List, Option, None, Some, Result, Ok, Err, get_or}
use Rattle.terms.specs.declared.refusal.Fault.{Fault}
use Rattle.terms.specs.declared.refusal.Fault.TheVariants.{StateBad}
use Rattle.fields.specs.Fields.{bad_fields}
use Rattle.state.specs.State.{depth_in, elements_in, root_in}
use Rattle.state.specs.Promises.{readable, parent_in, sibling_in}
use Rattle.state.specs.declared.places.Front.{Front}
use Rattle.state.specs.declared.state.Words.{Words}

-- The test of the numbers, as they stand in the bytes.
abbrev pub bad_front : List ℕ → Bool
bad_front s = bad_fields (depth_in s) (elements_in s) (root_in s) (get_or s 6 0) (get_or s 7 0)

abbrev pub FrontRead : List ℕ → Result Front Fault → Type 0
FrontRead s (Ok f) = (bad_front s ≡ false) × (f.depth ≡ depth_in s) × (f.elements ≡ elements_in s) × (f.root ≡ root_in s)
FrontRead s (Err f) = (bad_front s ≡ true) × (f ≡ StateBad)

-- And of the words that an opening reads: both, where the state is not bad and has a level left.
abbrev pub WordsFound : List ℕ → Option Words → Type 0
WordsFound s None = readable s ≡ false
WordsFound s (Some w) = (readable s ≡ true) × (w.parent ≡ parent_in s) × (w.sibling ≡ sibling_in s)
