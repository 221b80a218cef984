-- The table of kinds of rule records: the length and the body of each, what it means as a shape, and which of them look back. Document
-- 01, "Records". What the shapes mean on a tree is said in the crate meaning.
-- Laws: proofs/KindLaws.antt, proofs/Rows.antt. Assumes nothing.
use Rattle.std.specs.Prelude.{ℕ, Bool, true, false, List, [], ◌∷◌, get_or}
use Rattle.terms.specs.declared.kind.Axis.{Axis}
use Rattle.terms.specs.declared.kind.Axis.TheVariants.{Child, Parent, Next, Previous}
use Rattle.terms.specs.declared.kind.Local.{Local}
use Rattle.terms.specs.declared.kind.Local.TheVariants.{Always, HasLabel, Negation, Disjunction, Conjunction}
use Rattle.terms.specs.declared.kind.Shape.{Shape}
use Rattle.terms.specs.declared.kind.Shape.TheVariants.{Nothing, Here, SomeAlong, UntilAlong, EveryChild}
use Rattle.terms.specs.declared.kind.Numbers.{Numbers}
use Rattle.terms.specs.declared.kind.Numbers.TheVariants.{Nothing as NoNumbers, Label, Entries}
use Rattle.terms.specs.declared.kind.Row.{Row}

-- What the numbers of a body are: a label in kind 2, entry numbers in kinds 3 to 14.
unfoldable pub local_numbers : Local → Numbers
local_numbers Always = NoNumbers
local_numbers HasLabel = Label
local_numbers Negation = Entries
local_numbers Disjunction = Entries
local_numbers Conjunction = Entries

unfoldable pub numbers_of : Shape → Numbers
numbers_of Nothing = NoNumbers
numbers_of (Here asked) = local_numbers asked
numbers_of (SomeAlong x) = Entries
numbers_of (UntilAlong x) = Entries
numbers_of EveryChild = Entries

-- A row: the record's length, how many two-byte numbers its body has, what these are, and its shape.
abbrev pub row : ℕ → ℕ → Shape → Row
row size arguments shape = record { length = size; arguments = arguments; numbers = numbers_of shape; shape = shape }

-- What stands for a number that is no kind: length 0, which no record has.
abbrev pub no_kind : Row
no_kind = row 0 0 Nothing

-- The rows of kinds 0 to 14, 0 being no kind.
abbrev pub kind_rows : List Row
kind_rows =
    no_kind
    -- 1: everywhere
    ∷ row 2 0 (Here Always)
    -- 2: where the element has the label
    ∷ row 4 1 (Here HasLabel)
    -- 3: where a does not hold
    ∷ row 4 1 (Here Negation)
    -- 4: where a or b holds
    ∷ row 6 2 (Here Disjunction)
    -- 5: where a and b hold
    ∷ row 6 2 (Here Conjunction)
    -- 6: where a holds at one child or more
    ∷ row 4 1 (SomeAlong Child)
    -- 7: where there is a parent, and a holds at it
    ∷ row 4 1 (SomeAlong Parent)
    -- 8: the same of the next sibling
    ∷ row 4 1 (SomeAlong Next)
    -- 9: and of the previous one
    ∷ row 4 1 (SomeAlong Previous)
    -- 10: where some way down, of no step or more, ends at an element with b, and everything on it before that has a
    ∷ row 6 2 (UntilAlong Child)
    -- 11: the same of a way up
    ∷ row 6 2 (UntilAlong Parent)
    -- 12: of a way to later siblings
    ∷ row 6 2 (UntilAlong Next)
    -- 13: and of one to earlier siblings
    ∷ row 6 2 (UntilAlong Previous)
    -- 14: where there are children, and a holds at all of them
    ∷ row 4 1 EveryChild
    ∷ []

-- The row of a kind.
unfoldable pub row_of : ℕ → Row
row_of kind = get_or kind_rows kind no_kind

-- The length of a rule record of each kind; 0 for a number that is no kind.
abbrev pub rule_length : ℕ → ℕ
rule_length kind = (row_of kind).length

-- The shape of a kind.
abbrev pub shape_of : ℕ → Shape
shape_of kind = (row_of kind).shape

-- A step along an axis leads back, to an element that opened before, or on to one that opens later.
unfoldable pub leads_back : Axis → Bool
leads_back Child = false
leads_back Parent = true
leads_back Next = false
leads_back Previous = true

-- What is asked of the element alone looks back, and what goes along an axis that leads back. So kinds 1 to 5, 7, 9, 11 and 13 do, and no
-- other: `kinds-back` in proofs/KindLaws.antt.
unfoldable pub shape_looks_back : Shape → Bool
shape_looks_back Nothing = false
shape_looks_back (Here asked) = true
shape_looks_back (SomeAlong x) = leads_back x
shape_looks_back (UntilAlong x) = leads_back x
shape_looks_back EveryChild = false

abbrev pub looks_back : ℕ → Bool
looks_back kind = shape_looks_back (shape_of kind)

-- ==== Working definitions: nothing below has to be believed

-- The axes in the order of kinds 6 to 9 and 10 to 13.
unfoldable pub axis_of : ℕ → Axis
axis_of n = get_or (Child ∷ Parent ∷ Next ∷ []) n Previous
