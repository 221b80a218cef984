-- Working definitions: nothing here has to be believed.
-- Whose columns the elements are that passes are given. Assumes nothing.
use Rattle.std.specs.Prelude.{ℕ, List, take}
use Rattle.marking.specs.Pass.{Columns}
use Rattle.marking.specs.declared.asked.Elements.{Elements}

-- They are those of a report whose elements have these levels; so are the first n of them.
abbrev pub ColumnsOf : List ℕ → Elements → Type 0
ColumnsOf levels e = Columns levels e.labels.now e.ups.now e.lefts.now

abbrev pub FirstColumnsOf : ℕ → List ℕ → Elements → Type 0
FirstColumnsOf n levels e = Columns levels (take n e.labels.now) (take n e.ups.now) (take n e.lefts.now)
