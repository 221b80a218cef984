-- Working definitions: nothing here has to be believed.
-- What laying a report out answers and leaves in four lent columns of any length. Document 01, "Records": elements, levels and their tree.
-- Shuts out: a parent or a sibling put where a column has no room; a refused report's elements linked.
-- Laws: proofs/LayoutLaws.antt, proofs/Only.antt. Assumes nothing.
use Rattle.std.specs.Prelude.{ℕ, ◌≡◌, cond, List, [], ltb, length}
use Rattle.terms.specs.Answer.{Answer}
use Rattle.layout.specs.Links.{parents, previous_siblings}
use Rattle.reports.specs.Elements.{levels_of, ElementsTaken}
use Rattle.numbers.specs.Lists.{over}

-- The lower of two numbers.
unfoldable pub least_of : ℕ → ℕ → ℕ
least_of a b = cond (ltb a b) a b

-- For how many elements all four columns have room.
unfoldable pub room_in : (labels levels ups lefts : List ℕ) → ℕ
room_in labels levels ups lefts = least_of (least_of (length labels) (length levels)) (least_of (length ups) (length lefts))

-- What is put where there is room for so many elements: the numbers of a report's elements, or nothing.
abbrev pub with_room : (room : ℕ) (report numbers : List ℕ) → List ℕ
with_room room report numbers = cond (ltb room (length (levels_of report))) [] numbers

-- The promise: labels and levels are as the reader leaves them; the first places of the other two columns have the parents and
-- the previous siblings of an accepted report's elements where all columns have room for them, and else these columns stay. A
-- refused report has no levels, so nothing is put for it.
pub record LaidOut (report labels levels ups lefts : List ℕ) (r : Answer) (labels' levels' ups' lefts' : List ℕ) : Type 0 where
  pub read : ElementsTaken report labels levels r labels' levels'
  pub ups_are : ups' ≡ over (with_room (room_in labels levels ups lefts) report (parents (levels_of report))) ups
  pub lefts_are : lefts' ≡ over (with_room (room_in labels levels ups lefts) report (previous_siblings (levels_of report))) lefts
