-- Working definitions: nothing here has to be believed.
-- What an accepted report holds, as the lists of labels and levels that the layers above work on. Document 01, "Records".
-- Laws: proofs/ElementLaws.antt, and the crate grammar. Assumes nothing.
use Rattle.std.specs.Prelude.{ℕ, ◌≡◌, cond, List, []}
use Rattle.terms.specs.Answer.{where_accepted, Answer}
use Rattle.reports.specs.Report.{report_answer, tags_of}
use Rattle.tag.specs.Tags.{Tag, labels, levels}
use Rattle.terms.specs.Limits.{report_most, missized}
use Rattle.numbers.specs.Lists.{over}

-- The labels of an accepted report's elements in order of opening, and their levels; none of a refused one.
unfoldable pub labels_of : List ℕ → List ℕ
labels_of s = where_accepted (report_answer s) (labels (tags_of s))

unfoldable pub levels_of : List ℕ → List ℕ
levels_of s = where_accepted (report_answer s) (levels (tags_of s))

-- The tags up to where reading stops; a report of no byte or of too many is not read.
unfoldable pub tags_read : List ℕ → List Tag
tags_read s = cond (missized report_most s) [] (tags_of s)

-- What reading the elements answers and leaves in lent tables of any length: one walk, so that a refused report leaves the elements
-- opened before its fault. A table that is too short has those that it has room for.
pub record ElementsTaken (s labels₀ levels₀ : List ℕ) (r : Answer) (labels₁ levels₁ : List ℕ) : Type 0 where
  pub answer : r ≡ report_answer s
  pub labels_are : labels₁ ≡ over (labels (tags_read s)) labels₀
  pub levels_are : levels₁ ≡ over (levels (tags_read s)) levels₀
