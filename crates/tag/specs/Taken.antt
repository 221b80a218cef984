-- Working definitions: nothing here has to be believed.
-- What the record of a report at an offset is taken for where so many elements are open and so many have been opened: without a fault
-- the tag that stands there; else the fault, whose number is the record's, and of an opening that is whole its label all the same.
-- Document 01, "Numbers given back", rows 6 to 8.
-- Laws: proofs/RecordLaws.antt, proofs/Only.antt. Assumes nothing.
use Rattle.std.specs.Prelude.{ℕ, ◌≡◌, cond, List, Option, None, Some, Result, Ok, Err}
use Rattle.terms.specs.Answer.{number_of_fault}
use Rattle.terms.specs.Frame.{broken_at}
use Rattle.tag.specs.Tags.{Tag, opens, closes}
use Rattle.tag.specs.Record.{report_length, tag_at, record_fault}
use Rattle.tag.specs.declared.tag.Tag.{Tag as CodeTag}
use Rattle.tag.specs.declared.tag.Tag.TheVariants.{Opening, Closing}
use Rattle.tag.specs.declared.tag.Untaken.{Untaken}

-- The tag that the code names.
abbrev pub tag_of : CodeTag → Tag
tag_of (Opening label) = opens label
tag_of Closing = closes

-- The label with which a tag opens an element; a closing has none.
abbrev pub label_of : Tag → Option ℕ
label_of (opens label) = Some label
label_of closes = None

-- The label that the record at an offset names: that of an opening that is whole, at fault or not; a record that is not whole, and a
-- closing, name none.
unfoldable pub label_at : List ℕ → ℕ → Option ℕ
label_at s at = cond (broken_at report_length s at) None (label_of (tag_at s at))

-- What is taken of a record: without a fault its tag; else the fault whose number the record gets, and the label that it names.
abbrev pub TagTaken : (s : List ℕ) (at open_now opened_so_far : ℕ) → Result CodeTag Untaken → Type 0
TagTaken s at open_now opened_so_far (Ok t) = (record_fault s at open_now opened_so_far ≡ 0) × (tag_of t ≡ tag_at s at)
TagTaken s at open_now opened_so_far (Err u) =
    (number_of_fault u.fault ≡ record_fault s at open_now opened_so_far) × (u.label ≡ label_at s at)
