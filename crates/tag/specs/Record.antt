-- One record of a report: the tag that it is, and the number that it gets. Document 01, "Records", and "Numbers given back", rows 6 to 8
-- and their order.
-- Shuts out: 7 or 8 before 6; a record that is not whole taken for an opening.
-- Laws: proofs/RecordLaws.antt, and the crate grammar. Assumes nothing.
use Rattle.std.specs.Prelude.{ℕ, ◌+◌, cond, ◌&&◌, List, ltb, eqb}
use Rattle.numbers.specs.Bytes.{number_at}
use Rattle.terms.specs.Frame.{kind_at, broken_at}
use Rattle.tag.specs.Tags.{Tag, opens, closes, tag_fault}

-- The length of a report record of each kind; 0 for a number that is no kind.
unfoldable pub report_length : ℕ → ℕ
report_length kind = cond (eqb kind 1) 4 (cond (eqb kind 2) 2 0)

-- The tag whose record stands at an offset.
unfoldable pub tag_at : List ℕ → ℕ → Tag
tag_at s at = cond (eqb (kind_at s at) 1) (opens (number_at s (at + 4))) closes

-- ==== Working definitions: nothing below has to be believed

-- The number that the report's record at an offset gets where so many elements are open and so many have been opened before it, in
-- the order 6, 7, 8; 0 where it has no fault. The root is closed where elements have been opened and none is open.
unfoldable pub record_fault : List ℕ → ℕ → ℕ → ℕ → ℕ
record_fault s at open_now opened_so_far =
    cond (broken_at report_length s at) 6
    (tag_fault open_now opened_so_far (eqb open_now 0 && ltb 0 opened_so_far) (tag_at s at))
