-- The report reader: which number a report gets, and where. Document 01, "Numbers given back", rows 0 and 5 to 8, and its order.
-- Shuts out: a record after the root's closing taken; a fault other than the first deciding; an end with an element open taken.
-- Laws: proofs/ReportLaws.antt, and the crate grammar. Assumes nothing.
use Rattle.std.specs.Prelude.{ℕ, Bool, cond, List, eqb, length}
use Rattle.numbers.specs.First.{first}
use Rattle.terms.specs.Frame.{start_of, stops_at}
use Rattle.tag.specs.Tags.{Tag, depth, opened_count, end_of}
use Rattle.tag.specs.Record.{tag_at, record_fault}
use Rattle.terms.specs.Answer.{Answer, Refused}
use Rattle.terms.specs.Limits.{report_most, missized}
use Rattle.numbers.specs.Lists.{listed}

-- The tags of the first i records.
abbrev pub tags_before : List ℕ → ℕ → List Tag
tags_before s n = listed n (λ i. tag_at s (start_of s i))

-- ==== Working definitions: nothing below has to be believed

-- The number that record i gets.
unfoldable pub report_fault : List ℕ → ℕ → ℕ
report_fault s i = record_fault s (start_of s i) (depth (tags_before s i)) (opened_count (tags_before s i))

-- Reading stops at record i.
unfoldable pub report_stops : List ℕ → ℕ → Bool
report_stops s i = stops_at (report_fault s) s i

-- What the report is answered where reading stops at record i.
unfoldable pub report_answer_at : List ℕ → ℕ → Answer
report_answer_at s i =
    cond (eqb (start_of s i) (length s)) (end_of (length s) (depth (tags_before s i)) (opened_count (tags_before s i)))
    (Refused (report_fault s i) (start_of s i))

-- The record at which reading stops. Every record takes two bytes or more, so there are no more records than bytes.
abbrev pub last_record : List ℕ → ℕ
last_record s = first (report_stops s) (length s)

-- Row 5 comes first; then the first record in byte order that is at fault decides; where none is, the end.
unfoldable pub report_answer : List ℕ → Answer
report_answer s = cond (missized report_most s) (Refused 5 0) (report_answer_at s (last_record s))

-- The report's tags, up to where reading stops.
abbrev pub tags_of : List ℕ → List Tag
tags_of s = tags_before s (last_record s)
