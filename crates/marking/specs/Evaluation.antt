-- What contracts of exported calls name: nothing here has to be believed, since the page (crate demands) states what it comes to.
-- Marking a report: number, place, elements and selected, and the mark buffer afterwards. Document 01, "Numbers given back", with
-- its order, and demand 2.
-- Shuts out: a refusal that writes; 9 before 6; an invented count; a word past the last element written.
-- Laws: proofs/Means.antt (what the promise comes to), proofs/AnswerLaws.antt, proofs/Only.antt. Assumes nothing.
use Rattle.std.specs.Prelude.{ℕ, ◌≡◌, cond, List, [], ltb, length, Result, Ok, Err}
use Rattle.terms.specs.Answer.{number_of, place_of, count_of, by_answer, in_order, Answer, Accepted, Refused, number_of_fault}
use Rattle.terms.specs.declared.refusal.Refusal.{Refusal}
use Rattle.rules.specs.Rule.{rule_answer}
use Rattle.reports.specs.Report.{report_answer}
use Rattle.entry.specs.declared.entry.Entry.{Entry}
use Rattle.meaning.specs.Marks.{words, selected}
use Rattle.layout.specs.Layout.{least_of, room_in, LaidOut}
use Rattle.marking.specs.declared.report.Evaluation.{Evaluation}
use Rattle.marking.specs.declared.report.Counted.{Counted}
use Rattle.marking.specs.declared.report.Marking.{Marking}
use Rattle.rules.specs.Entries.{entries_of}
use Rattle.reports.specs.Elements.{labels_of, levels_of}
use Rattle.numbers.specs.Lists.{over}

-- Row 9, after all rows of an answer: there is room for fewer (elements, or bytes of a text) than it counts.
unfoldable pub short_of_room : (room : ℕ) → Answer → Answer
short_of_room room a = in_order a (cond (ltb room (count_of a)) (Refused 9 0) a)

-- What the answer a comes to, as plain numbers: its number and place, how many elements there are, and how many of them are selected.
-- Refused: elements and selected are 0.
abbrev pub evaluation_of : Answer → (selected : ℕ) → Evaluation
evaluation_of a selected = record { number = number_of a; place = place_of a; elements = count_of a; selected = by_answer a selected 0 }

-- What the code answers comes to: the counts, or the refusal's number and place.
abbrev pub told : Result Counted Refusal → Evaluation
told (Ok c) = record { number = 0; place = 0; elements = c.elements; selected = c.selected }
told (Err r) = record { number = number_of_fault r.fault; place = r.place; elements = 0; selected = 0 }

module _ (rule report : List ℕ) where
  -- The words that the meaning gives the elements, in order.
  unfoldable pub meant_words : List ℕ
  meant_words = words (entries_of rule) (levels_of report) (labels_of report)

  -- The order: what the rule reader answers, then what the report reader answers, then 9, there being room for so many elements.
  unfoldable pub outcome : ℕ → Answer
  outcome room = in_order (rule_answer rule) (short_of_room room (report_answer report))

  -- What is answered.
  unfoldable pub evaluation : ℕ → Evaluation
  evaluation room = evaluation_of (outcome room) (selected (length (entries_of rule)) meant_words)

  -- What is written: the meaning's words where rule and report are accepted and there is room, nothing where they are refused.
  unfoldable pub words_written : ℕ → List ℕ
  words_written room = by_answer (outcome room) meant_words []

-- What a caller promises whose columns have room for every report, so that the buffer's words alone are counted: the answer, and the
-- buffer with what is written in its first places and the rest as it was.
pub record Evaluated (rule report marks : List ℕ) (r : Evaluation) (marks' : List ℕ) : Type 0 where
  pub answer : r ≡ evaluation rule report (length marks)
  pub marks_are : marks' ≡ over (words_written rule report (length marks)) marks

-- ---- with lent columns of any length

-- For how many elements the four columns and the buffer have room.
unfoldable pub room_for : (labels levels ups lefts marks : List ℕ) → ℕ
room_for labels levels ups lefts marks = least_of (room_in labels levels ups lefts) (length marks)

-- What is left in the columns: a refused rule leaves them as they were, and with an accepted one the report is laid out in them.
unfoldable pub ColumnsAfter : Answer → (report labels levels ups lefts labels' levels' ups' lefts' : List ℕ) → Type 0
ColumnsAfter (Refused number place) report labels levels ups lefts labels' levels' ups' lefts' =
    (labels' ≡ labels) × (levels' ≡ levels) × (ups' ≡ ups) × (lefts' ≡ lefts)
ColumnsAfter (Accepted n) report labels levels ups lefts labels' levels' ups' lefts' =
    LaidOut report labels levels ups lefts (report_answer report) labels' levels' ups' lefts'

-- The promise: the answer, the rule's entries counted, the buffer with what is written in its first places, and the columns.
pub record ReportMarked (rule report labels levels ups lefts marks : List ℕ) (r : Marking) (labels' levels' ups' lefts' marks' : List ℕ) : Type 0 where
  pub answer_is : told r.answer ≡ evaluation rule report (room_for labels levels ups lefts marks)
  pub entries_are : r.entries ≡ count_of (rule_answer rule)
  pub marks_are : marks' ≡ over (words_written rule report (room_for labels levels ups lefts marks)) marks
  pub columns_are : ColumnsAfter (rule_answer rule) report labels levels ups lefts labels' levels' ups' lefts'

-- The same once the rule has been read: its entries are es.
pub record MarkedBy (es : List Entry) (report labels levels ups lefts marks : List ℕ) (r : Result Counted Refusal) (labels' levels' ups' lefts' marks' : List ℕ) : Type 0 where
  pub answer : told r ≡ evaluation_of (short_of_room (room_for labels levels ups lefts marks) (report_answer report)) (selected (length es) (words es (levels_of report) (labels_of report)))
  pub marks_are : marks' ≡ over (by_answer (short_of_room (room_for labels levels ups lefts marks) (report_answer report)) (words es (levels_of report) (labels_of report)) []) marks
  pub laid_out : LaidOut report labels levels ups lefts (report_answer report) labels' levels' ups' lefts'
