-- Laws behind the marking's answer: the order of refusals, one law for each way through, and what the filled tables are.
-- Assumes nothing.
use Prim.Native.Nat.{ℕ, pred, ◌≤◌, ◌<◌}
use native.Mathlib.Decide.{dec_lt}
use native.Mathlib.Omega.{arith}
use borrow.Author.Tests.{lt-ltb, le-ltb, ltb-true, ltb-false}
use mathlib.Core.Path.{◌≡◌, refl, sym, ap, subst, ◌∙◌}
use mathlib.Core.Bool.{Bool, true, false, cond}
use mathlib.Core.List.{List, []}
use lib.Dec.{ltb}
use lib.ListN.{length, take}
use lib.Seq.{length-take-le}
use Rattle.terms.specs.Answer.{number_of, count_of, by_answer, in_order, Answer, Accepted, Refused, number_of_fault, answered}
use Rattle.rules.specs.Rule.{rule_answer}
use Rattle.reports.specs.Report.{report_answer}
use Rattle.entry.specs.declared.entry.Entry.{Entry}
use Rattle.terms.specs.Limits.{entries_most, elements_most, rule_most, report_most}
use Rattle.grammar.specs.Rules.{RuleEntries}
use Rattle.grammar.proofs.Table.{table-taken}
use Rattle.grammar.proofs.WhenRule.{rule-answer-sound}
use Rattle.grammar.proofs.WhenReport.{report-answer-sound}
use Rattle.terms.proofs.AnswerLaws.{Sound, order-sound, Within}
use Rattle.grammar.proofs.Entries.{entries-count, entries-few, rule-entries}
use Rattle.meaning.specs.Marks.{words, selected}
use Rattle.meaning.proofs.Words.{words-length}
use Rattle.layout.specs.Layout.{least_of, room_in, LaidOut}
use Rattle.layout.proofs.LayoutLaws.{least-within, within-least, laid-room, ElementsLaid, elements_laid}
use Rattle.marking.specs.Evaluation.{short_of_room, evaluation_of, told, meant_words, outcome, evaluation, words_written, Evaluated, room_for, ColumnsAfter, ReportMarked, MarkedBy}
use Rattle.marking.specs.Pass.{Columns, Marked}
use Rattle.marking.specs.declared.report.Evaluation.{Evaluation}
use Rattle.marking.specs.declared.report.Counted.{Counted}
use Rattle.marking.specs.declared.report.Marking.{Marking}
use Rattle.std.specs.Prelude.{Result, Ok, Err}
use Rattle.terms.specs.declared.refusal.Refusal.{Refusal}
use Rattle.terms.specs.declared.refusal.Fault.TheVariants.{BufferShort}
use Rattle.rules.specs.Entries.{EntriesTaken, entries_of}
use Rattle.reports.specs.Elements.{labels_of, levels_of}
use Rattle.numbers.specs.Lists.{over}
use Rattle.rules.proofs.EntryLaws.{rule-small, entries-taken-all}
use Rattle.numbers.proofs.Lists.{over-kept, over-length}
use Rattle.reports.proofs.ElementLaws.{report-small}
use Rattle.grammar.proofs.Elements.{levels-elements, elements-few}
use Rattle.numbers.proofs.BitLaws.{have_bit-few}

-- The selected count is no more than there are words, so it fits where the elements' does.
pub marked-few : {es : List Entry} {ds labels marks after : List ℕ} {r : ℕ} (n : ℕ) (levels : List ℕ) → ds ≡ take n levels → n ≤ length levels
    → Marked es ds labels marks r after → r ≤ n
marked-few {es} {ds} {labels} n levels e h m =
    omega (arith, m.selected_is, have_bit-few (pred (length es)) (words es ds labels), words-length es ds labels, ap length e, length-take-le n levels h)

-- ---- once the rule has been read

-- What the code tests, by the lengths of the columns in which the report is laid out, is whether there is room.
module _ {report labels levels ups lefts : List ℕ} (marks : List ℕ) {r : Answer} {ls ds us fs : List ℕ}
    (laid : LaidOut report labels levels ups lefts r ls ds us fs) (n : ℕ) (lacks : Bool) (is : lacks ≡ ltb (least_of (room_in ls ds us fs) (length marks)) n) where
  lacks-is : lacks ≡ ltb (room_for labels levels ups lefts marks) n
  unfolding room_for
  lacks-is = is ∙ ap (λ (k : ℕ). ltb (least_of k (length marks)) n) (laid-room laid)

  pub room-short : lacks ≡ true → room_for labels levels ups lefts marks < n
  room-short h = ltb-true _ n (sym lacks-is ∙ h)

  pub room-enough : lacks ≡ false → n ≤ room_for labels levels ups lefts marks
  room-enough h = ltb-false _ n (sym lacks-is ∙ h)

-- All columns have room for what there is room for, and so has the buffer.
pub room-for-within : (labels levels ups lefts marks : List ℕ) (n : ℕ) → n ≤ room_for labels levels ups lefts marks
    → (n ≤ room_in labels levels ups lefts) × (n ≤ length marks)
unfolding room_for
room-for-within labels levels ups lefts marks n h = least-within n (room_in labels levels ups lefts) (length marks) h

-- What the columns hold of an accepted report where there is room.
pub held : {report labels levels ups lefts : List ℕ} (marks : List ℕ) {r : Answer} {n : ℕ} {ls ds us fs : List ℕ}
    → LaidOut report labels levels ups lefts r ls ds us fs → r ≡ Accepted n → n ≤ room_for labels levels ups lefts marks
    → ElementsLaid report n ls ds us fs
held {labels = labels} {levels = levels} {ups = ups} {lefts = lefts} marks {n = n} laid e h =
    elements_laid laid e (room-for-within labels levels ups lefts marks n h).0

-- They are columns of the report's levels.
pub columns-held : {report : List ℕ} {n : ℕ} {ls ds us fs : List ℕ} → ElementsLaid report n ls ds us fs
    → Columns (take n ds) (take n ls) (take n us) (take n fs)
columns-held {n = n} {ls = ls} {ds = ds} e =
    record { legal = e.legal; linked = e.linked; long = length-take-le n ls e.labels_room ∙ sym (length-take-le n ds e.levels_room) }

module _ (es : List Entry) {report labels levels ups lefts : List ℕ} (marks : List ℕ) {r : Answer} {ls ds us fs : List ℕ}
    (laid : LaidOut report labels levels ups lefts r ls ds us fs) where
  laid-answered : LaidOut report labels levels ups lefts (report_answer report) ls ds us fs
  laid-answered = subst (λ (x : Answer). LaidOut report labels levels ups lefts x ls ds us fs) laid.read.answer laid

  -- The report is refused.
  pub by-refused : (f : Refusal) → r ≡ answered (Err f) → MarkedBy es report labels levels ups lefts marks (Err f) ls ds us fs marks
  unfolding short_of_room
  by-refused f e =
      let a : answered (Err f) ≡ report_answer report = sym e ∙ laid.read.answer in
      record {
        answer = rw (← a);
        marks_are = rw (← a) (over-kept [] marks refl);
        laid_out = laid-answered;
      }

  module _ {n : ℕ} (e : r ≡ Accepted n) where
    accepts : Accepted n ≡ report_answer report
    accepts = sym e ∙ laid.read.answer

    -- The report is accepted, and there is no room for its elements.
    pub by-short : room_for labels levels ups lefts marks < n
        → MarkedBy es report labels levels ups lefts marks (Err (record { fault = BufferShort; place = 0 })) ls ds us fs marks
    unfolding short_of_room number_of_fault
    by-short h =
        record {
          answer = rw (← accepts, lt-ltb (room_for labels levels ups lefts marks) n h);
          marks_are = rw (← accepts, lt-ltb (room_for labels levels ups lefts marks) n h) (over-kept [] marks refl);
          laid_out = laid-answered;
        }

    -- The report is accepted and its elements are marked.
    pub by-room : {k : ℕ} {after : List ℕ} → n ≤ room_for labels levels ups lefts marks → Marked es (take n ds) (take n ls) marks k after
        → MarkedBy es report labels levels ups lefts marks (Ok (record { elements = n; selected = k })) ls ds us fs after
    unfolding short_of_room
    by-room {k} {after} h m =
        let o = held marks laid e h in
        let q : Marked es (levels_of report) (labels_of report) marks k after = rw (o.levels_read, o.labels_read) at m in
        record {
          answer = rw (← accepts, le-ltb (room_for labels levels ups lefts marks) n h) (ap (evaluation_of (Accepted n)) q.selected_is);
          marks_are = rw (← accepts, le-ltb (room_for labels levels ups lefts marks) n h) q.marks_are;
          laid_out = laid-answered;
        }

-- ---- the whole

module _ (rule report labels levels ups lefts marks : List ℕ) where
  -- The rule is refused.
  pub marked_refused : (f : Refusal) → answered (Err f) ≡ rule_answer rule
      → ReportMarked rule report labels levels ups lefts marks (record { answer = Err f; entries = 0 }) labels levels ups lefts marks
  unfolding outcome evaluation words_written ColumnsAfter
  marked_refused f a =
      record {
        answer_is = rw (← a);
        entries_are = ap count_of a;
        marks_are = rw (← a) (over-kept [] marks refl);
        columns_are = rw (← a) (refl, refl, refl, refl);
      }

  -- The rule is accepted.
  pub marked-accepted : {n : ℕ} {r : Result Counted Refusal} {ls ds us fs after : List ℕ} (es : List Entry) → Accepted n ≡ rule_answer rule → es ≡ entries_of rule
      → MarkedBy es report labels levels ups lefts marks r ls ds us fs after
      → ReportMarked rule report labels levels ups lefts marks (record { answer = r; entries = n }) ls ds us fs after
  unfolding outcome evaluation words_written meant_words ColumnsAfter
  marked-accepted {n} {r} {ls} {ds} {us} {fs} {after} es a e m =
      record {
        answer_is = is;
        entries_are = ap count_of a;
        marks_are = m.marks_are ∙ rw (e, ← a) refl;
        columns_are = rw (← a) m.laid_out;
      }
    where
      is : told r ≡ evaluation rule report (room_for labels levels ups lefts marks)
      is = m.answer ∙ rw (e, ← a)

-- ---- columns that have room for the report

-- Where the columns have room for the elements of an accepted report, they play no part in the answer.
outcome-room : (rule report : List ℕ) (columns room : ℕ) → ((n : ℕ) → report_answer report ≡ Accepted n → n ≤ columns)
    → outcome rule report (least_of columns room) ≡ outcome rule report room
unfolding outcome short_of_room
outcome-room rule report columns room enough = ap (in_order (rule_answer rule)) (go (report_answer report) refl)
  where
    short : (n : ℕ) → n ≤ columns → ltb (least_of columns room) n ≡ ltb room n
    short n h =
        elim (dec_lt room n) [
          | yes l ↦ lt-ltb (least_of columns room) n (omega (arith, (least-within (least_of columns room) columns room (omega arith)).1)) ∙ sym (lt-ltb room n l)
          | no l ↦ le-ltb (least_of columns room) n (within-least n columns room h (omega arith)) ∙ sym (le-ltb room n (omega arith))
        ]

    go : (b : Answer) → report_answer report ≡ b → short_of_room (least_of columns room) b ≡ short_of_room room b
    go (Refused k p) e = refl
    go (Accepted n) e = ap (λ (s : Bool). cond s (Refused 9 0) (Accepted n)) (short n (enough n e))

pub marked-evaluated : (rule report labels levels ups lefts marks : List ℕ) {r : Marking} {ls ds us fs after : List ℕ}
    → ((n : ℕ) → report_answer report ≡ Accepted n → n ≤ room_in labels levels ups lefts)
    → ReportMarked rule report labels levels ups lefts marks r ls ds us fs after → Evaluated rule report marks (told r.answer) after
unfolding evaluation words_written room_for
marked-evaluated rule report labels levels ups lefts marks enough m =
    let e = outcome-room rule report (room_in labels levels ups lefts) (length marks) enough in
    record {
      answer = m.answer_is ∙ ap (λ (a : Answer). evaluation_of a (selected (length (entries_of rule)) (meant_words rule report))) e;
      marks_are = m.marks_are ∙ ap (λ (a : Answer). over (by_answer a (meant_words rule report) []) marks) e;
    }

-- ---- number 0

-- No refusal has it.
pub room-sound : (room : ℕ) (a : Answer) → Sound a → Sound (short_of_room room a)
unfolding short_of_room
room-sound room a s = order-sound a (cond (ltb room (count_of a)) (Refused 9 0) a) s (go (ltb room (count_of a)))
  where
    go : (b : Bool) → Sound (cond b (Refused 9 0) a)
    go true z = absurd (omega arith)
    go false z = s z

pub outcome-sound : (rule report : List ℕ) (room : ℕ) → Sound (outcome rule report room)
unfolding outcome
outcome-sound rule report room =
    order-sound (rule_answer rule) (short_of_room room (report_answer report)) (rule-answer-sound rule)
    (room-sound room (report_answer report) (report-answer-sound report))

-- What is known where rule and report are taken and there is room for the elements.
pub record BothTaken (rule report : List ℕ) (room : ℕ) : Type 0 where
  pub entries : ℕ
  pub elements : ℕ
  pub rule_taken : rule_answer rule ≡ Accepted entries
  pub report_taken : report_answer report ≡ Accepted elements
  pub roomy : elements ≤ room
  pub is : outcome rule report room ≡ Accepted elements

-- Number 0 says so.
pub both-taken : (rule report : List ℕ) (room : ℕ) → (evaluation rule report room).number ≡ 0 → BothTaken rule report room
unfolding evaluation outcome short_of_room
both-taken rule report room z = go (rule_answer rule) (report_answer report) (ltb room (count_of (report_answer report))) refl refl refl z
  where
    go : (a b : Answer) (short : Bool) → rule_answer rule ≡ a → report_answer report ≡ b → ltb room (count_of (report_answer report)) ≡ short
        → number_of (in_order a (in_order b (cond short (Refused 9 0) b))) ≡ 0 → BothTaken rule report room
    go (Refused k p) b short f g h q = absurd (subst Sound f (rule-answer-sound rule) q)
    go (Accepted m) (Refused k p) short f g h q = absurd (subst Sound g (report-answer-sound report) q)
    go (Accepted m) (Accepted n) true f g h q = absurd (omega arith)
    go (Accepted m) (Accepted n) false f g h q =
        record {
          entries = m;
          elements = n;
          rule_taken = f;
          report_taken = g;
          roomy = omega (arith, ltb-false room (count_of (report_answer report)) h, ap count_of g);
          is = rw (f, g, rw g at h);
        }

-- ---- the sizes of what is answered

outcome-small : (rule report : List ℕ) (room : ℕ) → Within report_most elements_most (outcome rule report room)
unfolding outcome short_of_room
outcome-small rule report room = go (rule_answer rule) (report_answer report) (ltb room (count_of (report_answer report))) (rule-small rule) (report-small report)
  where
    go : (a b : Answer) (short : Bool) → Within rule_most entries_most a → Within report_most elements_most b
        → Within report_most elements_most (in_order a (in_order b (cond short (Refused 9 0) b)))
    go (Refused k p) b short f g = record { place_in = omega (arith, f.place_in); count_within = omega arith }
    go (Accepted m) (Refused k p) short f g = g
    go (Accepted m) (Accepted n) true f g = record { place_in = omega arith; count_within = omega arith }
    go (Accepted m) (Accepted n) false f g = g

-- Every number that is answered fits one of C.
pub record Small (e : Evaluation) : Type 0 where
  pub place_in : e.place ≤ report_most
  pub elements_in : e.elements ≤ elements_most
  pub selected_in : e.selected ≤ elements_most

pub evaluated-small : {rule report marks after : List ℕ} {e : Evaluation} → Evaluated rule report marks e after → Small e
unfolding evaluation meant_words
evaluated-small {rule} {report} {marks} {after} {e} m =
    let w = outcome-small rule report (length marks) in
    record {
      place_in = rw m.answer w.place_in;
      elements_in = rw m.answer w.count_within;
      selected_in = rw m.answer (few (outcome rule report (length marks)));
    }
  where
    few : (a : Answer) → by_answer a (selected (length (entries_of rule)) (words (entries_of rule) (levels_of report) (labels_of report))) 0 ≤ elements_most
    few (Refused k p) = omega arith
    few (Accepted n) =
        omega (arith, have_bit-few (pred (length (entries_of rule))) (words (entries_of rule) (levels_of report) (labels_of report)), words-length (entries_of rule) (levels_of report) (labels_of report), levels-elements report, elements-few report)

-- ---- what the filled tables are

-- The table of an accepted rule: its n entries.
pub record EntriesRead (rule : List ℕ) (n : ℕ) (table : List Entry) : Type 0 where
  pub is : Accepted n ≡ rule_answer rule
  pub within : n ≤ length table
  pub table_read : take n table ≡ entries_of rule
  pub table_rule : RuleEntries (take n table)

pub entries-read : (rule : List ℕ) (table : List Entry) {r : Answer} {n : ℕ} {last : List Entry} → length table ≡ entries_most → EntriesTaken rule table r last
    → r ≡ Accepted n → EntriesRead rule n last
entries-read rule table {r} {n} {last} room f e =
    let is : Accepted n ≡ rule_answer rule = sym e ∙ f.answer in
    let held : last ≡ over (entries_of rule) table = rw (entries-taken-all rule n is) at f.table_is in
    let count : length (entries_of rule) ≡ n = entries-count rule ∙ ap count_of (sym is) in
    let same : length last ≡ length table = ap length held ∙ over-length (entries_of rule) table in
    let long : n ≤ length last = omega (arith, entries-few rule, entries-count rule) in
    let read : take n last ≡ entries_of rule = rw (held, ← count) (table-taken (entries_of rule) table (omega (arith, entries-few rule, entries-count rule))) in
    record {
      is = is;
      within = long;
      table_read = read;
      table_rule = subst RuleEntries (sym read) (rule-entries rule n (sym is));
    }
