-- The text from the tables is the text of the meaning; and what an accepted evaluation says. Assumes nothing.
use Prim.Native.Nat.{ℕ, zero, suc, pred, ◌-◌, ◌≤◌, ◌<◌}
use native.Mathlib.Omega.{arith}
use borrow.Author.Tests.{le-ltb}
use mathlib.Core.Path.{◌≡◌, refl, sym, ap, subst, ◌∙◌}
use mathlib.Core.Bool.{Bool}
use mathlib.Core.Logic.{◌↔◌}
use mathlib.Core.List.{List, [], ◌∷◌, ◌++◌, flatten}
use lib.ListN.{length, get_or, replicate, length-replicate}
use lib.Seq.{length-sets}
use Rattle.terms.specs.Answer.{number_of, count_of, in_order, Accepts, Answer, Accepted, Refused, answered, number_of_fault}
use Rattle.terms.proofs.AnswerLaws.{Sound, order-sound, refused-not}
use Rattle.reports.specs.Report.{report_answer}
use Rattle.grammar.proofs.Entries.{entries-count, entries-some}
use Rattle.grammar.proofs.Elements.{elements-count, levels-elements, elements-few, label-range, levels-legal}
use Rattle.meaning.specs.Marks.{word_of, words, verdict, selected}
use Rattle.meaning.proofs.Words.{words-length}
use Rattle.layout.specs.Layout.{LaidOut}
use Rattle.layout.proofs.LayoutLaws.{room-for-any}
use Rattle.marking.specs.Evaluation.{outcome, evaluation, meant_words, told, Evaluated, ColumnsAfter, ReportMarked}
use Rattle.marking.specs.declared.report.Evaluation.{Evaluation}
use Rattle.marking.specs.declared.report.Counted.{Counted}
use Rattle.marking.specs.declared.report.Marking.{Marking}
use Rattle.std.specs.Prelude.{Result, Ok, Err}
use Rattle.std.specs.Result.{IsErrAnd}
use Rattle.terms.specs.declared.refusal.Refusal.{Refusal}
use Rattle.marking.proofs.AnswerLaws.{marked-evaluated, evaluated-small, outcome-sound, both-taken}
use Rattle.marking.proofs.Means.{counted, word_is}
use Rattle.text.specs.Text.{line_of, element_lines, accepted_lines, accepted_text, header_line, closing_line, refused_line}
use Rattle.text.specs.Rendered.{buffer_size, verdict_in, clamped, table_text, Rendered}
use Rattle.text.proofs.Room.{text-short}
use Rattle.judge.specs.Output.{room, printed, accepted_printout, text_answer, TakenPut, printout_of_both}
use Rattle.terms.proofs.FaultLaws.{answered-only, handed-on as error-handed-on}
use Rattle.terms.specs.Limits.{elements_most, report_most}
use Rattle.rules.specs.Entries.{entries_of}
use Rattle.reports.specs.Elements.{labels_of, levels_of}
use Rattle.numbers.specs.Lists.{listed, over, put_at}
use Rattle.numbers.proofs.Lists.{over_none, over-at}
use Rattle.reports.proofs.ElementLaws.{taken-lists}
use Rattle.numbers.proofs.BitLaws.{have_bit-few, pred-sub}

-- ---- lines that agree

module _ (labels levels labels' levels' : List ℕ) (v v' : ℕ → Bool) where
  -- Tables that agree on the first n elements have the same lines for these.
  pub lines_same : (n : ℕ) → ((k : ℕ) → k < n → line_of labels levels v k ≡ line_of labels' levels' v' k)
      → element_lines labels levels v n ≡ element_lines labels' levels' v' n
  unfolding element_lines listed
  lines_same zero same = refl
  lines_same (suc n) same =
      ap (λ (ls : List (List ℕ)). ls ++ (line_of labels levels v n ∷ [])) (lines_same n (λ k h. same k (omega arith)))
      ∙ ap (λ (l : List ℕ). element_lines labels' levels' v' n ++ (l ∷ [])) (same n (omega arith))

  -- And the same text.
  pub text_same : (n chosen : ℕ) → ((k : ℕ) → k < n → line_of labels levels v k ≡ line_of labels' levels' v' k)
      → accepted_text labels levels v n chosen ≡ accepted_text labels' levels' v' n chosen
  unfolding accepted_text accepted_lines
  text_same n chosen same =
      ap (λ (ls : List (List ℕ)). flatten (header_line ∷ (ls ++ (closing_line chosen n ∷ [])))) (lines_same n same)

-- What is known once the marking has accepted: the words, the labels and the levels in the tables, and the counts, are the meaning's.
pub record AcceptedWith (rule report marks labels levels : List ℕ) (entries elements chosen : ℕ) : Type 0 where
  pub some_entry : 1 ≤ entries
  pub entries_are : entries ≡ length (entries_of rule)
  pub marks_are : (k : ℕ) → k < length (levels_of report) → get_or marks k 0 ≡ word_of (entries_of rule) (levels_of report) (labels_of report) k
  pub labels_are : (k : ℕ) → k < length (levels_of report) → get_or labels k 0 ≡ get_or (labels_of report) k 0
  pub levels_are : (k : ℕ) → k < length (levels_of report) → get_or levels k 0 ≡ get_or (levels_of report) k 0
  pub elements_are : elements ≡ length (levels_of report)
  pub chosen_are : chosen ≡ selected (length (entries_of rule)) (meant_words rule report)

few : (report : List ℕ) → length (levels_of report) ≤ elements_most
few report = rw (levels-elements report) (elements-few report)

-- A column that holds the values xs in its first places.
held_at : (xs lent : List ℕ) {last : List ℕ} (k : ℕ) → last ≡ over xs lent → length xs ≤ length lent → k < length xs → get_or last k 0 ≡ get_or xs k 0
held_at xs lent k e r h = ap (λ (ys : List ℕ). get_or ys k 0) e ∙ over-at xs lent r k h

module _ (rule report labels levels ups lefts marks : List ℕ) {r : Marking} {ls ds us fs after : List ℕ}
    (a : length labels ≡ elements_most) (b : length levels ≡ elements_most) (c : length ups ≡ elements_most) (d : length lefts ≡ elements_most)
    (m : ReportMarked rule report labels levels ups lefts marks r ls ds us fs after) where
  -- Columns for 4,096 elements have room for every report.
  pub marked-told : (a : Result Counted Refusal) → r.answer ≡ a → Evaluated rule report marks (told a) after
  marked-told x is = subst (λ (y : Result Counted Refusal). Evaluated rule report marks (told y) after) is (marked-evaluated rule report labels levels ups lefts marks (room-for-any report elements_most labels levels ups lefts a b c d (omega arith)) m)

  -- What the marking has left where it accepts.
  pub accepted-with : (k : Counted) → r.answer ≡ Ok k → AcceptedWith rule report after ls ds r.entries k.elements k.selected
  unfolding ColumnsAfter
  accepted-with k is =
      let e = marked-told (Ok k) is in
      let both = both-taken rule report (length marks) (ap (λ (x : Evaluation). x.number) (sym e.answer)) in
      let n = counted rule report marks (told (Ok k)) after e refl in
      let laid : LaidOut report labels levels ups lefts (report_answer report) ls ds us fs = rw both.rule_taken at m.columns_are in
      let lists = taken-lists report (subst Accepts (sym both.report_taken) tt) in
      let kl : ls ≡ over (labels_of report) labels = laid.read.labels_are ∙ ap (λ (xs : List ℕ). over xs labels) lists.0 in
      let kd : ds ≡ over (levels_of report) levels = laid.read.levels_are ∙ ap (λ (xs : List ℕ). over xs levels) lists.1 in
      let same : length (labels_of report) ≡ length (levels_of report) = elements-count report ∙ sym (levels-elements report) in
      record {
        some_entry = rw (m.entries_are ∙ ap count_of both.rule_taken) (entries-some rule both.entries both.rule_taken);
        entries_are = m.entries_are ∙ sym (entries-count rule);
        marks_are = word_is rule report marks (told (Ok k)) after e refl;
        labels_are = λ k h. held_at (labels_of report) labels k kl (omega (arith, few report)) (omega arith);
        levels_are = λ k h. held_at (levels_of report) levels k kd (omega (arith, few report)) h;
        elements_are = n.elements_are;
        chosen_are = n.selected-are;
      }

-- ---- the text of the tables is the printout

clamped-few : (n : ℕ) → n ≤ elements_most → clamped n ≡ n
unfolding clamped
clamped-few n h = rw (le-ltb elements_most n h)

module _ (rule report marks labels levels : List ℕ) (entries elements chosen : ℕ)
    (a : AcceptedWith rule report marks labels levels entries elements chosen) where
  last-is : entries - 1 ≡ pred (length (entries_of rule))
  last-is = ap (λ (k : ℕ). k - 1) a.entries_are ∙ pred-sub (length (entries_of rule))

  line-is : (k : ℕ) → k < length (levels_of report)
      → line_of labels levels (verdict_in marks (entries - 1)) k
      ≡ line_of (labels_of report) (levels_of report) (verdict (entries_of rule) (levels_of report) (labels_of report)) k
  unfolding verdict
  line-is k h = rw (a.labels_are k h, a.levels_are k h, a.marks_are k h, last-is)

  table_is : table_text labels levels marks (entries - 1) elements chosen ≡ accepted_printout rule report
  unfolding accepted_printout
  table_is =
      ap (λ (n : ℕ). accepted_text labels levels (verdict_in marks (entries - 1)) n chosen) (ap clamped a.elements_are ∙ clamped-few (length (levels_of report)) (few report))
      ∙ text_same labels levels (labels_of report) (levels_of report) (verdict_in marks (entries - 1)) (verdict (entries_of rule) (levels_of report) (labels_of report)) (length (levels_of report)) chosen line-is
      ∙ ap (λ (c : ℕ). accepted_text (labels_of report) (levels_of report) (verdict (entries_of rule) (levels_of report) (labels_of report)) (length (levels_of report)) c) a.chosen_are

  pub accepted-rendered : {out after : List ℕ} {r : ℕ} → Rendered (table_text labels levels marks (entries - 1) elements chosen) out r after
      → Rendered (accepted_printout rule report) out r after
  accepted-rendered {out} {after} {r} h = subst (λ (t : List ℕ). Rendered t out r after) table_is h

-- ---- taken or refused

module _ (rule report : List ℕ) where
  -- The answer by what the marking answers.
  text-refused : {number place : ℕ} → outcome rule report room ≡ Refused number place → text_answer rule report ≡ Refused number place
  unfolding text_answer
  text-refused e = rw e

  pub text-taken : {n : ℕ} → outcome rule report room ≡ Accepted n → text_answer rule report ≡ Accepted (length (accepted_printout rule report))
  unfolding text_answer
  text-taken e = rw e

  -- It refuses exactly where the marking does.
  pub text-refused-iff : (number place : ℕ) → (text_answer rule report ≡ Refused number place) ↔ (outcome rule report room ≡ Refused number place)
  text-refused-iff number place = (go (outcome rule report room) refl, text-refused)
    where
      go : (a : Answer) → outcome rule report room ≡ a → text_answer rule report ≡ Refused number place → outcome rule report room ≡ Refused number place
      go (Accepted n) o e = refused-not (sym e ∙ text-taken o)
      go (Refused k p) o e = o ∙ sym (text-refused o) ∙ e

  -- No refusal has number 0.
  pub text-sound : Sound (text_answer rule report)
  unfolding text_answer
  text-sound = order-sound (outcome rule report room) _ (outcome-sound rule report room) (λ z. tt)

  module _ {marks marks₁ : List ℕ} {r : Evaluation} (e : Evaluated rule report marks r marks₁) (long : length marks ≡ room) where
    is : r ≡ evaluation rule report room
    is = e.answer ∙ ap (evaluation rule report) long

    -- The marking has refused, and nothing is put.
    pub put_refused : {told : Result ℕ Refusal} (out : List ℕ) → (r.number ≡ 0 → ⊥) → answered told ≡ Refused r.number r.place
        → TakenPut rule report out told out
    unfolding evaluation
    put_refused {told} out n t = go (outcome rule report room) refl
      where
        go : (a : Answer) → outcome rule report room ≡ a → TakenPut rule report out told out
        go (Accepted k) o = absurd (n (ap (λ (x : Evaluation). x.number) is ∙ ap number_of o))
        go (Refused number place) o =
            let same : Refused r.number r.place ≡ Refused number place = rw (is, o) in
            record {
              answer = t ∙ same ∙ sym (text-refused o);
              bytes_are = rw (text-refused o) (sym (over_none out));
            }

    -- It has accepted, and the text is put.
    pub put-taken : {out after : List ℕ} {n : ℕ} → r.number ≡ 0 → Rendered (accepted_printout rule report) out n after
        → TakenPut rule report out (Ok n) after
    put-taken z h =
        let t = text-taken (both-taken rule report room (ap (λ (x : Evaluation). x.number) (sym is) ∙ z)).is in
        record {
          answer = rw (t, h.length_is);
          bytes_are = rw t h.bytes_are;
        }

  -- An answer that takes them counts the bytes of their text.
  pub text-counted : {n : ℕ} → text_answer rule report ≡ Accepted n → n ≡ length (accepted_printout rule report)
  unfolding text_answer
  text-counted {n} e = go (outcome rule report room) refl
    where
      go : (a : Answer) → outcome rule report room ≡ a → n ≡ length (accepted_printout rule report)
      go (Accepted k) o = ap count_of (sym e ∙ text-taken o)
      go (Refused k p) o = refused-not (sym (text-refused o) ∙ e)

  -- The place of a refusal lies within a report.
  pub text-place : {k p : ℕ} → text_answer rule report ≡ Refused k p → p ≤ report_most
  unfolding evaluation
  text-place {k} {p} e =
      let marks = replicate {A = ℕ} elements_most 0 in
      let small = (evaluated-small {rule = rule} {report = report} {marks = marks} (record { answer = refl; marks_are = refl })).place_in in
      let o : outcome rule report (length marks) ≡ Refused k p = ap (outcome rule report) (length-replicate {A = ℕ} elements_most 0) ∙ (text-refused-iff k p).0 e in
      rw o at small

  -- There are 81,920 bytes at most.
  pub text-few : {n : ℕ} → text_answer rule report ≡ Accepted n → n ≤ buffer_size
  unfolding accepted_printout meant_words evaluation
  text-few {n} e = go (outcome rule report room) refl
    where
      go : (a : Answer) → outcome rule report room ≡ a → n ≤ buffer_size
      go (Refused k p) o = refused-not (sym (text-refused o) ∙ e)
      go (Accepted m) o =
          let taken = both-taken rule report room (ap number_of o) in
          let same : length (labels_of report) ≡ length (levels_of report) = elements-count report ∙ sym (levels-elements report) in
          let chosen = have_bit-few (pred (length (entries_of rule))) (words (entries_of rule) (levels_of report) (labels_of report)) in
          omega (
            arith,
            text-counted e,
            text-short (labels_of report) (levels_of report) (verdict (entries_of rule) (levels_of report) (labels_of report)) (length (levels_of report))
                (selected (length (entries_of rule)) (words (entries_of rule) (levels_of report) (labels_of report))) (few report)
                (omega (arith, chosen, words-length (entries_of rule) (levels_of report) (labels_of report)))
                (λ k h. (omega (arith, label-range report k (omega arith)), omega (arith, (levels-legal report taken.elements taken.report_taken).low k h))),
          )

  -- What is printed, by that answer.
  printed-text : printout_of_both rule report ≡ printed (text_answer rule report) (accepted_printout rule report)
  unfolding text_answer printout_of_both
  printed-text = go (outcome rule report room)
    where
      go : (a : Answer) → printed a (accepted_printout rule report) ≡ printed (in_order a (Accepted (length (accepted_printout rule report)))) (accepted_printout rule report)
      go (Accepted k) = refl
      go (Refused k p) = refl

  module _ {out mid : List ℕ} {r : Result ℕ Refusal} (p : TakenPut rule report out r mid) where
    -- They were taken, with so many bytes, or refused.
    pub judged-taken : (n : ℕ) → r ≡ Ok n → text_answer rule report ≡ Accepted n
    judged-taken n e = sym p.answer ∙ ap answered e

    pub judged-refused : (f : Refusal) → r ≡ Err f → text_answer rule report ≡ Refused (number_of_fault f.fault) f.place
    judged-refused f e = sym p.answer ∙ ap answered e

    -- What is printed: the text that was put, or the refusal in its place.
    pub printed-taken : (n : ℕ) → r ≡ Ok n → Rendered (printout_of_both rule report) out n mid
    printed-taken n e =
        let t = judged-taken n e in
        let counted = text-counted t in
        rw (printed-text, t) (record { length_is = counted; fits = omega (arith, counted, text-few t); bytes_are = p.bytes_are ∙ rw t })

    pub printed-refused : (f : Refusal) {after : List ℕ} {n : ℕ} → r ≡ Err f → Rendered (refused_line (number_of_fault f.fault) f.place) mid n after
        → Rendered (printout_of_both rule report) out n after
    printed-refused f e h =
        let t = judged-refused f e in
        let kept : mid ≡ out = p.bytes_are ∙ rw t (over_none out) in
        rw (printed-text, t) (rw kept at h)

  -- The promise leaves one answer and one content of the buffer.
  pub put-taken-only : {out after after' : List ℕ} {r r' : Result ℕ Refusal} → TakenPut rule report out r after → TakenPut rule report out r' after'
      → (r ≡ r') × (after ≡ after')
  put-taken-only p q = (answered-only _ _ (p.answer ∙ sym q.answer), p.bytes_are ∙ sym q.bytes_are)

-- What is handed on by `?` is answered as it was.
pub handed-on : (r : Result ℕ Refusal) (f : Refusal) → IsErrAnd r (λ e. e ≡ f) → answered r ≡ Refused (number_of_fault f.fault) f.place
handed-on r f h = ap answered (error-handed-on r f h)

-- ---- the bytes that are written

-- What was rendered fits the buffer, and the prefix that is written out is all of it.
pub rendered-room : (text out after : List ℕ) (r : ℕ) → length out ≡ 81920 → Rendered text out r after → r ≤ length after
unfolding put_at
rendered-room text out after r long h = omega (arith, h.length_is, h.fits, ap length h.bytes_are, length-sets out 0 text)
