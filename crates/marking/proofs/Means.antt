-- What `Evaluated` amounts to, the promise of `pz_evaluate`, for a caller: where the answer's number is 0, bit i of word s says whether entry i
-- holds at element s, over the whole tree; the selected count is the number of elements at which the last entry holds; and the words
-- past the last element are as they were.
-- Assumes nothing.
use Prim.Native.Nat.{ℕ, ◌≤◌, ◌<◌}
use native.Mathlib.Omega.{arith}
use mathlib.Core.Path.{◌≡◌, sym, ap, ◌∙◌}
use mathlib.Core.Bool.{true}
use mathlib.Core.Logic.{◌↔◌}
use mathlib.Core.List.{List, []}
use lib.ListN.{length, get_or}
use Rattle.terms.specs.Answer.{count_of, by_answer, Answer}
use Rattle.grammar.proofs.Elements.{levels-elements}
use Rattle.meaning.specs.Meaning.{Holds}
use Rattle.meaning.specs.Marks.{word_of, words, selected, verdict}
use Rattle.meaning.proofs.Words.{words-length, words-at, count_below, selected-words}
use Rattle.meaning.proofs.Reflect.{word-iff}
use Rattle.marking.specs.Evaluation.{meant_words, evaluation, words_written, Evaluated}
use Rattle.marking.specs.declared.report.Evaluation.{Evaluation}
use Rattle.rules.specs.Entries.{entries_of}
use Rattle.reports.specs.Elements.{labels_of, levels_of}
use Rattle.numbers.specs.Lists.{over}
use Rattle.numbers.proofs.Lists.{over-at, over-past}
use Rattle.numbers.specs.Bits.{bit_at}
use Rattle.marking.proofs.AnswerLaws.{BothTaken, both-taken}

module _ (rule report marks : List ℕ) (r : Evaluation) (after : List ℕ) (e : Evaluated rule report marks r after) (zero : r.number ≡ 0) where
  -- Accepted: the counts are those of the meaning, and the buffer has room.
  pub record SelectedCounted : Type 0 where
    pub room : length (levels_of report) ≤ length marks
    pub elements_are : r.elements ≡ length (levels_of report)
    pub selected-are : r.selected ≡ selected (length (entries_of rule)) (meant_words rule report)

  taken : BothTaken rule report (length marks)
  taken = both-taken rule report (length marks) (ap (λ (x : Evaluation). x.number) (sym e.answer) ∙ zero)

  count : length (levels_of report) ≡ taken.elements
  count = levels-elements report ∙ ap count_of taken.report_taken

  pub counted : SelectedCounted
  unfolding evaluation
  counted =
      record {
        room = omega (arith, count, taken.roomy);
        elements_are = ap (λ (x : Evaluation). x.elements) e.answer ∙ ap count_of taken.is ∙ sym count;
        selected-are = ap (λ (x : Evaluation). x.selected) e.answer
            ∙ ap (λ (a : Answer). by_answer a (selected (length (entries_of rule)) (meant_words rule report)) 0) taken.is;
      }

  filled : after ≡ over (words (entries_of rule) (levels_of report) (labels_of report)) marks
  unfolding words_written meant_words
  filled = e.marks_are ∙ ap (λ (a : Answer). over (by_answer a (meant_words rule report) []) marks) taken.is

  -- Word s is the meaning's word of element s.
  pub word_is : (s : ℕ) → s < length (levels_of report) → get_or after s 0 ≡ word_of (entries_of rule) (levels_of report) (labels_of report) s
  word_is s h =
      ap (λ (ws : List ℕ). get_or ws s 0) filled
      ∙ over-at _ marks (omega (arith, words-length (entries_of rule) (levels_of report) (labels_of report), counted.room)) s
      (omega (arith, words-length (entries_of rule) (levels_of report) (labels_of report)))
      ∙ words-at (entries_of rule) (levels_of report) (labels_of report) s h

  -- Bit i of it is set exactly where entry i holds.
  pub bit-iff : (s i : ℕ) → s < length (levels_of report) → i < length (entries_of rule)
      → (bit_at (get_or after s 0) i ≡ true) ↔ Holds (levels_of report) (labels_of report) (entries_of rule) i s
  bit-iff s i h l = rw (word_is s h) (word-iff (levels_of report) (labels_of report) (entries_of rule) i s l h)

  -- The selected count is the number of elements with a true verdict.
  pub selected_is : r.selected ≡ count_below (length (levels_of report)) (verdict (entries_of rule) (levels_of report) (labels_of report))
  unfolding meant_words
  selected_is = counted.selected-are ∙ selected-words (entries_of rule) (levels_of report) (labels_of report)

  -- The words past the last element are as they were.
  pub past-kept : (s : ℕ) → length (levels_of report) ≤ s → get_or after s 0 ≡ get_or marks s 0
  past-kept s h =
      ap (λ (ws : List ℕ). get_or ws s 0) filled
      ∙ over-past _ marks (omega (arith, words-length (entries_of rule) (levels_of report) (labels_of report), counted.room)) s
      (omega (arith, words-length (entries_of rule) (levels_of report) (labels_of report)))
