-- `mark_report`: the rule's refusal first, then what `mark_by_entries` says of its entries. Assumes nothing.
use mathlib.Core.Path.{refl, ap, sym, ◌∙◌}
use lib.Seq.{length-take-le}
use Rattle.terms.specs.Answer.{answered}
use Rattle.marking.proofs.AnswerLaws.{entries-read, marked_refused, marked-accepted}
use Rattle.marking.proofs.report.mark_report.Goals as goal

pub slice_bounds-table-end : goal.slice_bounds-table-end
slice_bounds-table-end c = (entries-read _ _ refl c.read_entries.ensures (ap answered c.in-Ok.is)).within

pub slice_bounds-mark_by_entries-end : goal.slice_bounds-mark_by_entries-end
slice_bounds-mark_by_entries-end c = sym (length-take-le _ _ (entries-read _ _ refl c.read_entries.ensures (ap answered c.in-Ok.is)).within)

pub mark_by_entries-answer-requires : goal.mark_by_entries-answer-requires
mark_by_entries-answer-requires c = (entries-read _ _ refl c.read_entries.ensures (ap answered c.in-Ok.is)).table_rule

pub returns-in-Ok : goal.returns-in-Ok
returns-in-Ok c =
    let e = entries-read _ _ refl c.read_entries.ensures (ap answered c.in-Ok.is) in
    marked-accepted _ _ _ _ _ _ _ _ e.is e.table_read c.mark_by_entries-answer.ensures

pub returns-in-Err : goal.returns-in-Err
returns-in-Err c = marked_refused _ _ _ _ _ _ _ _ (sym (ap answered c.in-Err.is) ∙ c.read_entries.ensures.answer)
