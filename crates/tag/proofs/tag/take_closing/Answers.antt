-- `take_closing`: another length, or the tag decides. Assumes nothing.
use native.Mathlib.Omega.{arith}
use mathlib.Core.Path.{sym, ◌∙◌}
use Rattle.terms.specs.Answer.{number_of_fault}
use Rattle.terms.proofs.FaultLaws.{handed-on}
use Rattle.tag.proofs.RecordLaws.{length-closes, closing-there, record-wrong, record-closes}
use Rattle.tag.proofs.tag.take_closing.Goals as goal

pub returns-then-other_length : goal.returns-then-other_length
unfolding number_of_fault
returns-then-other_length c =
    rw c.into.ensures
    (record-wrong _ _ _ _ 2 (length-closes _ _ c.requires.of_kind) c.requires.at_in_bounds (λ z. omega arith) (λ e. c.if-other_length.true (c.number_at-other_length.ensures ∙ e)))

pub returns-in_err-close_fault : goal.returns-in_err-close_fault
returns-in_err-close_fault c =
    let (e, l) = record-closes _ _ _ _ c.requires.of_kind c.requires.at_in_bounds (sym c.number_at-other_length.ensures ∙ c.if-other_length.false) in
    rw (handed-on c.from_residual.result _ c.from_residual.ensures.1) (c.in_err-close_fault.ensures ∙ e, l)

pub returns : goal.returns
returns c = (
  sym (c.in_ok-close_fault.ensures ∙ (record-closes _ _ _ _ c.requires.of_kind c.requires.at_in_bounds (sym c.number_at-other_length.ensures ∙ c.if-other_length.false)).0),
  sym (closing-there _ _ c.requires.of_kind),
)
