-- `take_opening`: another length, past the end, or the tag decides. Assumes nothing.
use native.Mathlib.Omega.{arith}
use mathlib.Core.Path.{sym, ◌∙◌}
use Rattle.terms.specs.Answer.{number_of_fault}
use Rattle.tag.proofs.RecordLaws.{length-opens, opening-there, record-wrong, record-past, record-opens}
use Rattle.tag.proofs.tag.take_opening.Goals as goal

pub returns-then-other_length : goal.returns-then-other_length
unfolding number_of_fault
returns-then-other_length c =
    rw c.into.ensures
    (record-wrong _ _ _ _ 4 (length-opens _ _ c.requires.of_kind) c.requires.at_in_bounds (λ z. omega arith) (λ e. c.if-other_length.true (c.number_at-other_length.ensures ∙ e)))

pub returns-then-s-at-lt6 : goal.returns-then-s-at-lt6
unfolding number_of_fault
returns-then-s-at-lt6 c =
    rw c.into-then-s-at-lt6.ensures
    (record-past _ _ _ _ 4 (length-opens _ _ c.requires.of_kind) c.requires.at_in_bounds (λ z. omega arith) (sym c.number_at-other_length.ensures ∙ c.if-other_length.false) (omega arith))

pub returns-in-Err : goal.returns-in-Err
returns-in-Err c =
    let (e, l) = record-opens _ _ _ _ c.requires.of_kind c.requires.at_in_bounds (sym c.number_at-other_length.ensures ∙ c.if-other_length.false) (omega arith) _ c.number_at-label.ensures in
    (c.in-Err.ensures ∙ e, l)

pub returns : goal.returns
returns c = (
  sym (c.in_default.ensures ∙ (record-opens _ _ _ _ c.requires.of_kind c.requires.at_in_bounds (sym c.number_at-other_length.ensures ∙ c.if-other_length.false) (omega arith) _ c.number_at-label.ensures).0),
  sym (opening-there _ _ c.requires.of_kind _ c.number_at-label.ensures),
)
