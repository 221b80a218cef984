-- `take_tag` goes by the kind. Assumes nothing.
use native.Mathlib.Omega.{arith}
use mathlib.Core.Path.{refl, ◌∙◌}
use Rattle.terms.specs.Answer.{number_of_fault}
use Rattle.tag.proofs.RecordLaws.{record-few, record-unknown, length_none}
use Rattle.tag.proofs.tag.take_tag.Goals as goal

pub returns-then-s-at : goal.returns-then-s-at
unfolding number_of_fault
returns-then-s-at c = rw c.into.ensures (record-few _ _ _ _ (omega (arith, c.if-s-at.true)))

pub returns-then-s-at-lt4 : goal.returns-then-s-at-lt4
unfolding number_of_fault
returns-then-s-at-lt4 c = rw c.into-then-s-at-lt4.ensures (record-few _ _ _ _ (omega (arith, c.if-s-at-lt4.true)))

pub returns-in_default : goal.returns-in_default
unfolding number_of_fault
returns-in_default c =
    let r = c.in_default.in_default-own.rest in
    let n = c.number_at-kind.ensures in
    rw c.into-in_default.ensures
    (record-unknown _ _ _ _ 0 (length_none _ _ (λ e. r.0.1 (n ∙ e)) (λ e. r.1 (n ∙ e))) (omega arith) refl)
