-- `whole` goes through the specification's tests in their order. Assumes nothing.
use native.Mathlib.Omega.{arith}
use mathlib.Core.Path.{sym, ◌∙◌}
use Rattle.terms.specs.Answer.{number_of_fault}
use Rattle.terms.proofs.FrameLaws.{frame-unknown, frame-wrong, frame_past, frame-whole}
use Rattle.entry.proofs.frame.whole.Goals as goal

pub returns-then-unknown : goal.returns-then-unknown
unfolding number_of_fault
returns-then-unknown c = rw (frame-unknown _ _ _ c.requires c.if-unknown.true)

pub returns-then-other_length : goal.returns-then-other_length
unfolding number_of_fault
returns-then-other_length c =
    rw (frame-wrong _ _ _ c.requires c.if-unknown.false (λ e. c.if-other_length.true (c.number_at-length.ensures ∙ e)))

pub returns-then-cut : goal.returns-then-cut
unfolding number_of_fault
returns-then-cut c =
    rw (frame_past _ _ _ c.requires c.if-unknown.false (sym c.number_at-length.ensures ∙ c.if-other_length.false) (omega arith))

pub returns-else-cut : goal.returns-else-cut
returns-else-cut c =
    rw (frame-whole _ _ _ c.requires c.if-unknown.false (sym c.number_at-length.ensures ∙ c.if-other_length.false) (omega arith))
