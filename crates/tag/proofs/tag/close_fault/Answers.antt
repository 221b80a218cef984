-- Assumes nothing.
use borrow.Author.Tests.{eq-eqb, ne_eqb}
use Rattle.terms.specs.Answer.{number_of_fault}
use Rattle.tag.specs.Tags.{tag_fault}
use Rattle.tag.proofs.tag.close_fault.Goals as goal

pub returns-then-nothing_open : goal.returns-then-nothing_open
unfolding tag_fault number_of_fault
returns-then-nothing_open c = simp (eq-eqb _ _ c.if-nothing_open.true)

pub returns-else-nothing_open : goal.returns-else-nothing_open
unfolding tag_fault
returns-else-nothing_open c = simp (ne_eqb _ _ c.if-nothing_open.false)
