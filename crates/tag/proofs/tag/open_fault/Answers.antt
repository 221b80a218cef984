-- Assumes nothing.
use Rattle.terms.specs.Answer.{number_of_fault}
use Rattle.tag.specs.Tags.{tag_fault}
use Rattle.tag.proofs.tag.open_fault.Goals as goal

pub returns-then-label : goal.returns-then-label
unfolding tag_fault number_of_fault
returns-then-label c = simp c.if-label.true

pub returns-then-root_closed : goal.returns-then-root_closed
unfolding tag_fault number_of_fault
returns-then-root_closed c = simp (c.if-label.false, c.if-root_closed.true)

pub returns-then-depth-elements : goal.returns-then-depth-elements
unfolding tag_fault number_of_fault
returns-then-depth-elements c = simp (c.if-label.false, c.if-root_closed.false, c.if-depth-elements.true)

pub returns : goal.returns
unfolding tag_fault
returns c = simp (c.if-label.false, c.if-root_closed.false, c.if-depth-elements.false)
