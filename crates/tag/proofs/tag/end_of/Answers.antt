-- Assumes nothing.
use borrow.Author.Tests.{eq-eqb, ne_eqb}
use Rattle.terms.specs.Answer.{number_of_fault}
use Rattle.tag.specs.Tags.{end_of}
use Rattle.tag.proofs.tag.end_of.Goals as goal

pub returns-then-depth-eq0 : goal.returns-then-depth-eq0
unfolding end_of
returns-then-depth-eq0 c = simp (eq-eqb _ _ c.if-depth-eq0.true)

pub returns-else-depth-eq0 : goal.returns-else-depth-eq0
unfolding end_of number_of_fault
returns-else-depth-eq0 c = simp (ne_eqb _ _ c.if-depth-eq0.false, c.at.ensures)
