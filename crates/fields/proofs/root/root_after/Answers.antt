-- `root_after` asks whether nothing is open. Assumes nothing.
use borrow.Author.Tests.{eq-eqb, ne_eqb}
use Rattle.fields.specs.Fields.{root_after}
use Rattle.fields.proofs.root.root_after.Goals as goal

pub returns-then-d-eq0 : goal.returns-then-d-eq0
unfolding root_after
returns-then-d-eq0 c = rw (eq-eqb _ _ c.if-d-eq0.true)

pub returns-else-d-eq0 : goal.returns-else-d-eq0
unfolding root_after
returns-else-d-eq0 c = rw (ne_eqb _ _ c.if-d-eq0.false)
