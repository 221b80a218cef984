-- `column`: one arm for each axis. Assumes nothing.
use Rattle.steps.specs.Steps.{column_of}
use Rattle.steps.proofs.column.column.Goals as goal

pub returns-in-Child : goal.returns-in-Child
unfolding column_of
returns-in-Child c = rw c.in-Child.is

pub returns-in-Parent : goal.returns-in-Parent
unfolding column_of
returns-in-Parent c = rw c.in-Parent.is

pub returns-in-Next : goal.returns-in-Next
unfolding column_of
returns-in-Next c = rw c.in-Next.is

pub returns-in-Previous : goal.returns-in-Previous
unfolding column_of
returns-in-Previous c = rw c.in-Previous.is
