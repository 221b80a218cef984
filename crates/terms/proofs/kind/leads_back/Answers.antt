-- `leads_back`: one arm for each axis. Assumes nothing.
use Rattle.terms.specs.Kinds.{leads_back}
use Rattle.terms.proofs.kind.leads_back.Goals as goal

pub returns-in-Child : goal.returns-in-Child
unfolding leads_back
returns-in-Child c = rw c.in-Child.is

pub returns-in-Parent : goal.returns-in-Parent
unfolding leads_back
returns-in-Parent c = rw c.in-Parent.is

pub returns-in-Next : goal.returns-in-Next
unfolding leads_back
returns-in-Next c = rw c.in-Next.is

pub returns-in-Previous : goal.returns-in-Previous
unfolding leads_back
returns-in-Previous c = rw c.in-Previous.is
