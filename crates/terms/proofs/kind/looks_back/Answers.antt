-- `looks_back`: one arm for each shape. Assumes nothing.
use Rattle.terms.specs.Kinds.{shape_looks_back}
use Rattle.terms.proofs.kind.looks_back.Goals as goal

pub returns-in-Nothing : goal.returns-in-Nothing
unfolding shape_looks_back
returns-in-Nothing c = rw c.in-Nothing.is

pub returns-in-Here : goal.returns-in-Here
unfolding shape_looks_back
returns-in-Here c = rw c.in-Here.is

pub returns-in-SomeAlong : goal.returns-in-SomeAlong
unfolding shape_looks_back
returns-in-SomeAlong c = rw (c.leads_back.ensures, c.in-SomeAlong.is)

pub returns-in-UntilAlong : goal.returns-in-UntilAlong
unfolding shape_looks_back
returns-in-UntilAlong c = rw (c.leads_back-in-UntilAlong.ensures, c.in-UntilAlong.is)

pub returns-in-EveryChild : goal.returns-in-EveryChild
unfolding shape_looks_back
returns-in-EveryChild c = rw c.in-EveryChild.is
