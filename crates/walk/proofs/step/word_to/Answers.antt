-- `word_to`: one arm for each. Assumes nothing.
use Rattle.meaning.specs.OnePass.{word_to}
use Rattle.walk.proofs.step.word_to.Goals as goal

pub returns-in-Parent : goal.returns-in-Parent
unfolding word_to
returns-in-Parent c = rw c.in-Parent.is

pub returns-in-Previous : goal.returns-in-Previous
unfolding word_to
returns-in-Previous c = rw c.in-Previous.is

pub returns-in-Child : goal.returns-in-Child
unfolding word_to
returns-in-Child c = rw c.in-Child.is

pub returns-in-Next : goal.returns-in-Next
unfolding word_to
returns-in-Next c = rw c.in-Next.is
