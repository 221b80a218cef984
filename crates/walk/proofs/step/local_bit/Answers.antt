-- `local_bit`: one arm for each. Assumes nothing.
use Rattle.meaning.specs.Marks.{means_here}
use Rattle.walk.proofs.step.local_bit.Goals as goal

pub returns-in-Always : goal.returns-in-Always
unfolding means_here
returns-in-Always c = rw c.in-Always.is

pub returns-in-HasLabel : goal.returns-in-HasLabel
unfolding means_here
returns-in-HasLabel c = rw c.in-HasLabel.is

pub returns-in-Negation : goal.returns-in-Negation
unfolding means_here
returns-in-Negation c = rw c.in-Negation.is

pub returns-in-Disjunction : goal.returns-in-Disjunction
unfolding means_here
returns-in-Disjunction c = rw c.in-Disjunction.is

pub returns-in-Conjunction : goal.returns-in-Conjunction
unfolding means_here
returns-in-Conjunction c = rw c.in-Conjunction.is
