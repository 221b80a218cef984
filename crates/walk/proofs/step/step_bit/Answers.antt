-- `step_bit` gives each shape its bit. Assumes nothing.
use Rattle.meaning.specs.OnePass.{step_bit}
use Rattle.walk.proofs.step.step_bit.Goals as goal

pub returns-in-Here : goal.returns-in-Here
unfolding step_bit
returns-in-Here c = rw (c.local_bit.ensures, c.bit_at.ensures, c.bit_at-in-Here.ensures, c.in-Here.is)

pub returns-in-SomeAlong : goal.returns-in-SomeAlong
unfolding step_bit
returns-in-SomeAlong c = rw (c.bit_at-in-SomeAlong.ensures, c.word_to.ensures, c.in-SomeAlong.is)

pub returns-in-UntilAlong : goal.returns-in-UntilAlong
unfolding step_bit
returns-in-UntilAlong c = rw (c.bit_at-in-UntilAlong.ensures, c.bit_at-in-UntilAlong-2.ensures, c.bit_at-in-UntilAlong-3.ensures, c.word_to-in-UntilAlong.ensures, c.in-UntilAlong.is)

pub returns-in-EveryChild : goal.returns-in-EveryChild
unfolding step_bit
returns-in-EveryChild c = rw c.in-EveryChild.is

pub returns-in-Nothing : goal.returns-in-Nothing
unfolding step_bit
returns-in-Nothing c = rw c.in-Nothing.is
