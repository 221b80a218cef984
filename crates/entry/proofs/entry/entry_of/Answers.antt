-- `entry_of` reads as many numbers as the row has. Assumes nothing.
use Rattle.entry.specs.Entry.{entry_of}
use Rattle.entry.proofs.entry.entry_of.Goals as goal

pub returns : goal.returns
unfolding entry_of
returns c = cc
