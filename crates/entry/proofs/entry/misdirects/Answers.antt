-- `misdirects` tests what the row says the numbers are. Assumes nothing.
use mathlib.Core.Path.{refl}
use Rattle.entry.specs.Entry.{misdirected}
use Rattle.entry.proofs.entry.misdirects.Goals as goal

pub returns-in-Nothing : goal.returns-in-Nothing
unfolding misdirected
returns-in-Nothing c = rw c.in-Nothing.is refl

pub returns-in-Label : goal.returns-in-Label
unfolding misdirected
returns-in-Label c = rw c.in-Label.is refl

pub returns-in-Entries : goal.returns-in-Entries
unfolding misdirected
returns-in-Entries c = rw c.in-Entries.is refl
