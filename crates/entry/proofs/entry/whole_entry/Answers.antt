-- `whole_entry` tests the entry by what its row says of its numbers. Assumes nothing.
use mathlib.Core.Path.{refl, sym, ◌∙◌}
use Rattle.terms.specs.Answer.{number_of_fault}
use Rattle.entry.proofs.entry.whole_entry.Goals as goal

pub returns-then-misdirects : goal.returns-then-misdirects
unfolding number_of_fault
returns-then-misdirects c = (sym c.misdirects.ensures ∙ c.if-misdirects.true, refl)
