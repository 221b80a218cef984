-- `along_pass`: the direction of the axis decides on the pass. Assumes nothing.
use mathlib.Core.Path.{sym, ◌∙◌}
use Rattle.meaning.specs.Tree.{direction}
use Rattle.marking.specs.Steps.{along_mark, ahead_mark, Nearest}
use Rattle.marking.proofs.passes.along_pass.Goals as goal

pub turn_pass-requires : goal.turn_pass-requires
unfolding Nearest
turn_pass-requires c = record { room = c.requires; nearest = tt }

pub returns-then-leads_back : goal.returns-then-leads_back
unfolding direction
returns-then-leads_back c = rw (sym c.leads_back.ensures ∙ c.if-leads_back.true) c.back_pass.ensures

pub returns-then-until : goal.returns-then-until
unfolding direction along_mark ahead_mark
returns-then-until c = rw (sym c.leads_back.ensures ∙ c.if-leads_back.false, c.if-until.true) c.turn_pass.ensures

pub returns-else-until : goal.returns-else-until
unfolding direction along_mark
returns-else-until c = rw (sym c.leads_back.ensures ∙ c.if-leads_back.false, c.if-until.false) c.gather_pass.ensures
