-- `count` refuses a full tally, then one out of balance, and else adds to the right counts. Assumes nothing.
use mathlib.Core.Path.{sym, ◌∙◌}
use Rattle.tally.specs.Tally.{risen}
use Rattle.tally.proofs.Laws.{counted-full, counted-unbalanced, counted-taken}
use Rattle.tally.proofs.export.count.Goals as goal

pub returns-then-full : goal.returns-then-full
returns-then-full c = sym (counted-full _ _ c.if-full.true)

pub returns-then-out_of_balance : goal.returns-then-out_of_balance
returns-then-out_of_balance c = sym (counted-unbalanced _ _ c.if-full.false (λ b. c.if-out_of_balance.true (b ∙ sym c.sum_of.ensures)))

pub returns-then-selects : goal.returns-then-selects
unfolding risen
returns-then-selects c = rw (counted-taken c.args.t c.args.verdict c.if-full.false (c.if-out_of_balance.false ∙ c.sum_of.ensures), c.if-selects.true)

pub returns-else-selects : goal.returns-else-selects
unfolding risen
returns-else-selects c = rw (counted-taken c.args.t c.args.verdict c.if-full.false (c.if-out_of_balance.false ∙ c.sum_of.ensures), c.if-selects.false)
