use Rattle.std.proofs.Common.{arith}
use Rattle.std.proofs.lemmas.Grind.{common_steps}
use Rattle.words.specs.Begins.{start_at}
use Rattle.words.proofs.BeginLaws.{bracket-fits}
use Rattle.words.proofs.begins.start_at.Goals as goal

pub overflow_add-at : goal.overflow_add-at
overflow_add-at c = omega (arith, c.well_formed, bracket-fits c.args.s.now c.args.at c.byte_at-b.result c.byte_at-b.ensures)

pub returns-then-b-eq63 : goal.returns-then-b-eq63
unfolding start_at
returns-then-b-eq63 c = grind (arith, common_steps)

pub returns : goal.returns
unfolding start_at
returns c = grind (arith, common_steps)
