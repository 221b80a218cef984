use Rattle.std.proofs.Common.{arith}
use Rattle.std.proofs.lemmas.Grind.{common_steps}
use Rattle.text.specs.Text.{ascii}
use Rattle.words.proofs.begins.or_at.Goals as goal

pub returns-then-after : goal.returns-then-after
unfolding ascii
returns-then-after c = grind (arith, common_steps)

pub returns-else-after : goal.returns-else-after
unfolding ascii
returns-else-after c = grind (arith, common_steps)
