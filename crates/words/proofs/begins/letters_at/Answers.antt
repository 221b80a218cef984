use Rattle.std.proofs.Common.{arith}
use Rattle.std.proofs.lemmas.Grind.{common_steps}
use Rattle.text.specs.Text.{ascii}
use Rattle.words.specs.Begins.{letters_at}
use Rattle.words.proofs.begins.letters_at.Goals as goal

pub returns-in_err-fixed_at-in-116 : goal.returns-in_err-fixed_at-in-116
unfolding letters_at ascii
returns-in_err-fixed_at-in-116 c = grind (arith, common_steps)

pub returns-in_err-fixed_at-in-108 : goal.returns-in_err-fixed_at-in-108
unfolding letters_at ascii
returns-in_err-fixed_at-in-108 c = grind (arith, common_steps)

pub returns-in_err-fixed_at-in-110 : goal.returns-in_err-fixed_at-in-110
unfolding letters_at ascii
returns-in_err-fixed_at-in-110 c = grind (arith, common_steps)

pub returns-in_ok-fixed_at-in-116 : goal.returns-in_ok-fixed_at-in-116
unfolding letters_at ascii
returns-in_ok-fixed_at-in-116 c = grind (arith, common_steps)

pub returns-in_ok-fixed_at-in-108 : goal.returns-in_ok-fixed_at-in-108
unfolding letters_at ascii
returns-in_ok-fixed_at-in-108 c = grind (arith, common_steps)

pub returns-in_ok-fixed_at-in-110 : goal.returns-in_ok-fixed_at-in-110
unfolding letters_at ascii
returns-in_ok-fixed_at-in-110 c = grind (arith, common_steps)

pub returns-in_default : goal.returns-in_default
unfolding letters_at ascii
returns-in_default c = grind (arith, common_steps)
