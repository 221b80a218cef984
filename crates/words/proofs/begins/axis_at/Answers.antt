use Rattle.std.proofs.Common.{arith}
use Rattle.std.proofs.lemmas.Grind.{common_steps}
use Rattle.text.specs.Text.{ascii}
use Rattle.words.specs.Begins.{axis_at}
use Rattle.words.proofs.begins.axis_at.Goals as goal
use Rattle.paths.specs.Spelling.{axis_word}
use Rattle.paths.specs.Translation.{neighbour_kind}

pub returns-in-99 : goal.returns-in-99
unfolding axis_at axis_word ascii neighbour_kind
returns-in-99 c = grind (arith, common_steps)

pub returns-in-112 : goal.returns-in-112
unfolding axis_at axis_word ascii neighbour_kind
returns-in-112 c = grind (arith, common_steps)

pub returns-in-114 : goal.returns-in-114
unfolding axis_at axis_word ascii neighbour_kind
returns-in-114 c = grind (arith, common_steps)

pub returns-in-108 : goal.returns-in-108
unfolding axis_at axis_word ascii neighbour_kind
returns-in-108 c = grind (arith, common_steps)

pub returns-in_default : goal.returns-in_default
unfolding axis_at axis_word ascii neighbour_kind
returns-in_default c = grind (arith, common_steps)
