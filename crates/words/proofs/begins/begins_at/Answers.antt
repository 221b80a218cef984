use Rattle.std.proofs.Common.{arith, sym, ◌∙◌}
use Rattle.std.proofs.lemmas.Grind.{common_steps}
use Rattle.words.specs.Begins.{begin_at}
use Rattle.words.proofs.WordLaws.{front}
use Rattle.words.proofs.begins.begins_at.Goals as goal

pub overflow_add-at : goal.overflow_add-at
overflow_add-at c =
    omega (arith, c.well_formed, (front c.args.s.now c.args.at 32 (sym c.byte_at-b.ensures ∙ c.if-b-eq32.true) (omega arith)).0)

pub returns-then-b-eq40 : goal.returns-then-b-eq40
unfolding begin_at
returns-then-b-eq40 c = grind (arith, common_steps)

pub returns-then-b-eq60 : goal.returns-then-b-eq60
unfolding begin_at
returns-then-b-eq60 c = grind (arith, common_steps)

pub returns-then-unspaced : goal.returns-then-unspaced
unfolding begin_at
returns-then-unspaced c = grind (arith, common_steps)

pub returns-then-b-eq32 : goal.returns-then-b-eq32
unfolding begin_at
returns-then-b-eq32 c = grind (arith, common_steps)

pub returns : goal.returns
unfolding begin_at
returns c = grind (arith, common_steps)
