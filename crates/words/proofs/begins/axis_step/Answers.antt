use Rattle.std.proofs.Common.{arith, sym, ◌∙◌}
use Rattle.std.proofs.lemmas.Grind.{common_steps}
use Rattle.words.specs.Begins.{step_at}
use Rattle.words.proofs.WordLaws.{front}
use Rattle.words.proofs.BeginLaws.{axis-kind}
use Rattle.words.proofs.begins.axis_step.Goals as goal

pub overflow_add-result : goal.overflow_add-result
overflow_add-result c = omega (arith, c.well_formed, (front c.args.s.now c.in_ok-axis.axis.end 63 (sym c.byte_at-next.ensures ∙ c.if-next-eq63.true) (omega arith)).0)

pub overflow_add-result-then-next-eq63 : goal.overflow_add-result-then-next-eq63
overflow_add-result-then-next-eq63 c = omega (arith, axis-kind c.args.s.now c.args.at c.axis_at.result _ c.axis_at.ensures c.in_ok-axis.was)

pub overflow_add-result-then-next-eq42 : goal.overflow_add-result-then-next-eq42
overflow_add-result-then-next-eq42 c = omega (arith, c.well_formed, (front c.args.s.now c.in_ok-axis.axis.end 42 (sym c.byte_at-next.ensures ∙ c.if-next-eq42.true) (omega arith)).0)

pub overflow_add-result-then-next-eq42-2 : goal.overflow_add-result-then-next-eq42-2
overflow_add-result-then-next-eq42-2 c = omega (arith, axis-kind c.args.s.now c.args.at c.axis_at.result _ c.axis_at.ensures c.in_ok-axis.was)

pub returns-in_err-axis : goal.returns-in_err-axis
unfolding step_at
returns-in_err-axis c = grind (arith, common_steps)

pub returns-then-next-eq63 : goal.returns-then-next-eq63
unfolding step_at
returns-then-next-eq63 c = grind (arith, common_steps)

pub returns-then-bracket : goal.returns-then-bracket
unfolding step_at
returns-then-bracket c = grind (arith, common_steps)

pub returns-then-next-eq42 : goal.returns-then-next-eq42
unfolding step_at
returns-then-next-eq42 c = grind (arith, common_steps)

pub returns : goal.returns
unfolding step_at
returns c = grind (arith, common_steps)
