use Rattle.terms.specs.Answer.{number_of_fault}
use Rattle.typing.proofs.Answered.{typed-stopped, typed-many, typed-short, bytes_small, typed-asks, typed-taken}
use Rattle.typing.proofs.export.read_path.Goals as goal

pub returns-in-Err-clause-typed : goal.returns-in-Err-clause-typed
unfolding number_of_fault
returns-in-Err-clause-typed c = typed-stopped c.args.text.now c.args.rule.now _ c.in-Err.e _ c.in-Err.ensures (rw c.at.ensures)

pub returns-then-too_many-clause-typed : goal.returns-then-too_many-clause-typed
unfolding number_of_fault
returns-then-too_many-clause-typed c = typed-many c.args.text.now c.args.rule.now _ c.in-Ok.counts c.in-Ok.ensures _ c.if-too_many.true (rw c.at-then-too_many.ensures)

pub returns-then-rule-counts-clause-typed : goal.returns-then-rule-counts-clause-typed
unfolding number_of_fault
returns-then-rule-counts-clause-typed c = typed-short c.args.text.now c.args.rule.now _ c.in-Ok.counts c.in-Ok.ensures c.if-too_many.false _ c.if-rule-counts.true (rw c.at-then-rule-counts.ensures)

pub write_rule-requires : goal.write_rule-requires
write_rule-requires c = typed-asks c.args.text.now c.args.rule.now _ c.in-Ok.counts c.in-Ok.ensures c.if-too_many.false c.if-rule-counts.false

pub returns-clause-typed : goal.returns-clause-typed
returns-clause-typed c = typed-taken c.args.text.now c.args.rule.now _ c.in-Ok.counts c.in-Ok.ensures c.if-too_many.false c.if-rule-counts.false _ c.write_rule.ensures

pub returns-clause-small : goal.returns-clause-small
returns-clause-small c = bytes_small c.args.text.now c.args.rule.now _ c.in-Ok.counts c.in-Ok.ensures c.if-too_many.false
