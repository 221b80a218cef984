-- `own_entries`: one law for each return. Assumes nothing.
use native.Mathlib.Omega.{arith}
use Rattle.spell.proofs.FormLaws.{entries-one, entries-two, entries-four}
use Rattle.spell.proofs.form.own_entries.Goals as goal

pub returns-in-14 : goal.returns-in-14
returns-in-14 c = entries-four c.args.form c.in-14.is

pub returns-in-0-to-9 : goal.returns-in-0-to-9
returns-in-0-to-9 c = entries-one c.args.form (omega arith)

pub returns-in_default : goal.returns-in_default
returns-in_default c = entries-two c.args.form (omega arith) c.in_default.in_default-own.rest.1
