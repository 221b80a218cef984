-- `own_bytes`: one law for each return. Assumes nothing.
use native.Mathlib.Omega.{arith}
use Rattle.spell.proofs.FormLaws.{bytes-five, bytes-six, bytes-twelve, bytes-thirty, bytes-fourteen}
use Rattle.spell.proofs.form.own_bytes.Goals as goal

pub returns-in-14 : goal.returns-in-14
returns-in-14 c = bytes-thirty c.args.form c.in-14.is

pub returns-in-0-to-5 : goal.returns-in-0-to-5
returns-in-0-to-5 c = bytes-five c.args.form (omega arith)

pub returns-in-6-to-9 : goal.returns-in-6-to-9
returns-in-6-to-9 c = bytes-six c.args.form (omega arith) (omega arith)

pub returns-in-10-to-13 : goal.returns-in-10-to-13
returns-in-10-to-13 c = bytes-twelve c.args.form (omega arith) (omega arith)

pub returns-in_default : goal.returns-in_default
returns-in_default c = bytes-fourteen c.args.form (omega arith) c.in_default.in_default-own.rest.1
