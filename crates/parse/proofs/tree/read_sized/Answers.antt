use Rattle.parse.proofs.ReadLaws.{read-bad, read-over, read_whole}
use Rattle.parse.proofs.tree.read_sized.Goals as goal

pub returns-in-Bad : goal.returns-in-Bad
returns-in-Bad c = read-bad c.args.s.now c.args.rows.now c.in-Bad.p (rw c.in-Bad.is at c.test.ensures)

pub returns-then-e-s : goal.returns-then-e-s
returns-then-e-s c = read_whole c.args.s.now c.args.rows.now _ c.in-Done.e c.in-Done.n c.in-Done.b c.in-Done.v (rw c.in-Done.is at c.test.ensures) c.if-e-s.true

pub returns-else-e-s : goal.returns-else-e-s
returns-else-e-s c = read-over c.args.s.now c.args.rows.now _ c.in-Done.e c.in-Done.n c.in-Done.b c.in-Done.v (rw c.in-Done.is at c.test.ensures) c.if-e-s.false
