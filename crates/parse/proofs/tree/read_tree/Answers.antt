use mathlib.Core.Path.{sym, ◌∙◌}
use Rattle.parse.proofs.ReadLaws.{sized-so, tree-size, tree-stopped}
use Rattle.parse.proofs.tree.read_tree.Goals as goal

pub returns-then-is_empty-s : goal.returns-then-is_empty-s
returns-then-is_empty-s c = tree-size c.args.s.now (rw c.is_empty.ensures at c.if-is_empty-s.true)

pub returns-then-is_err : goal.returns-then-is_err
returns-then-is_err c = tree-stopped c.args.s.now (sized-so c.args.s.now (rw c.is_empty.ensures at c.if-is_empty-s.false)) _ c.read_sized-read.result (sym c.is_err.ensures.value ∙ c.if-is_err.true) c.read_sized-read.ensures
