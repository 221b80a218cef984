use Rattle.parse.proofs.PartLaws.{leaf-true, leaf-label}
use Rattle.parse.proofs.tree.leaf.Goals as goal

pub returns-then-label-eq0 : goal.returns-then-label-eq0
returns-then-label-eq0 c = leaf-true _ c.args.label _ _ _ c.if-label-eq0.true c.note_row.ensures

pub returns : goal.returns
returns c = leaf-label _ c.args.label _ _ _ c.if-label-eq0.false c.note_row-2.ensures
