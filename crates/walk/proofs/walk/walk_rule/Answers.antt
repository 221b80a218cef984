-- `walk_rule`: what an element that opens has become by all entries read. Assumes nothing.
use Rattle.walk.proofs.WalkLaws.{walk-done}
use Rattle.walk.proofs.walk.walk_rule.Goals as goal

pub returns : goal.returns
returns c = walk-done _ _ _ _ c.visit_entries-answer.ensures.answer c.visit_entries-answer.ensures.visitor
