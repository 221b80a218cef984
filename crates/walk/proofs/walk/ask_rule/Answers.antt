-- `ask_rule`: whether an entry looks ahead, of all entries read. Assumes nothing.
use Rattle.walk.proofs.WalkLaws.{ask-done}
use Rattle.walk.proofs.walk.ask_rule.Goals as goal

pub returns : goal.returns
returns c = ask-done _ c.visit_entries-answer.ensures.answer c.visit_entries-answer.ensures.visitor
