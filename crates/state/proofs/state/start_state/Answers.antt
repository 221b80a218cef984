use Rattle.state.proofs.NumberLaws.{start-refused, start-done}
use Rattle.state.proofs.state.start_state.Goals as goal

pub returns-then-bad_size : goal.returns-then-bad_size
returns-then-bad_size c = start-refused _ _ c.bad_size.ensures c.if-bad_size.true

pub returns : goal.returns
returns c = start-done _ _ c.bad_size.ensures _ c.if-bad_size.false c.clear.ensures
