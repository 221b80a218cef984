-- `put_halves` tells the text that was put, or the refusal. Assumes nothing.
use Rattle.judge.proofs.PrintoutLaws.{printed-taken, printed-refused}
use Rattle.judge.proofs.judge.put_halves.Goals as goal

pub returns-in-Ok : goal.returns-in-Ok
returns-in-Ok c = printed-taken _ _ c.put_taken.ensures _ c.in-Ok.is

pub returns-in-Err : goal.returns-in-Err
returns-in-Err c = printed-refused _ _ c.put_taken.ensures _ c.in-Err.is (rw (← c.into.ensures) c.put_refused.ensures)
