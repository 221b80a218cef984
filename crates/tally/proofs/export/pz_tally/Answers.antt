-- `pz_tally` stores what counting comes to, or gives 12. Assumes nothing.
use Rattle.std.specs.Prelude.{Ok, Err}
use Rattle.tally.proofs.Laws.{counted-tallied}
use Rattle.tally.proofs.export.pz_tally.Goals as goal

pub returns-in-Ok : goal.returns-in-Ok
returns-in-Ok c = counted-tallied _ _ (Ok c.in-Ok.more) c.in-Ok.ensures

pub returns-in-Err : goal.returns-in-Err
returns-in-Err c = rw c.into.ensures (counted-tallied _ _ (Err c.in-Err.why) c.in-Err.ensures)
