-- `link`: the columns lead from the elements passed. Assumes nothing.
use native.Mathlib.Omega.{arith}
use Rattle.layout.proofs.LinkLaws.{more-turn-at}
use Rattle.layout.proofs.links.link.Goals as goal

pub loop-s-preserved : goal.loop-s-preserved
loop-s-preserved c = more-turn-at c.requires.legal_levels c.loop-s.invariant c.loop-s-test.true _ _ _ (omega arith) (omega arith) (omega arith)
