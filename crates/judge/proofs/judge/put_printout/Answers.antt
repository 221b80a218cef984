-- `put_printout` tells the printout of rule and report, or refusal 1. Assumes nothing.
use Rattle.terms.specs.Answer.{number_of_fault}
use Rattle.judge.proofs.SplitLaws.{parted-printed, unparted-printed}
use Rattle.judge.proofs.judge.put_printout.Goals as goal

pub returns-in-Some : goal.returns-in-Some
returns-in-Some c = let (end, e, a, b) = c.in-Some.ensures in parted-printed _ e a b c.put_halves.ensures

pub returns-in-None : goal.returns-in-None
unfolding number_of_fault
returns-in-None c = unparted-printed _ c.in-None.ensures (rw c.into.ensures at c.put_refused.ensures)
