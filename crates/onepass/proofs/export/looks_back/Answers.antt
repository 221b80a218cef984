-- `looks_back` tells 10 of a rule that looks ahead. Assumes nothing.
use Rattle.terms.specs.Answer.{number_of_fault}
use Rattle.onepass.proofs.export.looks_back.Goals as goal

pub returns-then-ahead : goal.returns-then-ahead
unfolding number_of_fault
returns-then-ahead c = rw c.if-ahead.true
