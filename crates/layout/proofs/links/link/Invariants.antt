-- `link`: the columns lead from the elements passed. Assumes nothing.
use Rattle.layout.proofs.LinkLaws.{LinkMore}
use Rattle.layout.proofs.links.link.Given as goal

abbrev pub invariant-loop-s : goal.invariant-loop-s
invariant-loop-s l = LinkMore l.levels l.ups l.lefts l.held l.s
