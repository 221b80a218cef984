-- `visit_entries`: each turn takes one record, and the visitor has seen the entries before it. Assumes nothing.
use Prim.Native.Nat.{◌-◌}
use lib.ListN.{length}
use Rattle.rules.proofs.EntryLaws.{VisitMid}
use Rattle.rules.proofs.visit.visit_entries.Given as goal

abbrev pub invariant-loop-at : goal.invariant-loop-at
invariant-loop-at g l = VisitMid g.V.Visitor.then l.rule l.initial.visitor l.visitor l.n l.at

abbrev pub decreases-loop-at : goal.decreases-loop-at
decreases-loop-at g l = length l.rule - l.at
