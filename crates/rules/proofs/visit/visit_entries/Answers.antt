-- `visit_entries`: each turn takes one record, and the visitor sees its entry. Assumes nothing.
use native.Mathlib.Omega.{arith}
use Rattle.terms.specs.Answer.{number_of_fault}
use Rattle.rules.proofs.RuleLaws.{rule-onward, rule-empty, rule-long}
use Rattle.rules.proofs.EntryLaws.{visit-start, visit-kept, visit-turn, visit-done, halts-ended, halts-faulty, entries_none, entries-many}
use Rattle.rules.proofs.visit.visit_entries.Goals as goal

pub returns-then-empty-clause-answer : goal.returns-then-empty-clause-answer
unfolding number_of_fault
returns-then-empty-clause-answer g c = rw c.at.ensures (rule-empty _ c.if-empty.true)

pub returns-then-empty-clause-visitor : goal.returns-then-empty-clause-visitor
returns-then-empty-clause-visitor g c = visit-kept _ _ _ (entries_none _ c.if-empty.true)

pub returns-then-too_long-clause-answer : goal.returns-then-too_long-clause-answer
unfolding number_of_fault
returns-then-too_long-clause-answer g c = rw c.at-then-too_long.ensures (rule-long _ c.if-too_long.true)

pub returns-then-too_long-clause-visitor : goal.returns-then-too_long-clause-visitor
returns-then-too_long-clause-visitor g c = visit-kept _ _ _ (entries-many _ c.if-too_long.true)

pub loop-at-init : goal.loop-at-init
loop-at-init g c = visit-start _ _ _

pub loop-at-smaller : goal.loop-at-smaller
loop-at-smaller g c =
    let o = rule-onward _ c.loop-at.invariant.mid c.if-at-rule.false _ c.in-Ok.ensures in omega (arith, o.on, o.within)

pub loop-at-preserved : goal.loop-at-preserved
loop-at-preserved g c =
    let m = c.loop-at.invariant in
    visit-turn _ _ _ m _ (rule-onward _ m.mid c.if-at-rule.false _ c.in-Ok.ensures) c.see.ensures

pub returns-then-at-rule-clause-answer : goal.returns-then-at-rule-clause-answer
returns-then-at-rule-clause-answer g c =
    let m = c.loop-at.invariant in
    (halts-ended _ m.mid m.few c.if-empty.false c.if-too_long.false c.if-at-rule.true).answer_is

pub returns-then-at-rule-clause-visitor : goal.returns-then-at-rule-clause-visitor
returns-then-at-rule-clause-visitor g c =
    let m = c.loop-at.invariant in
    visit-done _ _ _ m (halts-ended _ m.mid m.few c.if-empty.false c.if-too_long.false c.if-at-rule.true)

pub returns-in-Err-clause-answer : goal.returns-in-Err-clause-answer
returns-in-Err-clause-answer g c =
    let m = c.loop-at.invariant in
    rw c.at-in-Err.ensures
    (halts-faulty _ m.mid m.few c.if-empty.false c.if-too_long.false c.if-at-rule.false _ c.in-Err.ensures).answer_is

pub returns-in-Err-clause-visitor : goal.returns-in-Err-clause-visitor
returns-in-Err-clause-visitor g c =
    let m = c.loop-at.invariant in
    visit-done _ _ _ m (halts-faulty _ m.mid m.few c.if-empty.false c.if-too_long.false c.if-at-rule.false _ c.in-Err.ensures)
