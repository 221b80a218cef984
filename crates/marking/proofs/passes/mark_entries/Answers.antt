-- `mark_entries`: the words have the marks of the entries passed. Assumes nothing.
use native.Mathlib.Omega.{arith}
use Rattle.marking.proofs.KindLaws.{words-start, words-room, entry_fits, entry-turn, words-end}
use Rattle.marking.proofs.passes.mark_entries.Goals as goal

pub loop-i-init : goal.loop-i-init
loop-i-init c = λ levels columns. words-start levels c.args.elements.labels.now _ (rw columns.long at c.requires.room)

pub mark_entry-requires : goal.mark_entry-requires
mark_entry-requires c =
    let l = c.loop-i in
    let p = c.args in
    let q = c.requires in
    rw c.row_of-row.ensures
    record {
      earlier = entry_fits p.entries.now q.rule_entries l.i c.loop-i-test.true;
      room = words-room q.columns.0 p.elements.labels.now _ q.columns.1 q.room (omega (arith, q.rule_entries.few)) (l.invariant q.columns.0 q.columns.1);
      columns = q.columns;
    }

pub loop-i-preserved : goal.loop-i-preserved
loop-i-preserved c =
    let l = c.loop-i in
    let p = c.args in
    let q = c.requires in
    let e = rw c.row_of-row.ensures at c.mark_entry.ensures in
    λ levels columns. entry-turn levels p.elements.labels.now p.entries.now q.rule_entries l.i c.loop-i-test.true (l.invariant levels columns) (e levels columns)

pub returns : goal.returns
returns c =
    let l = c.loop-i in
    let p = c.args in
    λ levels columns. words-end p.entries.now c.requires.rule_entries levels p.elements.labels.now l.i (omega arith) (l.invariant levels columns)
