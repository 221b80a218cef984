-- `mark_elements`: the first n words cleared, marked with the first n places of the columns, and counted. Assumes nothing.
use mathlib.Core.Path.{sym, ap, ◌∙◌}
use lib.ListN.{length, take, length-replicate}
use lib.Seq.{length-take-le}
use Rattle.marking.proofs.KindLaws.{last-bit, marked-first}
use Rattle.marking.proofs.elements.mark_elements.Goals as goal

pub returns : goal.returns
returns c = λ levels columns.
    let p = c.args in
    let q = c.requires in
    let n = sym (length-take-le p.n p.elements.labels.now q.n_in_bounds.0) ∙ columns.long in
    let m = length-take-le p.n p.marks.now q.n_in_bounds.3 in
    let z = c.clear.ensures in
    marked-first levels (take p.n p.elements.labels.now) _ p.n _ n q.n_in_bounds.3 (ap length z ∙ length-replicate _ _ ∙ m) (c.mark_entries.ensures levels columns)
    (rw (← last-bit p.entries.now q.rule_entries) c.count_with_bit.ensures)
