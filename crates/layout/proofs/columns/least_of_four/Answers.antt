-- `least_of_four`: two by two. Assumes nothing.
use Rattle.layout.proofs.LayoutLaws.{least-min}
use Rattle.layout.proofs.columns.least_of_four.Goals as goal

pub returns : goal.returns
returns c =
    let p = c.args in
    rw (c.min-3.ensures, c.min-2.ensures, c.min.ensures, least-min p.a p.b, least-min p.c p.d, least-min)
