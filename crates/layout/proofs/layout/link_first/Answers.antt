-- `link_first`: the first n places of the columns are lent. Assumes nothing.
use Rattle.layout.proofs.LayoutLaws.{linked-first}
use Rattle.layout.proofs.layout.link_first.Goals as goal

pub returns : goal.returns
returns c = let p = c.requires.n_in_bounds in
    let r = linked-first _ _ _ _ p.0 p.1 p.2 c.link.ensures in record { ups_after = r.0; lefts_after = r.1 }
