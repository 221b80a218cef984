-- `lacks_room`: the lowest of all is compared. Assumes nothing.
use Rattle.layout.proofs.LayoutLaws.{least-min}
use Rattle.layout.proofs.columns.lacks_room.Goals as goal

pub returns : goal.returns
returns c = rw (c.min.ensures, c.least_of_four.ensures, least-min)
