-- `copy_front` leaves the copied bytes in front of what stood past them. Assumes nothing.
use native.Mathlib.Omega.{arith}
use mathlib.Core.Path.{◌≡◌}
use lib.ListN.{length, take}
use lib.Seq.{length-take-le}
use Rattle.numbers.proofs.Lists.{over-is}
use Rattle.printing.proofs.export.copy_front.Goals as goal

pub returns : goal.returns
returns c =
    let a = c.args in
    let l : length (take a.n a.from.now) ≡ a.n = length-take-le a.n a.from.now c.requires.0 in
    rw (over-is (take a.n a.from.now) a.to.now (omega (arith, c.requires.1)), l, c.copy_from_slice.ensures.after)
