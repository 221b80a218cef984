-- `label_pass`: the elements passed have their marks. Assumes nothing.
use mathlib.Core.Path.{refl}
use Rattle.marking.proofs.PassLaws.{ascent-turn, own_in}
use Rattle.marking.proofs.local.label_pass.Goals as goal

pub loop-s-preserved : goal.loop-s-preserved
loop-s-preserved c =
    let l = c.loop-s in
    rw (c.put_bit.ensures, c.label_mark.ensures, own_in c.requires) (ascent-turn c.requires _ l.s _ c.loop-s-test.true refl l.invariant)
