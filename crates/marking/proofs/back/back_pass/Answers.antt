-- `back_pass`: the elements passed have their marks, and a column leads to one of them. Assumes nothing.
use Rattle.marking.proofs.PassLaws.{ascent-turn, own_in, earlier-in}
use Rattle.marking.proofs.StepLaws.{back-turn}
use Rattle.marking.proofs.back.back_pass.Goals as goal

pub loop-s-preserved : goal.loop-s-preserved
loop-s-preserved c =
    let l = c.loop-s in
    let t = c.loop-s-test.true in
    rw (c.back_word.ensures, own_in c.requires, earlier-in c.requires c.args.asked.earlier.0, earlier-in c.requires c.args.asked.earlier.1)
    (ascent-turn c.requires _ l.s _ t (back-turn c.args.column.numbers.now _ _ _ l.s c.requires c.args.asked.earlier.0 c.args.asked.earlier.1 t (c.args.column.not_past l.s t) l.invariant) l.invariant)
