-- `gather_pass`: the elements passed have given to those that they lead to. Assumes nothing.
use native.Mathlib.Nat.{mod-eq_of_lt}
use native.Mathlib.Omega.{arith}
use Rattle.marking.proofs.AheadLaws.{gather-start, gather-turn, gather-end}
use Rattle.marking.proofs.PassLaws.{own_in, earlier-in}
use Rattle.marking.proofs.ahead.gather_pass.Goals as goal

pub loop-s-init : goal.loop-s-init
loop-s-init c = gather-start _ _ _ c.requires

pub loop-s-preserved : goal.loop-s-preserved
loop-s-preserved c =
    let l = c.loop-s in
    let t = c.loop-s-test.true in
    rw (c.put_low_bit.ensures, mod-eq_of_lt c.bit_where-given.ensures.1, c.bit_where-given.ensures.0, own_in c.requires, earlier-in c.requires c.args.asked.earlier.0)
    (gather-turn _ _ _ c.requires c.args.asked.earlier.0 l.s t (c.args.column.not_past l.s t) l.invariant)

pub returns : goal.returns
returns c = let l = c.loop-s in gather-end _ _ _ c.requires l.s (omega arith) l.invariant
