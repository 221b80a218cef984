-- `turn_pass`: the elements passed have their marks, and have given to those that they lead to. Assumes nothing.
use Prim.Native.Nat.{◌<◌, ◌-◌}
use lib.ListN.{length}
use Rattle.marking.proofs.AheadLaws.{ahead-start, ahead_before, ahead-turn}
use Rattle.marking.proofs.PassLaws.{own_in, earlier-in}
use native.Mathlib.Omega.{arith}
use Rattle.marking.proofs.ahead.turn_pass.Goals as goal

pub loop-t-init : goal.loop-t-init
loop-t-init c = ahead-start _ _ _ _ _ c.requires.room

pub loop-t-preserved : goal.loop-t-preserved
loop-t-preserved c =
    let l = c.loop-t in
    let pre = c.requires in
    let h : l.t - 1 < length c.args.column.numbers.now = omega arith in
    rw (c.put_bit.ensures, c.given_at-given.ensures, c.low_with_bit.ensures, c.own_at-own.ensures, own_in pre.room, earlier-in pre.room c.args.asked.earlier.0, earlier-in pre.room c.args.asked.earlier.1)
    (ahead-turn _ _ _ _ _ pre.room c.args.asked.earlier.0 c.args.asked.earlier.1 pre.nearest (l.t - 1) h (ahead_before _ _ _ _ _ (omega arith) l.invariant) (c.args.column.not_past (l.t - 1) h))
