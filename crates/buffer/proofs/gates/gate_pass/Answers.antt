-- `gate_pass`: the words passed have their bit, and those ahead are as they were. Assumes nothing.
use native.Mathlib.Omega.{arith}
use mathlib.Core.Path.{◌≡◌, sym}
use lib.ListN.{get_or}
use Rattle.numbers.specs.Lists.{listed}
use Rattle.numbers.proofs.Lists.{over_none, filled-ahead, filled_next, filled-all}
use Rattle.buffer.specs.Gates.{gated_word}
use Rattle.buffer.proofs.gates.gate_pass.Goals as goal

pub loop-w-init : goal.loop-w-init
unfolding listed
loop-w-init c = sym (over_none _)

pub loop-w-preserved : goal.loop-w-preserved
loop-w-preserved c =
    let p = c.args in
    let l = c.loop-w in
    let e : get_or l.w-items l.w-index 0 ≡ get_or p.words.now l.w-index 0 = filled-ahead (gated_word p.gate p.i p.words.now) p.words.now l.w-index (omega arith) l.invariant in
    filled_next _ _ l.w-index (rw (c.put_bit.ensures, c.gate_mark.ensures, e)) l.invariant

pub returns : goal.returns
returns c = filled-all _ _ c.loop-w.w-index (omega arith) c.loop-w.invariant
