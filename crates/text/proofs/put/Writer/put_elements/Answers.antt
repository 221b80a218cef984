-- Assumes nothing.
use native.Mathlib.Omega.{arith}
use Rattle.text.proofs.PutLaws.{elements-none, elements-turn}
use Rattle.text.proofs.Room.{element-room, element-ends}
use Rattle.text.proofs.put.Writer.put_elements.Goals as goal

pub loop-i-init : goal.loop-i-init
loop-i-init c = record { room = omega arith; put = elements-none _ _ _ _ }

pub put_element-requires : goal.put_element-requires
put_element-requires c = element-room _ _ (omega arith) (omega arith) (omega arith) (omega arith)

pub loop-i-preserved : goal.loop-i-preserved
loop-i-preserved c =
    let e = c.put_element.ensures in
    record {
      room = omega (arith, element-ends _ e.put (omega arith) (omega arith) (omega arith));
      put = elements-turn _ _ _ c.bit_at.ensures c.loop-i.invariant.put e;
    }
