-- `put_number` stores two bytes. Assumes nothing.
use native.Mathlib.Omega.{arith}
use mathlib.Core.Path.{refl}
use Rattle.spell.proofs.Records.{number-puts}
use Rattle.spell.proofs.put.Writer.put_number.Goals as goal

pub returns : goal.returns
returns c =
    let w = c.args.self.now in
    record {
      put = number-puts c.args.x w.out.now w.at _ _ (rw c.to_le_bytes.ensures (omega arith)) (rw c.to_le_bytes.ensures (omega arith));
      same_buffer = refl;
    }
