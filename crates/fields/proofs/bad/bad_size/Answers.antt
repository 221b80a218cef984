-- `bad_size` asks for any other size. Assumes nothing.
use mathlib.Core.Path.{refl}
use Rattle.fields.specs.Fields.{bad_size}
use Rattle.fields.proofs.bad.bad_size.Goals as goal

pub returns : goal.returns
unfolding bad_size
returns c = refl
