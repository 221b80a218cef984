-- Assumes nothing.
use mathlib.Core.Path.{refl}
use Rattle.text.proofs.PutLaws.{put_one}
use Rattle.text.proofs.put.Writer.put_byte.Goals as goal

pub returns : goal.returns
returns c = record { put = put_one _ _ _; same_buffer = refl }
