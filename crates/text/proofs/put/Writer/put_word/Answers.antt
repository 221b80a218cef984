-- `put_word` copies the word whole. Assumes nothing.
use native.Mathlib.Omega.{arith}
use mathlib.Core.Path.{refl}
use Rattle.text.proofs.PutLaws.{put_copied}
use Rattle.text.proofs.put.Writer.put_word.Goals as goal

pub returns : goal.returns
returns c = record { put = put_copied (omega arith) c.copy_from_slice.ensures.after; same_buffer = refl }
