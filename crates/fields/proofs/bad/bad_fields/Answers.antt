-- `bad_fields` asks each clause of the document. Assumes nothing.
use mathlib.Core.Path.{refl}
use Rattle.fields.specs.Fields.{bad_fields}
use Rattle.fields.proofs.bad.bad_fields.Goals as goal

pub returns : goal.returns
unfolding bad_fields
returns c = refl
