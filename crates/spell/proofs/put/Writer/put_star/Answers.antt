-- `put_star` puts two records. Assumes nothing.
use mathlib.Core.Path.{◌∙◌}
use Rattle.spell.proofs.StepLaws.{star-first, star-second, star-puts}
use Rattle.spell.proofs.put.Writer.put_star.Goals as goal

pub put_record-requires : goal.put_record-requires
put_record-requires c = star-first c.args.form c.args.argument c.args.n c.requires

pub put_record-requires-2 : goal.put_record-requires-2
put_record-requires-2 c =
    star-second c.args.form c.args.argument c.args.n c.put_record.ensures.spelt c.requires

pub returns : goal.returns
returns c =
    let p = c.put_record.ensures in
    let q = c.put_record-2.ensures in
    record { spelt = star-puts c.args.form c.args.argument c.args.n p.spelt q.spelt; same_buffer = q.same_buffer ∙ p.same_buffer }
