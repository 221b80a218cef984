-- `put_beside` puts two records. Assumes nothing.
use mathlib.Core.Path.{◌∙◌}
use Rattle.spell.proofs.StepLaws.{beside_first, beside-second, beside-puts}
use Rattle.spell.proofs.put.Writer.put_beside.Goals as goal

pub put_record-requires : goal.put_record-requires
put_record-requires c =
    beside_first c.args.form c.args.argument c.args.n c.last.ensures c.requires.1

pub put_record-requires-2 : goal.put_record-requires-2
put_record-requires-2 c =
    beside-second c.args.form c.args.argument c.args.n c.last.ensures c.put_record.ensures.spelt c.requires.1

pub returns : goal.returns
returns c =
    let p = c.put_record.ensures in
    let q = c.put_record-2.ensures in
    record {
      spelt = beside-puts c.args.form c.args.argument c.args.n c.last.ensures p.spelt q.spelt;
      same_buffer = q.same_buffer ∙ p.same_buffer;
    }
