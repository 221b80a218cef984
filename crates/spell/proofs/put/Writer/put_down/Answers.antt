-- `put_down` puts four records. Assumes nothing.
use mathlib.Core.Path.{◌∙◌}
use Rattle.spell.proofs.StepLaws.{down-first, down-second, down-third, down-fourth, down-puts}
use Rattle.spell.proofs.put.Writer.put_down.Goals as goal

pub put_record-requires : goal.put_record-requires
put_record-requires c =
    down-first c.args.argument c.args.n c.last-test.ensures c.requires.1

pub put_record-requires-2 : goal.put_record-requires-2
put_record-requires-2 c =
    down-second c.args.argument c.args.n c.last-test.ensures c.requires.1 c.put_record.ensures.spelt

pub put_record-requires-3 : goal.put_record-requires-3
put_record-requires-3 c =
    down-third c.args.argument c.args.n c.last-test.ensures c.requires.1 c.put_record.ensures.spelt c.put_record-2.ensures.spelt

pub put_record-requires-4 : goal.put_record-requires-4
put_record-requires-4 c =
    down-fourth c.args.argument c.args.n c.last-test.ensures c.requires.1 c.put_record.ensures.spelt
    c.put_record-2.ensures.spelt c.put_record-3.ensures.spelt

pub returns : goal.returns
returns c =
    let p = c.put_record.ensures in
    let q = c.put_record-2.ensures in
    let s = c.put_record-3.ensures in
    let t = c.put_record-4.ensures in
    record {
      spelt = down-puts c.args.argument c.args.n c.last-test.ensures c.requires.1 p.spelt q.spelt s.spelt t.spelt;
      same_buffer = t.same_buffer ∙ (s.same_buffer ∙ (q.same_buffer ∙ p.same_buffer));
    }
