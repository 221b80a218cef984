-- `put_record` puts the length of the kind, the kind and the body. Assumes nothing.
use native.Mathlib.Omega.{arith}
use mathlib.Core.Path.{◌∙◌}
use Rattle.spell.proofs.Adding.{put-length}
use Rattle.spell.proofs.Records.{number-next, record-room, record-spelt, length-small}
use Rattle.spell.proofs.put.Writer.put_record.Goals as goal

pub overflow_cast-row : goal.overflow_cast-row
overflow_cast-row c = rw c.row_of-row.ensures (omega (arith, length-small c.args.kind))

pub put_number-requires : goal.put_number-requires
put_number-requires c = omega (arith, record-room c.args.kind c.args.a c.args.b c.requires)

pub put_number-requires-2 : goal.put_number-requires-2
put_number-requires-2 c =
    let l = record-room c.args.kind c.args.a c.args.b c.requires in
    let p = c.put_number.ensures.put in
    omega (arith, l, number-next c.row_of-row.result.length p, put-length p)

pub put_body-requires : goal.put_body-requires
put_body-requires c =
    let l = record-room c.args.kind c.args.a c.args.b c.requires in
    let p = c.put_number.ensures.put in
    let q = c.put_number-2.ensures.put in
    let f = number-next c.row_of-row.result.length p in
    rw c.row_of-row.ensures (omega (arith, l, f, number-next c.args.kind q, put-length p, put-length q))

pub returns : goal.returns
returns c =
    let e = c.row_of-row.ensures in
    let p = c.put_number.ensures in
    let q = c.put_number-2.ensures in
    let u = c.put_body.ensures in
    record {
      spelt = record-spelt c.args.kind c.args.a c.args.b (rw e at p.put) q.put (rw e at u.put);
      same_buffer = u.same_buffer ∙ (q.same_buffer ∙ p.same_buffer);
    }
