-- `put_body` puts no number, one, or two. Assumes nothing.
use native.Mathlib.Omega.{arith}
use mathlib.Core.Path.{refl, ◌∙◌}
use Rattle.spell.proofs.Adding.{put-length}
use Rattle.spell.proofs.Records.{body-first, body-both, number-next, puts_none, puts_one, puts-two}
use Rattle.spell.proofs.put.Writer.put_body.Goals as goal

pub returns-then-none : goal.returns-then-none
returns-then-none c = record { put = puts_none c.args.arguments c.args.a c.args.b c.if-none.true; same_buffer = refl }

pub put_number-requires : goal.put_number-requires
put_number-requires c =
    omega (arith, body-first c.args.arguments c.args.a c.args.b c.if-none.false)

pub returns-then-arguments-eq1 : goal.returns-then-arguments-eq1
returns-then-arguments-eq1 c =
    let p = c.put_number.ensures in
    record { put = puts_one c.args.arguments c.args.a c.args.b c.if-arguments-eq1.true p.put; same_buffer = p.same_buffer }

pub put_number-requires-2 : goal.put_number-requires-2
put_number-requires-2 c =
    let f = body-both c.args.arguments c.args.a c.args.b c.if-none.false c.if-arguments-eq1.false in
    let p = c.put_number.ensures.put in
    omega (arith, f, number-next c.args.a p, put-length p)

pub returns : goal.returns
returns c =
    let p = c.put_number.ensures in
    let q = c.put_number-2.ensures in
    record {
      put = puts-two c.args.arguments c.args.a c.args.b c.if-none.false c.if-arguments-eq1.false p.put q.put;
      same_buffer = q.same_buffer ∙ p.same_buffer;
    }
