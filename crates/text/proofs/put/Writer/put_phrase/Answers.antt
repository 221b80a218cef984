-- `put_phrase` puts its four parts one behind the other. Assumes nothing.
use native.Mathlib.Omega.{arith}
use Rattle.text.specs.Text.{phrase}
use Rattle.text.proofs.PutLaws.{writes_then}
use Rattle.text.proofs.Room.{phrase-length}
use Rattle.text.proofs.put.Writer.put_phrase.Goals as goal

pub put_word-requires : goal.put_word-requires
put_word-requires c = let a = c.args in omega (arith, phrase-length a.first.now a.second.now a.x a.y)

pub put_field-requires : goal.put_field-requires
put_field-requires c =
    let a = c.args in
    omega (arith, phrase-length a.first.now a.second.now a.x a.y, c.put_word.ensures.put.next_is)

pub put_word-requires-2 : goal.put_word-requires-2
put_word-requires-2 c =
    let a = c.args in
    let w = c.put_word.ensures.put.next_is in
    omega (arith, phrase-length a.first.now a.second.now a.x a.y, c.put_field.ensures.put.next_is)

pub put_field-requires-2 : goal.put_field-requires-2
put_field-requires-2 c =
    let a = c.args in
    let w = c.put_word.ensures.put.next_is in
    let f = c.put_field.ensures.put.next_is in
    omega (arith, phrase-length a.first.now a.second.now a.x a.y, c.put_word-2.ensures.put.next_is)

pub returns : goal.returns
unfolding phrase
returns c =
    writes_then c.put_word.ensures
    (writes_then c.put_field.ensures (writes_then c.put_word-2.ensures c.put_field-2.ensures))
