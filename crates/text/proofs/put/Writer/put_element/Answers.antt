-- `put_element` puts its four fields one behind the other. Assumes nothing.
use native.Mathlib.Omega.{arith}
use Rattle.text.specs.Text.{element_line}
use Rattle.text.proofs.PutLaws.{writes_then}
use Rattle.text.proofs.Room.{element-length}
use Rattle.text.proofs.put.Writer.put_element.Goals as goal

pub put_field-requires : goal.put_field-requires
put_field-requires c = let a = c.args in omega (arith, element-length a.element a.label a.level a.verdict)

pub put_field-requires-2 : goal.put_field-requires-2
put_field-requires-2 c =
    let a = c.args in
    omega (arith, element-length a.element a.label a.level a.verdict, c.put_field.ensures.put.next_is)

pub put_field-requires-3 : goal.put_field-requires-3
put_field-requires-3 c =
    let a = c.args in
    let f = c.put_field.ensures.put.next_is in
    omega (arith, element-length a.element a.label a.level a.verdict, c.put_field-2.ensures.put.next_is)

pub put_field-requires-4 : goal.put_field-requires-4
put_field-requires-4 c =
    let a = c.args in
    let f = c.put_field.ensures.put.next_is in
    let g = c.put_field-2.ensures.put.next_is in
    omega (arith, element-length a.element a.label a.level a.verdict, c.put_field-3.ensures.put.next_is)

pub returns : goal.returns
unfolding element_line
returns c =
    writes_then c.put_field.ensures
    (writes_then c.put_field-2.ensures (writes_then c.put_field-3.ensures c.put_field-4.ensures))
