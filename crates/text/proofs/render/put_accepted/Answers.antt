-- `put_accepted` puts header, elements and closing line one behind the other, and there is room for all. Assumes nothing.
use native.Mathlib.Omega.{arith}
use mathlib.Core.Path.{refl, ◌∙◌}
use borrow.Author.Rules.{rules}
use Rattle.text.specs.Text.{ascii, header_line, closing_line}
use Rattle.text.proofs.PutLaws.{accepted-rendered}
use Rattle.text.proofs.Room.{phrase-short, min-clamped}
use Rattle.text.proofs.render.put_accepted.Goals as goal

pub put_phrase-requires : goal.put_phrase-requires
unfolding ascii
put_phrase-requires c =
    let a = c.args in
    let n = c.min-elements.result in
    let h = c.put_word.ensures.put.next_is in
    let e = c.put_elements.ensures.ends in
    omega (arith, phrase-short (ascii "selected ") (ascii "of ") a.selected n (omega arith) (omega arith))

pub returns : goal.returns
unfolding header_line closing_line ascii
returns c =
    let a = c.args in
    let n = c.min-elements.result in
    let h = c.put_word.ensures in
    let e = c.put_elements.ensures in
    accepted-rendered _ _ _ a.selected (c.min-elements.ensures ∙ min-clamped a.n) refl h e.put c.put_phrase.ensures
    (omega (arith, h.put.next_is, e.ends, c.put_phrase.ensures.put.next_is, phrase-short (ascii "selected ") (ascii "of ") a.selected n (omega arith) (omega arith)))
    (search rules)
