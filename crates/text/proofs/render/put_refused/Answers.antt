-- `put_refused` puts one phrase at the front, and there is room for it. Assumes nothing.
use native.Mathlib.Omega.{arith}
use mathlib.Core.Path.{refl}
use borrow.Author.Rules.{rules}
use Rattle.text.specs.Text.{refused_line, ascii}
use Rattle.text.proofs.PutLaws.{writes-rendered}
use Rattle.text.proofs.Room.{phrase-short, phrase-fits}
use Rattle.text.proofs.render.put_refused.Goals as goal

pub put_phrase-requires : goal.put_phrase-requires
unfolding ascii
put_phrase-requires c = phrase-fits _ _ _ _ (omega arith) (omega arith) (omega arith)

pub returns : goal.returns
unfolding refused_line ascii
returns c =
    let a = c.args in
    writes-rendered refl
    (omega (arith, phrase-short (ascii "refused ") (ascii "at ") a.number a.place (omega arith) (omega arith)))
    c.put_phrase.ensures (search rules)
