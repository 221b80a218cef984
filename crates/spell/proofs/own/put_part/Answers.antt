-- `put_part` puts the own entries where they fit, and else nothing. Assumes nothing.
use native.Mathlib.Omega.{arith}
use mathlib.Core.Path.{refl, sym, ◌∙◌}
use borrow.Author.Rules.{rules}
use Rattle.spell.specs.Promises.{written}
use Rattle.spell.proofs.PartLaws.{fits-few, fits-room, fits-adds, misfit-adds}
use Rattle.spell.proofs.own.put_part.Goals as goal

pub put_own-requires : goal.put_own-requires
put_own-requires c =
    let a = c.args in
    let e = sym c.fits.ensures ∙ c.if-fits.true in
    let w = written a.entries a.bytes in
    (omega (arith, fits-few a.form a.argument a.rule.now w e), fits-room a.form a.argument a.rule.now w e)

pub overflow_add-result : goal.overflow_add-result
overflow_add-result c =
    let a = c.args in
    let e = sym c.fits.ensures ∙ c.if-fits.true in
    omega (arith, fits-few a.form a.argument a.rule.now (written a.entries a.bytes) e, c.own_entries.ensures)

pub returns-then-fits : goal.returns-then-fits
returns-then-fits c =
    let a = c.args in
    let e = sym c.fits.ensures ∙ c.if-fits.true in
    let w = written a.entries a.bytes in
    fits-adds a.form a.argument a.rule.now w e c.own_entries.ensures c.put_own.ensures.spelt (search rules) refl refl

pub returns : goal.returns
returns c =
    let a = c.args in
    misfit-adds a.form a.argument a.rule.now (written a.entries a.bytes) (sym c.fits.ensures ∙ c.if-fits.false)
