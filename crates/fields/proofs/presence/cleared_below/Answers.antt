-- `cleared_below` clears a bit that the word has, or none. Assumes nothing.
use native.Mathlib.Omega.{arith}
use borrow.Author.Tests.{lt-ltb, le-ltb}
use Rattle.fields.specs.Fields.{cleared_below}
use Rattle.fields.proofs.FieldLaws.{with-bit-own}
use Rattle.fields.proofs.presence.cleared_below.Goals as goal

pub returns-then-d-lt63 : goal.returns-then-d-lt63
unfolding cleared_below
returns-then-d-lt63 c =
    rw (c.with_bit.ensures, lt-ltb _ _ c.if-d-lt63.true) (with-bit-own _ _ _ (omega (arith, c.if-d-lt63.true)))

pub returns-else-d-lt63 : goal.returns-else-d-lt63
unfolding cleared_below
returns-else-d-lt63 c = rw (le-ltb _ _ c.if-d-lt63.false)
