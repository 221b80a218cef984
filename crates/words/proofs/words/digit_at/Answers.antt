use native.Mathlib.Omega.{arith}
use Rattle.words.proofs.WordLaws.{digit-byte, digit-is, digit_not, digit-there}
use Rattle.words.proofs.words.digit_at.Goals as goal

pub returns-then-low-b : goal.returns-then-low-b
returns-then-low-b c =
    record {
      value = digit-is c.args.low _ c.byte_at-b.result c.byte_at-b.ensures c.if-low-b.true;
      some = (omega (arith, digit-byte c.args.low c.byte_at-b.result c.if-low-b.true), digit-there _ _ _ _ c.requires c.byte_at-b.ensures c.if-low-b.true);
    }

pub returns-else-low-b : goal.returns-else-low-b
returns-else-low-b c = record { value = digit_not c.args.low _ c.byte_at-b.result c.byte_at-b.ensures c.if-low-b.false; some = tt }
