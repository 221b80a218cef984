use native.Mathlib.Omega.{arith}
use Rattle.words.proofs.WordLaws.{agree-past, agree-ended, agree-differs, agree_same}
use Rattle.words.proofs.words.agreed.Goals as goal

pub returns-then-s-at : goal.returns-then-s-at
returns-then-s-at c = agree-past c.args.word.now c.args.s.now c.args.at (omega arith)

pub returns-then-s-at-2 : goal.returns-then-s-at-2
returns-then-s-at-2 c = omega (arith, agree-differs c.args.word.now c.args.s.now c.args.at c.loop-i.i (omega arith) (omega arith) c.if-s-at-2.true)

pub loop-i-preserved : goal.loop-i-preserved
loop-i-preserved c = omega (arith, agree_same c.args.word.now c.args.s.now c.args.at c.loop-i.i (omega arith) (omega arith) c.if-s-at-2.false)

pub returns : goal.returns
returns c = omega (arith, agree-ended c.args.word.now c.args.s.now c.args.at c.loop-i.i (λ l. omega arith))
