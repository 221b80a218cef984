use native.Mathlib.Omega.{arith}
use Rattle.words.proofs.WordLaws.{agree-fits, word-whole, word_cut}
use Rattle.words.proofs.words.fixed_at.Goals as goal

pub overflow_add-result : goal.overflow_add-result
overflow_add-result c = omega (arith, c.well_formed, c.agreed-k.ensures, agree-fits c.args.word.now c.args.s.now c.args.at)

pub overflow_add-result-else-k-word : goal.overflow_add-result-else-k-word
overflow_add-result-else-k-word c = omega (arith, c.well_formed, c.agreed-k.ensures, agree-fits c.args.word.now c.args.s.now c.args.at)

pub returns-then-k-word : goal.returns-then-k-word
returns-then-k-word c = word-whole c.args.word.now c.args.s.now c.args.at c.agreed-k.result c.agreed-k.ensures c.if-k-word.true

pub returns-else-k-word : goal.returns-else-k-word
returns-else-k-word c = word_cut c.args.word.now c.args.s.now c.args.at c.agreed-k.result c.agreed-k.ensures c.if-k-word.false
