use native.Mathlib.Omega.{arith}
use Rattle.words.proofs.WordLaws.{number-fits}
use Rattle.words.proofs.begins.label_at.Goals as goal

pub overflow_add-result : goal.overflow_add-result
overflow_add-result c = omega (arith, c.well_formed, number-fits c.args.s.now c.args.end c.numeral_at.result c.in-Some.n c.numeral_at.ensures c.in-Some.is)
