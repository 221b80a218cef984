use mathlib.Core.Path.{refl}
use native.Mathlib.Omega.{arith}
use Rattle.words.proofs.WordLaws.{word-says}
use Rattle.parse.proofs.PartLaws.{shut-missing, shut-there}
use Rattle.parse.proofs.tree.shut.Goals as goal

pub overflow_cast-result : goal.overflow_cast-result
overflow_cast-result c = let y = (word-says c.args.word.now c.args.s.now c.in-Done.e (rw c.in-Done.is at c.requires.0) c.fixed_at.ensures c.in-Err.is) in omega (arith, c.requires.1, y.0)

pub overflow_cast-result-in-Ok : goal.overflow_cast-result-in-Ok
overflow_cast-result-in-Ok c = let y = (word-says c.args.word.now c.args.s.now c.in-Done.e (rw c.in-Done.is at c.requires.0) c.fixed_at.ensures c.in-Ok.is) in omega (arith, c.requires.1, y.1)

pub returns-in-Err : goal.returns-in-Err
returns-in-Err c = shut-missing _ _ _ _ _ c.in-Done.is _ _ _ _ c.in-Err.is (word-says c.args.word.now c.args.s.now c.in-Done.e (rw c.in-Done.is at c.requires.0) c.fixed_at.ensures refl)

pub returns-in-Ok : goal.returns-in-Ok
returns-in-Ok c = shut-there _ _ _ _ _ c.in-Done.is _ _ _ _ c.in-Ok.is (word-says c.args.word.now c.args.s.now c.in-Done.e (rw c.in-Done.is at c.requires.0) c.fixed_at.ensures refl)
