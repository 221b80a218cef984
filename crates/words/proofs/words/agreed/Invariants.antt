use Prim.Native.Nat.{◌+◌}
use mathlib.Core.Path.{◌≡◌}
use lib.ListN.{drop}
use Rattle.paths.proofs.Descent.{agree}
use Rattle.words.proofs.words.agreed.Given as goal

abbrev pub invariant-loop-i : goal.invariant-loop-i
invariant-loop-i l = agree l.word (drop l.at l.s) ≡ l.i + agree (drop l.i l.word) (drop (l.at + l.i) l.s)
