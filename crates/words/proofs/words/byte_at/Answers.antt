use native.Mathlib.Omega.{arith}
use Rattle.words.proofs.WordLaws.{head_in, head-out}
use Rattle.words.proofs.words.byte_at.Goals as goal

pub returns-then-at-s : goal.returns-then-at-s
returns-then-at-s c = head_in c.args.s.now c.args.at (omega arith)

pub returns-else-at-s : goal.returns-else-at-s
returns-else-at-s c = head-out c.args.s.now c.args.at (omega arith)
