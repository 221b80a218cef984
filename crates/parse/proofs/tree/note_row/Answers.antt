use native.Mathlib.Omega.{arith}
use Rattle.parse.proofs.PartLaws.{row-filled, row-none}
use Rattle.parse.proofs.tree.note_row.Goals as goal

pub returns-then-n-le-ROWS : goal.returns-then-n-le-ROWS
returns-then-n-le-ROWS c = row-filled _ _ _ _ _ (omega arith)

pub returns-else-n-le-ROWS : goal.returns-else-n-le-ROWS
returns-else-n-le-ROWS c = row-none _ _ _ _ _ (omega arith)
