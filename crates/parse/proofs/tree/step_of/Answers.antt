use native.Mathlib.Omega.{arith}
use Rattle.spell.proofs.FormLaws.{entries-few, bytes-few}
use Rattle.parse.proofs.PartLaws.{small_of}
use Rattle.parse.proofs.tree.step_of.Goals as goal

pub overflow_add-k-in-Done : goal.overflow_add-k-in-Done
overflow_add-k-in-Done c = omega (arith, c.requires, c.own_entries-own.ensures, entries-few c.args.form, small_of _ _ _ _ _ c.in-Done.is c.requires.0)

pub note_row-requires : goal.note_row-requires
note_row-requires c = omega (arith, c.own_entries-own.ensures, entries-few c.args.form)

pub overflow_add-result : goal.overflow_add-result
overflow_add-result c = omega (arith, c.requires, c.own_entries-own.ensures, entries-few c.args.form, small_of _ _ _ _ _ c.in-Done.is c.requires.0)

pub overflow_add-result-in-Done : goal.overflow_add-result-in-Done
overflow_add-result-in-Done c = omega (arith, c.requires, c.own_bytes.ensures, entries-few c.args.form, bytes-few c.args.form, small_of _ _ _ _ _ c.in-Done.is c.requires.0)
