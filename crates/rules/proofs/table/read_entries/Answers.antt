-- `read_entries`: the table sees the entries. Assumes nothing.
use mathlib.Core.Path.{◌∙◌}
use Rattle.rules.proofs.EntryLaws.{seen-stored}
use Rattle.rules.proofs.table.read_entries.Goals as goal

pub returns : goal.returns
returns c =
    record { answer = c.visit_entries.ensures.answer; table_is = c.visit_entries.ensures.visitor ∙ seen-stored _ _ 0 }
