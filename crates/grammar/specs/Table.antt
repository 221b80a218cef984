-- Working definitions: nothing here has to be believed.
-- The entries of a rule in a table, as the reader fills it: which stand in its first places.
-- Laws: proofs/Table.antt. Assumes nothing.
use Rattle.std.specs.Prelude.{ℕ, List, get_or}
use Rattle.numbers.specs.Lists.{listed}
use Rattle.entry.specs.declared.entry.Entry.{Entry}
use Rattle.grammar.specs.Rules.{no_entry}

-- Entry i of a table; past its end there is none.
abbrev pub entry_in : List Entry → ℕ → Entry
entry_in table i = get_or table i no_entry

-- The first n entries that a table holds.
unfoldable pub entries_in : ℕ → List Entry → List Entry
entries_in n table = listed n (entry_in table)
