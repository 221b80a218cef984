-- One record of a rule: the entry that it is, and the number that it gets. Document 01, "Records", and "Numbers given back", rows 2 to 4
-- and their order.
-- Shuts out: 3 before 2; a 65th entry taken; an entry that names itself or a later one.
-- Laws: proofs/TakenLaws.antt, and the crate grammar. Assumes nothing.
use Rattle.std.specs.Prelude.{ℕ, ◌+◌, Bool, false, cond, ◌||◌, ◌&&◌, List, leb}
use Rattle.numbers.specs.Bytes.{number_at}
use Rattle.terms.specs.Frame.{kind_at, broken_at}
use Rattle.terms.specs.Kinds.{row_of, rule_length}
use Rattle.terms.specs.declared.kind.Numbers.{Numbers}
use Rattle.terms.specs.declared.kind.Numbers.TheVariants.{Nothing, Label, Entries}
use Rattle.terms.specs.declared.kind.Row.{Row}
use Rattle.entry.specs.declared.entry.Entry.{Entry}
use Rattle.terms.specs.Limits.{entries_most, outside}

-- The entry whose record, of this row, stands at an offset: its kind, and the numbers of its body, 0 where it has none.
unfoldable pub entry_of : Row → List ℕ → ℕ → Entry
entry_of row s at =
    record {
      kind = kind_at s at;
      a = cond (leb 1 row.arguments) (number_at s (at + 4)) 0;
      b = cond (leb 2 row.arguments) (number_at s (at + 6)) 0;
    }

unfoldable pub entry_at : List ℕ → ℕ → Entry
entry_at s at = entry_of (row_of (kind_at s at)) s at

-- ==== Working definitions: nothing below has to be believed

-- Row 3: a label outside 1..999, or an entry number that is not below the entry's own. The row's number of arguments says how
-- many entry numbers there are.
unfoldable pub misdirected : Numbers → ℕ → ℕ → Entry → Bool
misdirected Nothing arguments own e = false
misdirected Label arguments own e = outside e.a
misdirected Entries arguments own e = leb own e.a || (leb 2 arguments && leb own e.b)

-- Rows 4, 2 and 3 at the record at an offset, as entry `own`: a 65th entry begins; the record is faulty; its numbers are misdirected.
abbrev pub row4 : ℕ → Bool
row4 own = leb entries_most own

abbrev pub row2 : List ℕ → ℕ → Bool
row2 s at = broken_at rule_length s at

abbrev pub row3 : List ℕ → ℕ → ℕ → Bool
row3 s own at = misdirected (row_of (kind_at s at)).numbers (row_of (kind_at s at)).arguments own (entry_at s at)

-- The number that the record gets, in the order 4, 2, 3; 0 where it has no fault.
unfoldable pub rule_fault : List ℕ → ℕ → ℕ → ℕ
rule_fault s own at = cond (row4 own) 4 (cond (row2 s at) 2 (cond (row3 s own at) 3 0))
