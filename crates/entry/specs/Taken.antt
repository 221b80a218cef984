-- Working definitions: nothing here has to be believed.
-- What the record at an offset is taken for as an entry: without a fault, its entry and where the next record begins; else the fault,
-- whose number is the record's. Document 01, "Numbers given back", rows 2 to 4.
-- Laws: proofs/TakenLaws.antt, proofs/Only.antt. Assumes nothing.
use Rattle.std.specs.Prelude.{ℕ, ◌≡◌, true, false, List, Result, Ok, Err}
use Rattle.terms.specs.Answer.{number_of_fault}
use Rattle.terms.specs.Frame.{next_of}
use Rattle.terms.specs.declared.kind.Row.{Row}
use Rattle.terms.specs.declared.refusal.Fault.{Fault}
use Rattle.entry.specs.Entry.{entry_at, misdirected, rule_fault}
use Rattle.entry.specs.declared.entry.Entry.{Entry}
use Rattle.entry.specs.declared.entry.Taken.{Taken}

abbrev pub EntryTaken : (s : List ℕ) (own at : ℕ) → Result Taken Fault → Type 0
EntryTaken s own at (Ok t) = (rule_fault s own at ≡ 0) × (t.entry ≡ entry_at s at) × (t.next ≡ next_of s at)
EntryTaken s own at (Err f) = number_of_fault f ≡ rule_fault s own at

-- The same of a record that is whole, by its row and its entry alone: row 3 decides.
abbrev pub EntryJudged : Row → (own : ℕ) → Entry → (next : ℕ) → Result Taken Fault → Type 0
EntryJudged row own e next (Ok t) = (misdirected row.numbers row.arguments own e ≡ false) × (t.entry ≡ e) × (t.next ≡ next)
EntryJudged row own e next (Err f) = (misdirected row.numbers row.arguments own e ≡ true) × (number_of_fault f ≡ 3)
