-- The rows of document 01's table of numbers as propositions, and when exactly each number is given, and where.
-- Laws: proofs/Refusals.antt. Assumes nothing.
use Rattle.std.specs.Prelude.{ℕ, ◌+◌, ◌≤◌, ◌<◌, ◌≡◌, ◌⊎◌, List, length}
use Rattle.numbers.specs.Bytes.{number_at}
use Rattle.terms.specs.Frame.{kind_at, start_of}
use Rattle.terms.specs.Kinds.{row_of, rule_length}
use Rattle.tag.specs.Record.{report_length, tag_at}
use Rattle.reports.specs.Report.{tags_before}
use Rattle.entry.specs.Entry.{entry_at}
use Rattle.tag.specs.Tags.{Tag, opens, closes, depth, opened_count}
use Rattle.terms.specs.declared.kind.Numbers.TheVariants.{Label, Entries}
use Rattle.terms.specs.declared.kind.Row.{Row}
use Rattle.entry.specs.declared.entry.Entry.{Entry}
use Rattle.terms.specs.Limits.{label_most, rule_most, entries_most, report_most, elements_most, levels_most}

-- Rows 1 and 5 do not apply: the string has 1 byte or more, and not more than `most`.
pub record Sized (most : ℕ) (s : List ℕ) : Type 0 where
  pub some : 1 ≤ length s
  pub few : length s ≤ most

-- Rows 2 and 6: the record at an offset has fewer than 4 bytes left, an unknown kind, a wrong length for its kind, or runs past the
-- end. `lengths` gives each kind's length, 0 where there is no such kind.
pub data Faulty (lengths : ℕ → ℕ) (s : List ℕ) (at : ℕ) : Type 0 where
  few-left : length s < at + 4 → Faulty lengths s at
  unknown-kind : lengths (kind_at s at) ≡ 0 → Faulty lengths s at
  wrong-length : (number_at s at ≡ lengths (kind_at s at) → ⊥) → Faulty lengths s at
  past_end : length s < at + 2 + number_at s at → Faulty lengths s at

-- A label outside 1..999.
abbrev pub Outside : ℕ → Type 0
Outside label = (label < 1) ⊎ (label_most < label)

-- Row 3: an entry of this row has an entry number that is not below its own, or a label outside 1..999.
pub data Misdirected (row : Row) (own : ℕ) (e : Entry) : Type 0 where
  bad-label : row.numbers ≡ Label → Outside e.a → Misdirected row own e
  bad-a : row.numbers ≡ Entries → own ≤ e.a → Misdirected row own e
  bad-b : row.numbers ≡ Entries → 2 ≤ row.arguments → own ≤ e.b → Misdirected row own e

-- Row 3 at a record, as the record of entry `own`: the entry that it holds is misdirected.
abbrev pub MisdirectedAt : List ℕ → ℕ → ℕ → Type 0
MisdirectedAt s own at = Misdirected (row_of (kind_at s at)) own (entry_at s at)

-- Record i is reached, where `Row` says whether a row applies to a record: record i begins at p, bytes stand there, and no row applies
-- to a record before it. So where a row applies to it, it is the first such record in byte order.
pub record Reached (Row : ℕ → Type 0) (s : List ℕ) (i p : ℕ) : Type 0 where
  pub begins : start_of s i ≡ p
  pub there : p < length s
  pub clean : (j : ℕ) → j < i → Row j → ⊥

-- The string ends between records, with i of them, and no row applies to any.
pub record Ended (Row : ℕ → Type 0) (s : List ℕ) (i : ℕ) : Type 0 where
  pub at_end : start_of s i ≡ length s
  pub clean : (j : ℕ) → j < i → Row j → ⊥

-- A row applies to record i of a rule, whichever: it is a 65th entry, it is faulty, or its numbers are misdirected.
pub data RuleRow (s : List ℕ) (i : ℕ) : Type 0 where
  in-row-4 : entries_most ≤ i → RuleRow s i
  in-row-2 : Faulty rule_length s (start_of s i) → RuleRow s i
  in-row-3 : MisdirectedAt s i (start_of s i) → RuleRow s i

-- The rule is refused by this number at this place. Row 1 by its size; rows 2, 3 and 4 at the first record to which a row applies, in
-- the order 4, 2, 3, where it begins.
pub data RuleRefused (s : List ℕ) : (number place : ℕ) → Type 0 where
  row-1 : (length s ≡ 0) ⊎ (rule_most < length s) → RuleRefused s 1 0
  row-2 : {i p : ℕ} → Sized rule_most s → Reached (RuleRow s) s i p → i < entries_most → Faulty rule_length s p → RuleRefused s 2 p
  row-3 : {i p : ℕ} → Sized rule_most s → Reached (RuleRow s) s i p → i < entries_most → (Faulty rule_length s p → ⊥) → MisdirectedAt s i p
      → RuleRefused s 3 p
  row-4 : {p : ℕ} → Sized rule_most s → Reached (RuleRow s) s entries_most p → RuleRefused s 4 p

-- Row 6 at a tag: an opening with a label outside 1..999.
pub data Mislabelled : Tag → Type 0 where
  bad-tag : {label : ℕ} → Outside label → Mislabelled (opens label)

-- Row 7 at a tag: a closing with nothing open, or an opening after the root closed, which is where elements have been opened and
-- none is open.
pub data Unbalanced (depth elements : ℕ) : Tag → Type 0 where
  nothing-open : depth ≡ 0 → Unbalanced depth elements closes
  root-closed : {label : ℕ} → depth ≡ 0 → 0 < elements → Unbalanced depth elements (opens label)

-- Row 8 at a tag: an opening at level 64, or of a 4,097th element.
pub data TooMuch (depth elements : ℕ) : Tag → Type 0 where
  too-deep : {label : ℕ} → levels_most ≤ depth → TooMuch depth elements (opens label)
  too_many : {label : ℕ} → elements_most ≤ elements → TooMuch depth elements (opens label)

-- Row 6 at the record that begins at an offset: it is faulty as in row 2, or its label is outside 1..999.
abbrev pub Row6 : List ℕ → ℕ → Type 0
Row6 s at = Faulty report_length s at ⊎ Mislabelled (tag_at s at)

-- Row 7 at a record before which so many elements are open and so many have been opened: row 6 does not apply, and it closes with
-- nothing open or opens after the root closed.
pub record Row7 (s : List ℕ) (at depth elements : ℕ) : Type 0 where
  pub not_6 : Row6 s at → ⊥
  pub unbalanced : Unbalanced depth elements (tag_at s at)

-- Row 8 at a record: rows 6 and 7 do not apply, and it opens at level 64, or a 4,097th element.
pub record Row8 (s : List ℕ) (at depth elements : ℕ) : Type 0 where
  pub not_6 : Row6 s at → ⊥
  pub not_7 : Unbalanced depth elements (tag_at s at) → ⊥
  pub too_much : TooMuch depth elements (tag_at s at)

-- A row applies to record i of a report, whichever; how many elements are open before it and how many have been opened is read off
-- the tags before it.
pub data ReportRow (s : List ℕ) (i : ℕ) : Type 0 where
  in-row-6 : Row6 s (start_of s i) → ReportRow s i
  in-row-7 : Unbalanced (depth (tags_before s i)) (opened_count (tags_before s i)) (tag_at s (start_of s i)) → ReportRow s i
  in-row-8 : TooMuch (depth (tags_before s i)) (opened_count (tags_before s i)) (tag_at s (start_of s i)) → ReportRow s i

-- The report is refused by this number at this place. Row 5 by its size; rows 6, 7 and 8 at the first record to which a row applies, in
-- this order, where it begins; and row 7 where no row applies to a record and the report ends with an element open, at its length.
pub data ReportRefused (s : List ℕ) : (number place : ℕ) → Type 0 where
  row-5 : (length s ≡ 0) ⊎ (report_most < length s) → ReportRefused s 5 0
  row-6 : {i p : ℕ} → Sized report_most s → Reached (ReportRow s) s i p → Row6 s p → ReportRefused s 6 p
  row-7 : {i p : ℕ} → Sized report_most s → Reached (ReportRow s) s i p → Row7 s p (depth (tags_before s i)) (opened_count (tags_before s i))
      → ReportRefused s 7 p
  row-7-end : {i : ℕ} → Sized report_most s → Ended (ReportRow s) s i → 0 < depth (tags_before s i) → ReportRefused s 7 (length s)
  row-8 : {i p : ℕ} → Sized report_most s → Reached (ReportRow s) s i p → Row8 s p (depth (tags_before s i)) (opened_count (tags_before s i))
      → ReportRefused s 8 p
