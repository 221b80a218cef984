-- Working definitions: nothing here has to be believed.
-- A buffer that is filled from its front with the records of a table, and changes of the table that it has room for: what a writer asks and
-- promises that puts part behind part. Nothing here has to be believed: it is how the writer's functions speak to each other.
-- Laws: proofs/Changes.antt, proofs/PartLaws.antt. Assumes nothing.
use Rattle.std.specs.Prelude.{ℕ, ◌≤◌, ◌<◌, ◌≡◌, List, ◌++◌, length}
use Rattle.entry.specs.declared.entry.Entry.{Entry}
use Rattle.grammar.specs.Rules.{rule_bytes}
use Rattle.text.specs.Rendered.{Put}
use Rattle.terms.specs.Limits.{entries_most}
use Rattle.spell.specs.declared.own.Written.{Written}
use Rattle.spell.specs.Forms.{own_entries}

-- What a table becomes.
abbrev pub Change : Type 0
Change = List Entry → List Entry

-- A part's own entries more.
unfoldable pub part_entries : (form argument : ℕ) → Change
part_entries form argument es = es ++ own_entries form argument (length es)

-- The rule that was `before` has been filled with a table's records.
pub record Filled (before : List ℕ) (es : List Entry) (rule : List ℕ) (w : Written) : Type 0 where
  pub entries_are : w.entries ≡ length es
  pub bytes_are : Put (rule_bytes es) before 0 w.bytes rule

-- There is room for what a change makes of the table.
pub record Asks (f : Change) (rule : List ℕ) (w : Written) : Type 0 where
  pub before : List ℕ
  pub es : List Entry
  pub filled : Filled before es rule w
  pub few : length (f es) ≤ entries_most
  pub room : length (rule_bytes (f es)) ≤ length rule

-- Whatever the table was, its change has been made, which put an entry or more.
pub record Puts (f : Change) (rule : List ℕ) (w : Written) (rule' : List ℕ) (w' : Written) : Type 0 where
  pub more : w.entries < w'.entries
  pub fills : (before : List ℕ) (es : List Entry) → Filled before es rule w → Filled before (f es) rule' w'
