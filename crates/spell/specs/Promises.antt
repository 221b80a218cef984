-- Working definitions: nothing here has to be believed.
-- What is promised of entries put behind what is written in a lent buffer. `put_part` promises `PartPut`, which is `Adds` of `added`: where
-- the part's own entries fit, their records stand behind what was written, every other byte is as it was, and they are counted; where they
-- do not, nothing is put, so every byte and both counts are as they were.
-- Shuts out: a byte past the records changed; a record past the buffer's end or past entry 64; a form that is none.
-- Laws: proofs/Adding.antt (one result only: `adds-only`), proofs/PartLaws.antt. Assumes nothing.
use Rattle.std.specs.Prelude.{ℕ, ◌+◌, ◌-◌, ◌≤◌, ◌≡◌, Bool, cond, ◌||◌, ◌&&◌, List, [], leb, length}
use Rattle.entry.specs.declared.entry.Entry.{Entry}
use Rattle.grammar.specs.Rules.{body_of, rule_bytes}
use Rattle.text.specs.Rendered.{Put}
use Rattle.paths.specs.Translation.{entry}
use Rattle.terms.specs.Limits.{entries_most}
use Rattle.spell.specs.declared.own.Written.{Written}
use Rattle.spell.specs.Forms.{own_entries, form_entries, form_bytes}

-- The bytes of a record's body, of a kind with so many numbers.
abbrev pub numbers : (arguments a b : ℕ) → List ℕ
numbers arguments a b = body_of arguments (entry 0 a b)

-- So many entries are written, and so many bytes.
abbrev pub written : (entries bytes : ℕ) → Written
written entries bytes = record { entries = entries; bytes = bytes }

-- There are bytes left for the records of these, from an offset on.
pub record RoomFor (es : List Entry) (rule : List ℕ) (at : ℕ) : Type 0 where
  pub enough : at + length (rule_bytes es) ≤ length rule

-- Their records are put there, and the offset past them is answered.
pub record Spelt (es : List Entry) (rule : List ℕ) (at r : ℕ) (after : List ℕ) : Type 0 where
  pub bytes_are : Put (rule_bytes es) rule at r after

-- They are put behind what was written, and what is written has so many entries and bytes more.
pub record Adds (es : List Entry) (rule : List ℕ) (w : Written) (after : List ℕ) (w' : Written) : Type 0 where
  pub count_is : w'.entries ≡ w.entries + length es
  pub spelt : Spelt es rule w.bytes w'.bytes after

-- A part of the form can be put behind what is written in a buffer of so many bytes: it is a form; from "not" on, where a form names entries,
-- an entry is written; and there are entries and bytes left for its own.
unfoldable pub part_fits : (form size : ℕ) (w : Written) → Bool
part_fits form size w =
    (((leb 1 form && leb form 17) && (leb form 2 || leb 1 w.entries)) && leb (w.entries + form_entries form) entries_most)
    && leb (form_bytes form) (size - w.bytes)

-- What is added: the part's own entries, where they fit, and else none.
unfoldable pub added : (form argument size : ℕ) (w : Written) → List Entry
added form argument size w = cond (part_fits form size w) (own_entries form argument w.entries) []

-- What `put_part` promises.
abbrev pub PartPut : (form argument : ℕ) (rule : List ℕ) (w : Written) (after : List ℕ) (w' : Written) → Type 0
PartPut form argument rule w after w' = Adds (added form argument (length rule) w) rule w after w'
