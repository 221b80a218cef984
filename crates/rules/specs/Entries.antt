-- Working definitions: nothing here has to be believed.
-- What an accepted rule holds, as the list of entries that the layers above work on. Document 01, "Records".
-- Laws: proofs/EntryLaws.antt, and the crate grammar. Assumes nothing.
use Rattle.std.specs.Prelude.{ℕ, suc, ◌≡◌, cond, List, [], ◌∷◌}
use Rattle.terms.specs.Answer.{count_of, Answer}
use Rattle.numbers.specs.First.{first}
use Rattle.terms.specs.Frame.{start_of}
use Rattle.entry.specs.Entry.{entry_at}
use Rattle.rules.specs.Rule.{rule_stops, rule_answer}
use Rattle.entry.specs.declared.entry.Entry.{Entry}
use Rattle.terms.specs.Limits.{rule_most, entries_most, missized}
use Rattle.numbers.specs.Lists.{listed, over}

-- The entries of the first n records.
abbrev pub entries_before : List ℕ → ℕ → List Entry
entries_before s n = listed n (λ i. entry_at s (start_of s i))

-- The entries of an accepted rule; none of a refused one.
unfoldable pub entries_of : List ℕ → List Entry
entries_of s = entries_before s (count_of (rule_answer s))

-- The entries up to where reading stops; a rule of no byte or of too many is not read.
unfoldable pub entries_read : List ℕ → List Entry
entries_read s = cond (missized rule_most s) [] (entries_before s (first (rule_stops s) entries_most))

-- What seeing entries makes of a visitor that sees them in order, where `then` says what one makes of it; the first is entry i.
module _ {V : Type 0} (then : V → ℕ → Entry → V) where
  unfoldable pub seen_from : V → ℕ → List Entry → V
  seen_from v i [] = v
  seen_from v i (e ∷ es) = seen_from (then v i e) (suc i) es

  abbrev pub seen : V → List Entry → V
  seen v es = seen_from v 0 es

-- What reading the entries answers and leaves in the lent table: one walk, so that a refused rule leaves the entries before its fault.
pub record EntriesTaken (s : List ℕ) (table : List Entry) (r : Answer) (table' : List Entry) : Type 0 where
  pub answer : r ≡ rule_answer s
  pub table_is : table' ≡ over (entries_read s) table
