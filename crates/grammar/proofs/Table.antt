-- The entries in a table: as many as asked for, and those that were put there.
-- Assumes nothing.
use Prim.Native.Nat.{ℕ, ◌≤◌, ◌<◌}
use native.Mathlib.Omega.{arith}
use mathlib.Core.Path.{◌≡◌, refl, sym, ap, ◌∙◌}
use mathlib.Core.List.{List}
use lib.ListN.{length, take, drop, get_or}
use lib.Seq.{take-append_seam, length-take-le}
use Rattle.numbers.specs.Lists.{over}
use Rattle.numbers.proofs.Lists.{listed-length, listed_at, listed-only, over-is, over-length}
use Rattle.std.proofs.lemmas.List.{get_or-take}
use Rattle.entry.specs.declared.entry.Entry.{Entry}
use Rattle.grammar.specs.Rules.{no_entry}
use Rattle.grammar.specs.Table.{entry_in, entries_in}

module _ (table : List Entry) where
  -- There are as many entries as asked for.
  pub table-length : (n : ℕ) → length (entries_in n table) ≡ n
  unfolding entries_in
  table-length n = listed-length n (entry_in table)

  -- Entry i is the one that stands at place i.
  pub table_at : (n i : ℕ) → i < n → get_or (entries_in n table) i no_entry ≡ entry_in table i
  unfolding entries_in
  table_at n i l = listed_at n (entry_in table) i no_entry l

  -- Where the table has n places, they are what stands in the first n of these.
  pub table-first : (n : ℕ) → n ≤ length table → entries_in n table ≡ take n table
  unfolding entries_in
  table-first n h =
      listed-only n (entry_in table) (take n table) no_entry (length-take-le n table h) (λ i l. sym (get_or-take n table i no_entry l))

-- Entries that were put into a table with room for them stand in its first places, and are found there.
pub table-taken : (es table : List Entry) → length es ≤ length table → take (length es) (over es table) ≡ es
table-taken es table h = ap (take (length es)) (over-is es table h) ∙ take-append_seam es (drop (length es) table)

pub table-of : (es table : List Entry) → length es ≤ length table → entries_in (length es) (over es table) ≡ es
table-of es table h = table-first (over es table) (length es) (omega (arith, over-length es table)) ∙ table-taken es table h
