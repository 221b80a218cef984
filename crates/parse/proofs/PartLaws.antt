-- Laws of the functions that make a part of another, and of the rows: one for each return, over plain lists and numbers.
-- Assumes nothing.
use Prim.Native.Nat.{ℕ, zero, suc, ◌+◌, ◌-◌, ◌≤◌, ◌<◌}
use mathlib.Core.Path.{◌≡◌, refl}
use mathlib.Core.Bool.{Bool, true, false}
use mathlib.Core.List.{List}
use borrow.Author.Tests.{le-leb, lt-leb}
use lib.ListN.{set}
use Rattle.parse.specs.declared.tree.Row.{Row}
use Rattle.std.specs.Prelude.{Result, Ok, Err}
use Rattle.words.specs.declared.words.Stray.{Stray}
use Rattle.parse.specs.declared.tree.Parsed.{Parsed}
use Rattle.parse.specs.declared.tree.Parsed.TheVariants.{Done, Bad}
use Rattle.words.specs.Begins.{leaf_tree}
use Rattle.words.proofs.Reading.{WordAt}
use Rattle.parse.specs.Rows.{note_row, note_t}
use Rattle.parse.specs.Promises.{leaf_bytes, Small, Shut}
use Rattle.terms.specs.Limits.{entries_most}
use Rattle.paths.specs.Answer.{text_most}

-- ---- rows

module _ (rows : List Row) (n form a b : ℕ) where
  pub row-filled : n ≤ entries_most → set rows (n - 1) (record { form = form; first = a; second = b }) ≡ note_row rows n form a b
  unfolding note_row
  row-filled l = rw (le-leb n entries_most l)

  pub row-none : entries_most < n → rows ≡ note_row rows n form a b
  unfolding note_row
  row-none l = rw (lt-leb n entries_most l)

-- ---- parts

-- The numbers of a part that was read are small.
pub small_of : (p : Parsed) (e : ℕ) (v : Bool) (n b : ℕ) → p ≡ Done e v n b → Small p → (n ≤ text_most) × (b ≤ 8192)
small_of p e v n b q h = rw q at h

module _ (e label k : ℕ) (rows after : List Row) where
  pub leaf-true : label ≡ 0 → after ≡ note_row rows (k + 1) 1 0 0
      → (Done e true 1 4 ≡ Done e true 1 (leaf_bytes label)) × (after ≡ note_t (leaf_tree label) k rows)
  unfolding leaf_bytes leaf_tree note_t
  leaf-true z h = rw z (refl, h)

pub leaf-label : (e label k : ℕ) (rows after : List Row) → (label ≡ 0 → ⊥) → after ≡ note_row rows (k + 1) 2 label 0
    → (Done e true 1 6 ≡ Done e true 1 (leaf_bytes label)) × (after ≡ note_t (leaf_tree label) k rows)
unfolding leaf_bytes leaf_tree note_t
leaf-label e zero k rows after z h = absurd (z refl)
leaf-label e (suc l) k rows after z h = (refl, h)

module _ (p : Parsed) (e : ℕ) (v : Bool) (n b : ℕ) (done : p ≡ Done e v n b) where
  pub shut-missing : (x s : List ℕ) (q : Stray) (w : Result ℕ Stray) → w ≡ Err q → WordAt x s e w → Shut x s p (Bad q.place)
  shut-missing x s q w j h = rw done (Err q, rw j at h, refl)

  pub shut-there : (x s : List ℕ) (f : ℕ) (w : Result ℕ Stray) → w ≡ Ok f → WordAt x s e w → Shut x s p (Done f false n b)
  shut-there x s f w j h = rw done (Ok f, rw j at h, refl)
