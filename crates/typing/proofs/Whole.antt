-- The whole rule: what the writer is given, and what it leaves. Assumes nothing.
use Prim.Native.Nat.{ℕ, ◌≤◌}
use mathlib.Core.Path.{◌≡◌, refl}
use mathlib.Core.List.{List, []}
use native.Mathlib.Nat.{zero-add}
use lib.ListN.{length}
use Rattle.grammar.specs.Rules.{rule_bytes}
use Rattle.text.proofs.PutLaws.{put-none}
use Rattle.paths.specs.Syntax.{Test}
use Rattle.paths.specs.Translation.{put_t, table_of}
use Rattle.spell.specs.declared.own.Written.{Written}
use Rattle.spell.specs.Filled.{Filled, Asks, Puts}
use Rattle.terms.specs.Limits.{entries_most}
use Rattle.numbers.specs.Lists.{over}

-- Nothing is written yet.
abbrev pub nothing : Written
nothing = record { entries = 0; bytes = 0 }

-- It fills the buffer with no record.
none_filled : (rule : List ℕ) → Filled rule [] rule nothing
unfolding rule_bytes
none_filled rule = record { entries_are = refl; bytes_are = rw zero-add at (put-none rule 0) }

module _ (rule : List ℕ) (t : Test) where
  -- There is room for the test's table.
  pub whole-asks : length (table_of t) ≤ entries_most → length (rule_bytes (table_of t)) ≤ length rule → Asks (put_t t) rule nothing
  unfolding table_of
  whole-asks few room = record { before = rule; es = []; filled = none_filled rule; few = few; room = room }

  -- The rule's bytes stand at the front of the buffer, and every byte past them as it was.
  pub whole-puts : {after : List ℕ} {w : Written} → Puts (put_t t) rule nothing after w → after ≡ over (rule_bytes (table_of t)) rule
  unfolding table_of
  whole-puts p = (p.fills rule [] (none_filled rule)).bytes_are.bytes_are
