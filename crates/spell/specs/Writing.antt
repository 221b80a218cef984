-- Working definitions: nothing here has to be believed.
-- What the writer over the lent buffer promises of each of its steps.
-- Assumes nothing.
use Rattle.std.specs.Prelude.{ℕ, ◌≡◌, List}
use Rattle.entry.specs.declared.entry.Entry.{Entry}
use Rattle.text.specs.Rendered.{Put}
use Rattle.spell.specs.declared.put.Writer.{Writer}
use Rattle.spell.specs.Promises.{Spelt}

-- The bytes stand at the writer's offset, the offset is past them, and the buffer is the one that was lent.
pub record Writes (bytes : List ℕ) (w after : Writer) : Type 0 where
  pub put : Put bytes w.out.now w.at after.at after.out.now
  pub same_buffer : after.out.ghost_name ≡ w.out.ghost_name

-- The same of the records of entries.
pub record Spells (es : List Entry) (w after : Writer) : Type 0 where
  pub spelt : Spelt es w.out.now w.at after.at after.out.now
  pub same_buffer : after.out.ghost_name ≡ w.out.ghost_name
