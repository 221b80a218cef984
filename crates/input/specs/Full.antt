-- Working definitions: nothing here has to be believed.
-- A buffer filled from a reader, whose bytes are known where it says what it has.
-- Shuts out: bytes left out, made up or out of order; an end that is none.
use Rattle.std.specs.Prelude.{ℕ, ◌≤◌, ◌<◌, List, length, take, Option}
use Rattle.std.specs.Io.KnownBytes.{Consumes, IsAtEnd}

-- The first n bytes of the buffer are those that the reader had next and has no more, and only the input's end leaves room.
pub record ReadFully (old new : Option (List ℕ)) (n : ℕ) (buf : List ℕ) : Type 0 where
  pub within : n ≤ length buf
  pub bytes : Consumes old new (take n buf)
  pub whole : n < length buf → IsAtEnd new
