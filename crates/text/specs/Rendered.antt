-- Working definitions: nothing here has to be believed.
-- What is promised of a text that is put into a lent buffer. The buffer has 81,920 bytes: room for any text of 4,096 elements, whatever
-- the numbers of 16 bits in the tables are (proofs/Room.antt).
-- Laws: proofs/PutLaws.antt. Assumes nothing.
use Rattle.std.specs.Prelude.{ℕ, ◌+◌, ◌≤◌, ◌≡◌, Bool, cond, ltb, length, get_or}
use mathlib.Core.List.{List, flatten}
use Rattle.text.specs.Text.{element_lines, accepted_text}
use Rattle.terms.specs.Limits.{elements_most}
use Rattle.numbers.specs.Bits.{bit_at}
use Rattle.numbers.specs.Lists.{put_at}

-- How many bytes the buffer has.
abbrev pub buffer_size : ℕ
buffer_size = 81920

-- What putting bytes at an offset answers and leaves: the offset past them, and the list with them.
pub record Put (bytes out : List ℕ) (at r : ℕ) (after : List ℕ) : Type 0 where
  pub next_is : r ≡ at + length bytes
  pub bytes_are : after ≡ put_at out at bytes

-- The text stands at the front of the buffer, whole, the answer is its length, and the bytes past it are as they were.
pub record Rendered (text out : List ℕ) (r : ℕ) (after : List ℕ) : Type 0 where
  pub length_is : r ≡ length text
  pub fits : length text ≤ buffer_size
  pub bytes_are : after ≡ put_at out 0 text

-- The verdicts in a table of mark words: bit `last` of each.
abbrev pub verdict_in : (marks : List ℕ) (last : ℕ) → ℕ → Bool
verdict_in marks last k = bit_at (get_or marks k 0) last

-- The tables have 4,096 places: a larger number of elements counts as 4,096.
unfoldable pub clamped : ℕ → ℕ
clamped n = cond (ltb elements_most n) elements_most n

-- The lines of the first n elements, from the tables of labels, levels and mark words.
abbrev pub table_lines : (labels levels marks : List ℕ) (last n : ℕ) → List ℕ
table_lines labels levels marks last n = flatten (element_lines labels levels (verdict_in marks last) n)

-- The text of an accepted report, from the tables.
abbrev pub table_text : (labels levels marks : List ℕ) (last n selected : ℕ) → List ℕ
table_text labels levels marks last n selected = accepted_text labels levels (verdict_in marks last) (clamped n) selected
