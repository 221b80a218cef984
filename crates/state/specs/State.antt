-- The state's bytes, as document 01's section "One pass" lays them out: two-byte numbers for depth (at 0), elements (at 2) and root
-- closed (at 4), two bytes that are zero (at 6), and eight-byte words: presence (at 8), 64 open words (from 16), 64 last words (from
-- 528). The low byte comes first everywhere.
-- Shuts out: root closed read from one byte only; a field read where another stands.
-- Laws: proofs/GoodLaws.antt, proofs/StateLaws.antt. Assumes nothing.
use Rattle.std.specs.Prelude.{ℕ, ◌+◌, ◌*◌, ◌≡◌, Bool, ◌||◌, List, [], ◌∷◌, eqb, length, get_or}
use Rattle.meaning.specs.OnePass.{State}
use Rattle.fields.specs.Fields.{state_size, bad_size, bad_fields, GoodFields}
use Rattle.state.specs.Layout.{Group}
use Rattle.terms.specs.Limits.{levels_most}
use Rattle.numbers.specs.Bits.{bit_at}
use Rattle.numbers.specs.Bytes.{word_at}
use Rattle.numbers.specs.Lists.{listed}

-- The numbers at 0, 2 and 4.
abbrev pub depth_in : List ℕ → ℕ
depth_in s = word_at 2 s 0

abbrev pub elements_in : List ℕ → ℕ
elements_in s = word_at 2 s 2

abbrev pub root_in : List ℕ → ℕ
root_in s = word_at 2 s 4

-- A state that is not refused by 11: it has 1,040 bytes, and the numbers in front of its words pass their test.
pub record Good (s : List ℕ) : Type 0 where
  pub long : length s ≡ state_size
  pub fair : GoodFields (depth_in s) (elements_in s) (root_in s) (get_or s 6 0) (get_or s 7 0)

-- ==== Working definitions: nothing below has to be believed

-- The presence word at 8.
abbrev pub presence_in : List ℕ → ℕ
presence_in s = word_at 8 s 8

-- Where open word i and last word i stand.
abbrev pub open_place : ℕ → ℕ
open_place i = 16 + 8 * i

abbrev pub last_place : ℕ → ℕ
last_place i = 528 + 8 * i

-- The same as a layout: depth, elements, root closed, the two bytes that are zero; the presence word; open words; last words.
abbrev pub layout : List Group
layout =
    record { width = 2; count = 1 } ∷ record { width = 2; count = 1 } ∷ record { width = 2; count = 1 } ∷ record { width = 2; count = 1 }
    ∷ record { width = 8; count = 1 } ∷ record { width = 8; count = levels_most } ∷ record { width = 8; count = levels_most } ∷ []

-- The state of the step table that the bytes are: depth and elements, whether the root is closed, and for each of 64 levels the
-- presence bit, the open word and the last word.
unfoldable pub state_of : List ℕ → State
state_of s =
    record {
      depth = depth_in s;
      elements = elements_in s;
      root_closed = eqb (root_in s) 1;
      presence = listed levels_most (bit_at (presence_in s));
      open_words = listed levels_most (λ i. word_at 8 s (open_place i));
      last_words = listed levels_most (λ i. word_at 8 s (last_place i));
    }

-- A state that is refused by 11: it has not 1,040 bytes, or the numbers in front of its words are bad.
unfoldable pub bad : List ℕ → Bool
bad s = bad_size (length s) || bad_fields (depth_in s) (elements_in s) (root_in s) (get_or s 6 0) (get_or s 7 0)
