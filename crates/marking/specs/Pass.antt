-- Working definitions: nothing here has to be believed.
-- What a pass over the words of n elements leaves: all of them, and each with one bit more.
-- Shuts out: a word left out; another entry's bit changed.
-- Laws: proofs/PassLaws.antt. Assumes nothing.
use Rattle.std.specs.Prelude.{ℕ, ◌+◌, ◌*◌, ◌^◌, ◌≤◌, ◌<◌, ◌≡◌, Bool, List, length, get_or}
use Rattle.entry.specs.declared.entry.Entry.{Entry}
use Rattle.grammar.specs.Legal.{LegalLevels}
use Rattle.meaning.specs.Marks.{words, selected}
use Rattle.layout.specs.Links.{Linked}
use Rattle.terms.specs.Limits.{elements_most}
use Rattle.numbers.specs.Lists.{over}
use Rattle.numbers.specs.Bits.{bit, bit_at, word_bits}

-- There are as many words as before, and the first n are w.
pub record Stored (n : ℕ) (w : ℕ → ℕ) (before after : List ℕ) : Type 0 where
  pub long : length after ≡ length before
  pub put : (s : ℕ) → s < n → get_or after s 0 ≡ w s

-- Bit i of the first n words is m, above the bits that stood there.
pub record Passed (n i : ℕ) (m : ℕ → Bool) (before after : List ℕ) : Type 0 where
  pub stored : Stored n (λ s. bit (m s) * 2 ^ i + get_or before s 0) before after

-- A pass for entry i over the words of n elements has room: there are n words, they have bits below i only, and i is a bit of a word.
pub record Room (n i : ℕ) (ws : List ℕ) : Type 0 where
  pub few : n ≤ elements_most
  pub all : length ws ≡ n
  pub top : i < word_bits
  pub small : (s : ℕ) → s < n → get_or ws s 0 < 2 ^ i

-- The columns are those of a report whose elements have these levels.
pub record Columns (levels labels ups lefts : List ℕ) : Type 0 where
  pub legal : LegalLevels levels
  pub linked : Linked levels ups lefts
  pub long : length labels ≡ length levels

-- Bit a of each word.
abbrev pub bits_of : List ℕ → ℕ → ℕ → Bool
bits_of ws a s = bit_at (get_or ws s 0) a

-- What marking a report answers and leaves: the words of its elements and past them what stood there, and the selected count.
pub record Marked (entries : List Entry) (levels labels before : List ℕ) (r : ℕ) (after : List ℕ) : Type 0 where
  pub marks_are : after ≡ over (words entries levels labels) before
  pub selected_is : r ≡ selected (length entries) (words entries levels labels)
