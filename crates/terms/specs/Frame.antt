-- Whether one record stands whole at one offset: rows 2 and 6 of document 01's table of numbers, which have the same words.
-- Shuts out: a record taken with fewer than 4 bytes left, of an unknown kind, of a wrong length, or running past the end.
-- Laws: proofs/FrameLaws.antt, and the crate grammar. Assumes nothing.
use Rattle.std.specs.Prelude.{ℕ, zero, suc, ◌+◌, Bool, true, false, cond, not, ◌||◌, List, ltb, eqb, length}
use Rattle.numbers.specs.Bytes.{number_at}

-- The kind of the record at an offset.
abbrev pub kind_at : List ℕ → ℕ → ℕ
kind_at s at = number_at s (at + 2)

-- Where the next record begins: after the two bytes of the length and as many bytes as it says.
unfoldable pub next_of : List ℕ → ℕ → ℕ
next_of s at = at + 2 + number_at s at

-- Where record i begins; record 0 is the first.
unfoldable pub start_of : List ℕ → ℕ → ℕ
start_of s zero = 0
start_of s (suc i) = next_of s (start_of s i)

-- ==== Working definitions: nothing below has to be believed

-- A record is whole, or cut short (fewer than 4 bytes left, or running past the end), or garbled (an unknown kind, or another length
-- than its kind's).
pub data Frame : Type 0 where
  Whole : Frame
  Cut : Frame
  Garbled : Frame

-- The record at an offset, where a record of its kind has the expected length (0: there is no such kind): cut short with fewer
-- than 4 bytes left, or running past the end; garbled with an unknown kind or another length than its kind's; else whole.
unfoldable pub frame_of : List ℕ → ℕ → ℕ → Frame
frame_of s at expected =
    cond (ltb (length s) (at + 4)) Cut
    (cond (eqb expected 0) Garbled
    (cond (eqb (number_at s at) expected) (cond (ltb (length s) (at + 2 + expected)) Cut Whole) Garbled))

-- A record that is not whole.
abbrev pub broken : Frame → Bool
broken Whole = false
broken Cut = true
broken Garbled = true

-- Rows 2 and 6: the record at an offset is not whole, where `lengths` gives the length of each kind, 0 for a number that is no kind.
abbrev pub broken_at : (ℕ → ℕ) → List ℕ → ℕ → Bool
broken_at lengths s at = broken (frame_of s at (lengths (kind_at s at)))

-- Reading stops at record i, where `fault` gives each record's number: the string ends there, or the record is at fault.
abbrev pub stops_at : (ℕ → ℕ) → List ℕ → ℕ → Bool
stops_at fault s i = eqb (start_of s i) (length s) || not (eqb (fault i) 0)
