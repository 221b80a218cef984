-- The state's fields as plain numbers, wherever they stand: which are bad, what an opening finds in them, and what an opening and a
-- closing leave there. Document 01, "One pass".
-- Shuts out: a cause of number 11 that is not tested; a cousin's word; the presence bit not cleared on opening; closing that forgets
-- root closed.
-- Laws: proofs/FieldLaws.antt. Assumes nothing.
use Rattle.std.specs.Prelude.{ℕ, ◌+◌, ◌≤◌, ◌≡◌, Bool, false, cond, not, ◌&&◌, ◌||◌, eqb, ltb}
use Rattle.terms.specs.Limits.{elements_most, levels_most}
use Rattle.numbers.specs.Bits.{bit_at, with_bit}

-- The size of a state.
abbrev pub state_size : ℕ
state_size = 1040

-- The numbers that a state not refused by 11 has, clause by clause: the depth is at most 64 and at most the elements, these are at most
-- 4,096; root closed is 0 or 1, and 1 only with nothing open; bytes 6 and 7 are zero.
pub record GoodFields (depth elements root six seven : ℕ) : Type 0 where
  pub shallow : depth ≤ levels_most
  pub within : depth ≤ elements
  pub few : elements ≤ elements_most
  pub flag : root ≤ 1
  pub shut : root ≡ 1 → depth ≡ 0
  pub spare : (six ≡ 0) × (seven ≡ 0)

-- ==== Working definitions: nothing below has to be believed

-- ---- what is refused by 11

-- The test for another size.
unfoldable pub bad_size : (size : ℕ) → Bool
bad_size size = not (eqb size state_size)

-- The test for numbers that are not so: the depth is above 64 or above the elements, or these are above 4,096; root closed is neither 0 nor 1, or is 1
-- with an element open; or byte 6 or byte 7 is not zero.
unfoldable pub bad_fields : (depth elements root six seven : ℕ) → Bool
bad_fields depth elements root six seven =
    ltb levels_most depth || ltb elements depth || ltb elements_most elements || ltb 1 root || (eqb root 1 && not (eqb depth 0))
    || not (eqb six 0 && eqb seven 0)

-- ---- what an opening finds

-- The previous sibling's word is last word d, and 0 where presence bit d is 0.
abbrev pub present_word : (presence d last : ℕ) → ℕ
present_word presence d last = cond (bit_at presence d) last 0

-- ---- what is left

-- Opening at depth d leaves no sibling on the level below: its presence bit goes, where there is such a level.
unfoldable pub cleared_below : (d presence : ℕ) → ℕ
cleared_below d presence = cond (ltb d 63) (with_bit (d + 1) false presence) presence

-- The root is closed where nothing is open now.
unfoldable pub root_after : (d root : ℕ) → ℕ
root_after d root = cond (eqb d 0) 1 root
