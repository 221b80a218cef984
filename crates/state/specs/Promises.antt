-- Working definitions: nothing here has to be believed.
-- What an opening reads of the state's bytes, and what start, an opening and a closing answer from them alone and leave in them.
-- Document 01, "One pass".
-- Shuts out: refuse everything; a refused call that writes; a word read past the last level.
-- Laws: proofs/NumberLaws.antt, proofs/Only.antt. Assumes nothing.
use Rattle.std.specs.Prelude.{ℕ, pred, ◌≡◌, Bool, cond, not, ◌&&◌, List, eqb, ltb, length}
use Rattle.terms.specs.Limits.{levels_most}
use Rattle.tag.specs.Tags.{Tag, opens, closes}
use Rattle.meaning.specs.OnePass.{fault}
use Rattle.fields.specs.Fields.{bad_size, present_word}
use Rattle.state.specs.State.{depth_in, presence_in, open_place, last_place, state_of, bad}
use Rattle.state.specs.Stores.{start_after, opening, closing}
use Rattle.state.specs.declared.state.Words.{Words}
use Rattle.numbers.specs.Bytes.{word_at}

-- ---- what an opening reads

-- An opening reads words of a state that is not bad and has a level left; of any other it reads none, which is 0.
unfoldable pub readable : List ℕ → Bool
readable s = not (bad s) && ltb (depth_in s) levels_most

-- The parent's word is open word d - 1, and 0 at depth 0.
abbrev pub parent_in : List ℕ → ℕ
parent_in s = cond (eqb (depth_in s) 0) 0 (word_at 8 s (open_place (pred (depth_in s))))

-- The previous sibling's word is last word d, and 0 where presence bit d is 0.
abbrev pub sibling_in : List ℕ → ℕ
sibling_in s = present_word (presence_in s) (depth_in s) (word_at 8 s (last_place (depth_in s)))

pub record WordsRead (s : List ℕ) (r : Words) : Type 0 where
  pub parent_is : r.parent ≡ cond (readable s) (parent_in s) 0
  pub sibling_is : r.sibling ≡ cond (readable s) (sibling_in s) 0

-- ---- what is answered

-- Start is refused where the size is another.
unfoldable pub start_number : List ℕ → ℕ
start_number s = cond (bad_size (length s)) 11 0

-- The number that a tag gets from the state alone, in the order 11, 6, 7, 8; 0 where it is taken.
unfoldable pub state_number : List ℕ → Tag → ℕ
state_number s t = cond (bad s) 11 (fault (state_of s) t)

-- ---- the promises

-- What start promises of the state.
pub record StateStarted (s : List ℕ) (number : ℕ) (after : List ℕ) : Type 0 where
  pub number_is : number ≡ start_number s
  pub state_is : after ≡ start_after s

-- What an opening promises of it, of an element whose word is w. Refused: the bytes stay.
pub record StateOpened (s : List ℕ) (label w : ℕ) (number : ℕ) (after : List ℕ) : Type 0 where
  pub number_is : number ≡ state_number s (opens label)
  pub state_is : after ≡ cond (eqb (state_number s (opens label)) 0) (opening w s) s

-- What a closing promises of it. Refused: the bytes stay.
pub record StateClosed (s : List ℕ) (number : ℕ) (after : List ℕ) : Type 0 where
  pub number_is : number ≡ state_number s closes
  pub state_is : after ≡ cond (eqb (state_number s closes) 0) (closing s) s
