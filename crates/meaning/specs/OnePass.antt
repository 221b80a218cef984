-- Working definitions: nothing here has to be believed.
-- The table of document 01, "One pass", over an abstract state: what opening and closing do. The bytes of the state are a later
-- matter. A word has a bit for every entry, however many there are.
-- Shuts out: the previous sibling's word read where a cousin left it; kinds 7 and 9 more than one step away; root closed forgotten.
-- Laws: proofs/Taken.antt (what is taken and counted), proofs/StepTable.antt, proofs/Walk.antt, proofs/Agrees.antt (the one-pass
-- theorem). Assumes nothing.
use Rattle.std.specs.Prelude.{ℕ, zero, suc, pred, ◌+◌, ◌*◌, ◌^◌, ◌≡◌, Bool, true, false, cond, ◌&&◌, ◌||◌, List, [], ◌∷◌, eqb, ltb, length, get_or, set, replicate}
use Rattle.entry.specs.declared.entry.Entry.{Entry}
use Rattle.tag.specs.Tags.{Tag, opens, closes, tag_fault}
use Rattle.grammar.specs.Rules.{no_entry}
use Rattle.terms.specs.declared.kind.Axis.{Axis}
use Rattle.terms.specs.declared.kind.Axis.TheVariants.{Child as child, Parent as parent, Next as next, Previous as previous}
use Rattle.terms.specs.declared.kind.Shape.{Shape}
use Rattle.terms.specs.declared.kind.Shape.TheVariants.{Nothing as nothing, Here as local, SomeAlong as some_along, UntilAlong as until_along, EveryChild as every_child}
use Rattle.terms.specs.Kinds.{shape_of}
use Rattle.meaning.specs.Marks.{means_here}
use Rattle.terms.specs.Limits.{levels_most}
use Rattle.numbers.specs.Bits.{bit, bit_at}

-- How many elements are open and have been opened, whether the root is closed, and for each of 64 levels a presence bit, an open
-- word and a last word.
pub record State : Type 0 where
  pub depth : ℕ
  pub elements : ℕ
  pub root_closed : Bool
  pub presence : List Bool
  pub open_words : List ℕ
  pub last_words : List ℕ

-- What start writes: zeros.
abbrev pub fresh : State
fresh =
    record {
      depth = 0;
      elements = 0;
      root_closed = false;
      presence = replicate levels_most false;
      open_words = replicate levels_most 0;
      last_words = replicate levels_most 0;
    }

-- The word that an axis leads to from an element that opens: its parent's, its previous sibling's; what is ahead has no word yet.
unfoldable pub word_to : Axis → (parent_word sibling_word : ℕ) → ℕ
word_to parent p q = p
word_to previous p q = q
word_to child p q = 0
word_to next p q = 0

-- Entry i's bit for an element with a label, from the bits of the entries before it (w), the parent's word and the previous
-- sibling's. A rule with an entry that looks ahead is refused before any step, so that what stands here for one plays no part.
unfoldable pub step_bit : Shape → (a b i label w parent_word sibling_word : ℕ) → Bool
step_bit nothing a b i label w p q = false
step_bit (local k) a b i label w p q = means_here k a label (bit_at w a) (bit_at w b)
step_bit (some_along x) a b i label w p q = bit_at (word_to x p q) a
step_bit (until_along x) a b i label w p q = bit_at w b || (bit_at w a && bit_at (word_to x p q) i)
step_bit every_child a b i label w p q = false

module _ (entries : List Entry) where
  abbrev entry : ℕ → Entry
  entry i = get_or entries i no_entry

  -- The word of the first m entries, made entry by entry.
  unfoldable pub step_word : (label parent_word sibling_word m : ℕ) → ℕ
  step_word label p q zero = 0
  step_word label p q (suc m) =
      bit (step_bit (shape_of (entry m).kind) (entry m).a (entry m).b m label (step_word label p q m) p q) * 2 ^ m + step_word label p q m

  -- The parent's word, from open word d - 1, and the previous sibling's, from last word d: no such word counts as 0.
  abbrev pub parent_word : State → ℕ
  parent_word st = cond (eqb st.depth 0) 0 (get_or st.open_words (pred st.depth) 0)

  abbrev pub sibling_word : State → ℕ
  sibling_word st = cond (get_or st.presence st.depth false) (get_or st.last_words st.depth 0) 0

  -- The word of an element that opens now.
  unfoldable pub opened_word : State → ℕ → ℕ
  opened_word st label = step_word label (parent_word st) (sibling_word st) (length entries)

  -- Opening at depth d stores the word as open word d, clears presence bit d + 1 if d is under 63, and counts the element.
  unfoldable pub opened : State → ℕ → State
  opened st label =
      record {
        depth = suc st.depth;
        elements = suc st.elements;
        root_closed = st.root_closed;
        presence = cond (ltb st.depth 63) (set st.presence (suc st.depth) false) st.presence;
        open_words = set st.open_words st.depth (opened_word st label);
        last_words = st.last_words;
      }

  -- The verdict at an opening: the last entry's bit.
  unfoldable pub opened_verdict : State → ℕ → Bool
  opened_verdict st label = bit_at (opened_word st label) (pred (length entries))

-- Closing at depth d copies open word d - 1 to last word d - 1, sets presence bit d - 1, and closes the root if nothing is open now.
unfoldable pub closed : State → State
closed st =
    record {
      depth = pred st.depth;
      elements = st.elements;
      root_closed = cond (eqb (pred st.depth) 0) true st.root_closed;
      presence = set st.presence (pred st.depth) true;
      open_words = st.open_words;
      last_words = set st.last_words (pred st.depth) (get_or st.open_words (pred st.depth) 0);
    }

-- The number that a tag gets in a state, in the order 6, 7, 8; 0 where the table takes it.
abbrev pub fault : State → Tag → ℕ
fault st t = tag_fault st.depth st.elements st.root_closed t

-- The state after a tag that is taken.
unfoldable pub after : List Entry → State → Tag → State
after entries st (opens label) = opened entries st label
after entries st closes = closed st

-- The state after a sequence of tags.
unfoldable pub after_all : List Entry → State → List Tag → State
after_all entries st [] = st
after_all entries st (t ∷ ts) = after_all entries (after entries st t) ts

-- Every tag of the sequence is taken, one after the other.
unfoldable pub Taken : List Entry → State → List Tag → Type 0
Taken entries st [] = Unit {0}
Taken entries st (t ∷ ts) = (◌≡◌ {A = ℕ} (fault st t) 0) × Taken entries (after entries st t) ts
