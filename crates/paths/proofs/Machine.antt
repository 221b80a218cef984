-- A reader of texts byte by byte: what may still come is a stack of expectations, and each byte takes one step. Nothing here has to be
-- believed: Complete.antt and Sound.antt say that it takes exactly the texts, Place.antt that it stops at the place.
-- A parser that calls itself promises, over every stack below its own: what is left to read is read as from there.
-- Assumes nothing.
use Prim.Native.Nat.{ℕ}
use mathlib.Core.Bool.{Bool, true, false, cond, ◌&&◌, ◌||◌}
use mathlib.Core.List.{List, [], ◌∷◌, ◌++◌}
use mathlib.Core.Option.{Option, none, some}
use lib.Dec.{leb, eqb}

pub data Expected : Type 0 where
  -- this byte
  byte : ℕ → Expected
  -- a test; a test that begins with a letter
  test lettered : Expected
  -- the word `or`, behind a space if a word stands before
  alternative : Expected
  -- a number; at most two, at most one digit more
  number two_digits one_digit : Expected
  -- a path and its `>`; an axis; what follows an axis, and what follows a step, to the `>` of its path
  path axis after_axis after_step : Expected

-- Letters and digits.
unfoldable pub is_digit : ℕ → Bool
is_digit b = leb 48 b && leb b 57

unfoldable pub is_word : ℕ → Bool
is_word b = is_digit b || (leb 97 b && leb b 122)

-- A first byte, and what is expected behind it.
pub record Choice : Type 0 where
  pub first : ℕ
  pub rest : List Expected

abbrev on : ℕ → List Expected → Choice
on first rest = record { first = first; rest = rest }

-- true, label N, not TEST
abbrev pub letters : List Choice
letters =
    on 116 (byte 114 ∷ byte 117 ∷ byte 101 ∷ [])
    ∷ on 108 (byte 97 ∷ byte 98 ∷ byte 101 ∷ byte 108 ∷ byte 32 ∷ number ∷ [])
    ∷ on 110 (byte 111 ∷ byte 116 ∷ test ∷ [])
    ∷ []

-- The axes, and what is expected behind them.
abbrev pub axes : List Expected → List Choice
axes behind =
    on 99 (byte 104 ∷ byte 105 ∷ byte 108 ∷ byte 100 ∷ behind)
    ∷ on 112 (byte 97 ∷ byte 114 ∷ byte 101 ∷ byte 110 ∷ byte 116 ∷ behind)
    ∷ on 114 (byte 105 ∷ byte 103 ∷ byte 104 ∷ byte 116 ∷ behind)
    ∷ on 108 (byte 101 ∷ byte 102 ∷ byte 116 ∷ behind)
    ∷ []

abbrev pub going_on : List Choice
going_on = on 47 (path ∷ []) ∷ on 62 [] ∷ []

-- The choices of an expectation, where a word or a number stands just before or not. Digits are apart.
unfoldable pub choices : (after : Bool) → Expected → List Choice
choices after (byte c) = on c [] ∷ []
choices after test =
    on 40 (test ∷ alternative ∷ test ∷ byte 41 ∷ [])
    ∷ on 60 (path ∷ [])
    ∷ cond after (on 32 (lettered ∷ []) ∷ []) letters
choices after lettered = letters
choices after alternative = cond after (on 32 (byte 111 ∷ byte 114 ∷ []) ∷ []) (on 111 (byte 114 ∷ []) ∷ [])
choices after path =
    on 63 (test ∷ after_step ∷ [])
    ∷ on 40 (axis ∷ byte 63 ∷ test ∷ byte 41 ∷ byte 42 ∷ after_step ∷ [])
    ∷ axes (after_axis ∷ [])
choices after axis = axes []
choices after after_axis = on 42 (after_step ∷ []) ∷ going_on
choices after after_step = going_on
choices after number = []
choices after two_digits = []
choices after one_digit = []

-- What is expected after a byte, if the byte begins one of the choices.
unfoldable pub pick : List Choice → (b : ℕ) → List Expected → Option (List Expected)
pick [] b below = none
pick (c ∷ cs) b below = cond (eqb b c.first) (some (c.rest ++ below)) (pick cs b below)

-- What is expected after a byte; none where it cannot stand there.
unfoldable pub next : (after : Bool) → List Expected → (b : ℕ) → Option (List Expected)
next after [] b = none
next after (number ∷ below) b = cond (leb 49 b && leb b 57) (some (two_digits ∷ below)) none
next after (two_digits ∷ below) b = cond (is_digit b) (some (one_digit ∷ below)) (next true below b)
next after (one_digit ∷ below) b = cond (is_digit b) (some below) (next true below b)
next after (byte c ∷ below) b = pick (choices after (byte c)) b below
next after (test ∷ below) b = pick (choices after test) b below
next after (lettered ∷ below) b = pick (choices after lettered) b below
next after (alternative ∷ below) b = pick (choices after alternative) b below
next after (path ∷ below) b = pick (choices after path) b below
next after (axis ∷ below) b = pick (choices after axis) b below
next after (after_axis ∷ below) b = pick (choices after after_axis) b below
next after (after_step ∷ below) b = pick (choices after after_step) b below

-- The text may end here.
unfoldable pub ended : List Expected → Bool
ended [] = true
ended (two_digits ∷ below) = ended below
ended (one_digit ∷ below) = ended below
ended (number ∷ below) = false
ended (byte c ∷ below) = false
ended (test ∷ below) = false
ended (lettered ∷ below) = false
ended (alternative ∷ below) = false
ended (path ∷ below) = false
ended (axis ∷ below) = false
ended (after_axis ∷ below) = false
ended (after_step ∷ below) = false

-- The bytes were read whole, or reading stopped before some of them.
pub data Outcome : Type 0 where
  whole : Outcome
  stopped : (left : List ℕ) → Outcome

abbrev pub onward : Option (List Expected) → (left : List ℕ) → (List Expected → Outcome) → Outcome
onward none left go = stopped left
onward (some stack) left go = go stack

unfoldable pub run : (after : Bool) → List Expected → List ℕ → Outcome
run after stack [] = cond (ended stack) whole (stopped [])
run after stack (b ∷ s) = onward (next after stack b) (b ∷ s) (λ rest. run (is_word b) rest s)
