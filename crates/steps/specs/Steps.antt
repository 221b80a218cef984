-- Working definitions: nothing here has to be believed.
-- What a pass puts at an element, from the element's own bits and what it has read of others.
-- Shuts out: one child's mark read only; the last element of a way asked a; kind 14 true of no child.
-- Laws: the crate marking says that the marks of a pass are these steps, and that along the columns they are what a kind means.
-- Assumes nothing.
use Rattle.std.specs.Prelude.{ℕ, Bool, true, false, cond, not, ◌&&◌, ◌||◌, List}
use Rattle.std.specs.Bool.{xor}
use Rattle.terms.specs.declared.kind.Axis.{Axis}
use Rattle.terms.specs.declared.kind.Axis.TheVariants.{Child, Parent, Next, Previous}
use Rattle.numbers.specs.Bits.{bit_at, in_word}
use Rattle.steps.specs.declared.ahead.AskedAhead.{AskedAhead}
use Rattle.steps.specs.declared.ahead.AskedAhead.TheVariants.{Until, Every}
use Rattle.steps.specs.declared.gate.Gate.{Gate}

-- What a gate makes of a word: its two bits are joined by and, each of them and the outcome being inverted where it is said so.
unfoldable pub gate_mark : Gate → ℕ → Bool
gate_mark gate w =
    xor (xor (bit_at w (in_word gate.a)) gate.first && xor (bit_at w (in_word gate.b)) gate.second) gate.outcome

-- The gates of kind 1, the inverse of a bit and its own inverse, of whichever bit; of kind 3, both bits being one;
abbrev pub always_gate : Gate
always_gate = record { a = 0; b = 0; first = false; second = true; outcome = true }

abbrev pub not_gate : (a : ℕ) → Gate
not_gate a = record { a = a; b = a; first = true; second = true; outcome = false }

-- of kinds 4 and 5.
abbrev pub or_gate : (a b : ℕ) → Gate
or_gate a b = record { a = a; b = b; first = true; second = true; outcome = true }

abbrev pub and_gate : (a b : ℕ) → Gate
and_gate a b = record { a = a; b = b; first = false; second = false; outcome = false }

-- Kinds 7 and 9, or 11 and 13 (until), at an element: a and b are its bits, `back` and `mark` bit a and the pass's mark where its
-- column leads.
abbrev pub back_step : (until a b back mark : Bool) → Bool
back_step until a b back mark = cond until (b || (a && mark)) back

-- The column that an axis is found by.
unfoldable pub column_of : Axis → (ups lefts : List ℕ) → List ℕ
column_of Child ups lefts = ups
column_of Parent ups lefts = ups
column_of Next ups lefts = lefts
column_of Previous ups lefts = lefts

-- Kinds 10 and 12 (Until), 14 (Every) at an element: a and b are its bits, `gathered` says that an element that leads
-- here has given, `child` that one leads here.
abbrev pub own_step : AskedAhead → (a b gathered child : Bool) → Bool
own_step Until a b gathered child = b || (a && gathered)
own_step Every a b gathered child = child && not gathered

-- Whether an element gives, by its bit a and its own mark.
abbrev pub given_step : AskedAhead → (a own : Bool) → Bool
given_step Until a own = own
given_step Every a own = not a
