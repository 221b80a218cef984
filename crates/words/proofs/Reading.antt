-- What the answers at a cursor say of reading, over every stack below it, and of what was read: words, numbers, what a test or a step
-- begins with. Laws: WordLaws.antt, BeginSays.antt (each answer says it, where the cursor is not past the end). Assumes nothing.
use Prim.Native.Nat.{ℕ, zero, suc, ◌+◌, ◌≤◌, ◌<◌}
use mathlib.Core.Path.{◌≡◌}
use mathlib.Core.Bool.{Bool, true, false}
use mathlib.Core.List.{List, [], ◌∷◌, ◌++◌}
use lib.ListN.{length, drop}
use Rattle.text.specs.Decimal.{decimal}
use Rattle.terms.specs.declared.kind.Axis.{Axis}
use Rattle.terms.specs.Limits.{label_most}
use Rattle.paths.specs.Syntax.{Step, along, along*, GoodT}
use Rattle.paths.specs.Spelling.{axis_word, not_word, or_word, gap, pieces_t, pieces_s}
use Rattle.paths.specs.Translation.{neighbour_kind, until_kind}
use Rattle.paths.proofs.Machine.{Expected, test, lettered, alternative, number, path, axis, after_step, byte, stopped, run}
use Rattle.paths.proofs.Ahead.{ahead}
use Rattle.paths.proofs.Descent.{Reads, Stops, spelt}
use Rattle.std.specs.Prelude.{Result, Ok, Err}
use Rattle.words.specs.declared.words.Stray.{Stray}
use Rattle.words.specs.declared.begins.Named.{Named}
use Rattle.words.specs.declared.begins.Begin.{Begin}
use Rattle.words.specs.declared.begins.Begin.TheVariants as B
use Rattle.words.specs.declared.begins.Start.{Start}
use Rattle.words.specs.declared.begins.Start.TheVariants as S
use Rattle.words.specs.Words.{head_of}
use Rattle.words.specs.Begins.{leaf_tree}

-- ---- words and numbers

-- The word stands at the cursor and ends there; or reading it stops at a place.
abbrev pub WordAt : (x s : List ℕ) (at : ℕ) → Result ℕ Stray → Type 0
WordAt x s at (Ok e) = (e ≡ at + length x) × (e ≤ length s) × (drop at s ≡ x ++ drop e s)
WordAt x s at (Err p) = (p.place ≤ length s) × ((w : Bool) (K : List Expected) → run w (spelt x K) (drop at s) ≡ stopped (drop p.place s))

-- .. `or`, behind its space if a word stands before.
abbrev pub OrAt : (after : Bool) (s : List ℕ) (at : ℕ) → Result ℕ Stray → Type 0
OrAt w s at (Ok e) = (at + 2 ≤ e) × (e ≤ length s) × (drop at s ≡ gap w ++ (or_word ++ drop e s))
OrAt w s at (Err p) = (p.place ≤ length s) × Stops w alternative (drop at s) (drop p.place s)

-- A number of so many digits and this value; or no number can stand there.
abbrev pub NumberAt : (s : List ℕ) (at digits value : ℕ) → Type 0
NumberAt s at zero n = Stops false number (drop at s) (drop at s)
NumberAt s at (suc k) n =
    (at + suc k ≤ length s) × Reads false number (drop at s) true (drop (at + suc k) s)
    × (1 ≤ n) × (n ≤ label_most) × (drop at s ≡ decimal n ++ drop (at + suc k) s)

-- ---- what a test begins with

-- A test of one word, where a word stands before it and a space, or not.
pub record Lettered (s r : List ℕ) (label : ℕ) : Type 0 where
  pub goes : Reads false lettered s true r
  pub good : GoodT (leaf_tree label)
  pub is : (w : Bool) → gap w ++ s ≡ ahead w (pieces_t (leaf_tree label) []) r

-- A test that begins with a letter.
abbrev pub LettersAt : (s : List ℕ) (at : ℕ) → Result Begin Stray → Type 0
LettersAt s at (Ok (B.Leaf e l)) = (at < e) × (e ≤ length s) × Lettered (drop at s) (drop e s) l
LettersAt s at (Ok (B.Not e)) =
    (at < e) × (e ≤ length s) × (drop at s ≡ not_word ++ drop e s) × ((K : List Expected) → run false (lettered ∷ K) (drop at s) ≡ run true (test ∷ K) (drop e s))
LettersAt s at (Ok B.Either) = ⊥
LettersAt s at (Ok B.Path) = ⊥
LettersAt s at (Err p) = (p.place ≤ length s) × Stops false lettered (drop at s) (drop p.place s)

-- A test of one word at a cursor.
pub record LeafAt (w : Bool) (s : List ℕ) (at e label : ℕ) : Type 0 where
  pub on : at < e
  pub within : e ≤ length s
  pub goes : Reads w test (drop at s) true (drop e s)
  pub good : GoodT (leaf_tree label)
  pub reads : drop at s ≡ ahead w (pieces_t (leaf_tree label) []) (drop e s)

-- A test.
abbrev pub BeginsAt : (after : Bool) (s : List ℕ) (at : ℕ) → Result Begin Stray → Type 0
BeginsAt w s at (Ok (B.Leaf e l)) = LeafAt w s at e l
BeginsAt w s at (Ok (B.Not e)) =
    (at < e) × (e ≤ length s) × (drop at s ≡ gap w ++ (not_word ++ drop e s)) × ((K : List Expected) → run w (test ∷ K) (drop at s) ≡ run true (test ∷ K) (drop e s))
BeginsAt w s at (Ok B.Either) = head_of (drop at s) ≡ 40
BeginsAt w s at (Ok B.Path) = head_of (drop at s) ≡ 60
BeginsAt w s at (Err p) = (p.place ≤ length s) × Stops w test (drop at s) (drop p.place s)

-- ---- what a step begins with

-- An axis.
abbrev pub AxisAt : (s : List ℕ) (at : ℕ) → Result Named Stray → Type 0
AxisAt s at (Ok n) =
    (at + 4 ≤ n.end) × (n.end ≤ length s) × ((a : Axis) × (n.kind ≡ neighbour_kind a) × (drop at s ≡ axis_word a ++ drop n.end s))
AxisAt s at (Err p) = (p.place ≤ length s) × Stops false axis (drop at s) (drop p.place s)

-- A step is read from s, and r is left.
abbrev pub StepReads : (s : List ℕ) (behind : Bool) (r : List ℕ) → Type 0
StepReads s v r = (K : List Expected) → run false (path ∷ K) s ≡ run v (after_step ∷ K) r

-- A step without a test: AXIS where a word ends there, else AXIS*.
abbrev pub plain_step : (behind : Bool) → Axis → Step
plain_step true a = along a
plain_step false a = along* a

-- .. and its form.
abbrev pub plain_form : (behind : Bool) → Axis → ℕ
plain_form true a = neighbour_kind a
plain_form false a = until_kind a

-- A step of this form without a test, and then r.
pub record PlainIs (s r : List ℕ) (behind : Bool) (form : ℕ) : Type 0 where
  pub named : Axis
  pub reads : s ≡ ahead false (pieces_s (plain_step behind named) []) r
  pub is_form : form ≡ plain_form behind named

-- `(AXIS?`, and then r.
pub record While (s r : List ℕ) (form : ℕ) : Type 0 where
  pub along : Axis
  pub goes : (K : List Expected) → run false (path ∷ K) s ≡ run false (test ∷ byte 41 ∷ byte 42 ∷ after_step ∷ K) r
  pub reads : s ≡ 40 ∷ (axis_word along ++ (63 ∷ r))
  pub is_form : form ≡ 8 + neighbour_kind along

-- A step.
abbrev pub StartAt : (s : List ℕ) (at : ℕ) → Result Start Stray → Type 0
StartAt s at (Ok (S.Plain e v form)) = (at + 4 ≤ e) × (e ≤ length s) × StepReads (drop at s) v (drop e s) × PlainIs (drop at s) (drop e s) v form
StartAt s at (Ok S.Test) = head_of (drop at s) ≡ 63
StartAt s at (Ok (S.While e form)) = (at + 6 ≤ e) × (e ≤ length s) × While (drop at s) (drop e s) form
StartAt s at (Err p) = (p.place ≤ length s) × Stops false path (drop at s) (drop p.place s)
