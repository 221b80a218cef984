-- Working definitions: nothing here has to be believed.
-- What begins at a cursor: the byte there says which word has to stand, and that word where the test or the step goes on.
-- Shuts out: a word that touches the one before it. Nothing here has to be believed, as in Words.
-- Laws: proofs/BeginSays.antt (what the answers say of reading), proofs/Only.antt. Assumes nothing.
use mir.Val.{bool_byte}
use Rattle.std.specs.Prelude.{ℕ, zero, suc, ◌+◌, Bool, true, false, cond, List, eqb, drop, Option, Some, None, Result, Ok, Err}
use Rattle.text.specs.Text.{ascii}
use Rattle.terms.specs.declared.kind.Axis.{Axis}
use Rattle.terms.specs.declared.kind.Axis.TheVariants.{Child as child, Parent as parent, Next as right, Previous as left}
use Rattle.paths.specs.Syntax.{Test, everywhere, labelled}
use Rattle.paths.specs.Spelling.{axis_word, true_word, not_word}
use Rattle.paths.specs.Translation.{neighbour_kind}
use Rattle.words.specs.declared.words.Stray.{Stray}
use Rattle.words.specs.declared.words.Number.{Number}
use Rattle.words.specs.declared.begins.Named.{Named}
use Rattle.words.specs.declared.begins.Begin.{Begin}
use Rattle.words.specs.declared.begins.Begin.TheVariants as B
use Rattle.words.specs.declared.begins.Start.{Start}
use Rattle.words.specs.declared.begins.Start.TheVariants as S
use Rattle.words.specs.Words.{head_of, stray, fixed_at, number_at}

-- ---- a test

-- The test that is one word: `true` for 0, else `label N`.
unfoldable pub leaf_tree : ℕ → Test
leaf_tree zero = everywhere
leaf_tree (suc n) = labelled (suc n)

-- `true`, of the word that was looked for.
abbrev pub true_of : Result ℕ Stray → Result Begin Stray
true_of (Ok e) = Ok (B.Leaf e 0)
true_of (Err p) = Err p

-- `label N`: the number stands at the end of the word and its space.
abbrev pub leaf_of : (end : ℕ) → Option Number → Result Begin Stray
leaf_of e (Some n) = Ok (B.Leaf (e + n.digits) n.value)
leaf_of e None = stray e

abbrev pub label_at : List ℕ → (end : ℕ) → Result Begin Stray
label_at s e = leaf_of e (number_at (drop e s))

abbrev pub label_of : List ℕ → Result ℕ Stray → Result Begin Stray
label_of s (Ok e) = label_at s e
label_of s (Err p) = Err p

-- `not`.
abbrev pub not_of : Result ℕ Stray → Result Begin Stray
not_of (Ok e) = Ok (B.Not e)
not_of (Err p) = Err p

-- A test that begins with a letter.
unfoldable pub letters_at : (s : List ℕ) (at : ℕ) → Result Begin Stray
letters_at s at =
    let b = head_of (drop at s) in
    cond (eqb b 116) (true_of (fixed_at true_word s at))
    (cond (eqb b 108) (label_of s (fixed_at (ascii "label ") s at)) (cond (eqb b 110) (not_of (fixed_at not_word s at)) (stray at)))

-- A test: `(`, `<`, or a letter, which stands behind a space where a word stands before.
unfoldable pub begin_at : (after : Bool) (s : List ℕ) (at : ℕ) → Result Begin Stray
begin_at after s at =
    let b = head_of (drop at s) in
    cond (eqb b 40) (Ok B.Either)
    (cond (eqb b 60) (Ok B.Path) (cond after (cond (eqb b 32) (letters_at s (at + 1)) (stray at)) (letters_at s at)))

-- ---- a step

-- An axis of a kind, of the word that was looked for.
abbrev pub named_of : (kind : ℕ) → Result ℕ Stray → Result Named Stray
named_of kind (Ok e) = Ok (record { end = e; kind = kind })
named_of kind (Err p) = Err p

-- The word of an axis, with the kind of one step along it.
abbrev pub named_at : Axis → (s : List ℕ) (at : ℕ) → Result Named Stray
named_at a s at = named_of (neighbour_kind a) (fixed_at (axis_word a) s at)

-- An axis.
unfoldable pub axis_at : (s : List ℕ) (at : ℕ) → Result Named Stray
axis_at s at =
    let b = head_of (drop at s) in
    cond (eqb b 99) (named_at child s at)
    (cond (eqb b 112) (named_at parent s at)
    (cond (eqb b 114) (named_at right s at) (cond (eqb b 108) (named_at left s at) (stray at))))

-- What an axis makes of a step: AXIS* or AXIS; behind a bracket AXIS?, or the place where `?` is missing.
abbrev pub step_of : (s : List ℕ) → Result Named Stray → (bracket : Bool) → Result Start Stray
step_of s (Err p) bracket = Err p
step_of s (Ok a) true = cond (eqb (head_of (drop a.end s)) 63) (Ok (S.While (a.end + 1) (a.kind + 8))) (stray a.end)
step_of s (Ok a) false =
    cond (eqb (head_of (drop a.end s)) 42) (Ok (S.Plain (a.end + 1) false (a.kind + 4))) (Ok (S.Plain a.end true a.kind))

-- A step from its axis on.
unfoldable pub step_at : (bracket : Bool) (s : List ℕ) (at : ℕ) → Result Start Stray
step_at bracket s at = step_of s (axis_at s at) bracket

-- A step: `?`; or an axis, which stands behind the bracket where there is one.
unfoldable pub start_at : (s : List ℕ) (at : ℕ) → Result Start Stray
start_at s at =
    let b = head_of (drop at s) in cond (eqb b 63) (Ok S.Test) (step_at (eqb b 40) s (at + bool_byte (eqb b 40)))
