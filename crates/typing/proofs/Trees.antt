-- The entries of a tree: those of a test and of a step by its form, those of a path by its steps from last to first; and none takes an entry
-- away. Assumes nothing.
use Prim.Native.Nat.{ℕ, pred, ◌+◌}
use native.Mathlib.Omega.{arith}
use native.Mathlib.Numerals.{add-one}
use mathlib.Core.Path.{◌≡◌, refl, ap, ◌∙◌}
use mathlib.Core.List.{List, [], ◌∷◌, ◌++◌, append_assoc}
use lib.ListN.{length, length-append}
use Rattle.entry.specs.declared.entry.Entry.{Entry}
use Rattle.terms.specs.declared.kind.Axis.{Axis}
use Rattle.terms.specs.declared.kind.Axis.TheVariants.{Child as child, Parent as parent, Next as right, Previous as left}
use Rattle.paths.specs.Syntax.{Test, everywhere, labelled, except, either, begins, Path, only, ◌then◌, Step, along, along*, passing, while}
use Rattle.paths.specs.Translation.{entry, last_of, put, neighbour_kind, until_kind, put_down, put_beside, put_while, put_t, put_p, put_s}
use Rattle.spell.specs.Forms.{star_entries, down_entries, beside_entries, own_entries}
use Rattle.spell.specs.Filled.{Change, part_entries}
use Rattle.spell.proofs.Changes.{Grows, grows_none, grows_then, grows-as}
use Rattle.spell.proofs.PartLaws.{part-grows}
use Rattle.typing.specs.Writing.{put_steps}

-- ---- entries put one behind the other

put-length : (es : List Entry) (d : Entry) → length (put es d) ≡ length es + 1
unfolding put
put-length es d = length-append es (d ∷ [])

-- The number of an entry is how many stand before it.
put_last : (es : List Entry) (d : Entry) → last_of (put es d) ≡ length es
put_last es d = ap pred (put-length es d ∙ add-one (length es))

-- Two entries, of which the second names the first.
two-are : (es : List Entry) (d : Entry) (kind b : ℕ) {i : ℕ} → i ≡ length es
    → put (put es d) (entry kind i b) ≡ es ++ (d ∷ entry kind (length es) b ∷ [])
unfolding put
two-are es d kind b e = rw e (append_assoc es (d ∷ []) (entry kind (length es) b ∷ []))

pair_is : (es : List Entry) (d : Entry) (kind b : ℕ)
    → put (put es d) (entry kind (last_of (put es d)) b) ≡ es ++ (d ∷ entry kind (length es) b ∷ [])
pair_is es d kind b = two-are es d kind b (put_last es d)

-- Four entries.
four_are : (es : List Entry) (a b c d : Entry) → put (put (put (put es a) b) c) d ≡ es ++ (a ∷ b ∷ c ∷ d ∷ [])
unfolding put
four_are es a b c d =
    ap (λ (fs : List Entry). ((fs ++ (c ∷ [])) ++ (d ∷ []))) (append_assoc es (a ∷ []) (b ∷ []))
    ∙ ap (λ (fs : List Entry). (fs ++ (d ∷ []))) (append_assoc es (a ∷ b ∷ []) (c ∷ []))
    ∙ append_assoc es (a ∷ b ∷ c ∷ []) (d ∷ [])

-- (child?TEST)* puts four, each of which names the one before it.
down_is : (argument : ℕ) (es : List Entry) → put_down argument (last_of es) es ≡ es ++ down_entries argument (length es)
unfolding put_down down_entries
down_is argument es =
    let first = entry 5 argument (last_of es) in
    let es₁ = put es first in
    let second = entry 10 (last_of es) (last_of es₁) in
    let es₂ = put es₁ second in
    let third = entry 6 (last_of es₂) 0 in
    let es₃ = put es₂ third in
    four_are es first second third (entry 4 argument (last_of es₃))
    ∙ named (put_last es first) (put_last es₁ second ∙ put-length es first)
    (put_last es₂ third ∙ omega (arith, put-length es₁ second, put-length es first)) where
      named : {i j k : ℕ} → i ≡ length es → j ≡ length es + 1 → k ≡ length es + 2
          → es ++ (entry 5 argument (last_of es) ∷ entry 10 (last_of es) i ∷ entry 6 j 0 ∷ entry 4 argument k ∷ [])
          ≡ es ++ (entry 5 argument (last_of es) ∷ entry 10 (last_of es) (length es) ∷ entry 6 (length es + 1) 0
          ∷ entry 4 argument (length es + 2) ∷ [])
      named p q r = rw (p, q, r)

-- ---- the parts of a tree

-- A part's own entries, where its argument is the last entry.
abbrev pub last_plain : (form : ℕ) → Change
last_plain form es = part_entries form (last_of es) es

-- A part's test and its own entries, where its argument is the last entry and the change puts the test.
abbrev pub last_tested : (form : ℕ) → Change → Change
last_tested form f es = part_entries form (last_of es) (f es)

-- What true puts, by its form,
pub true-puts : (es : List Entry) → put_t everywhere es ≡ part_entries 1 0 es
unfolding put_t put part_entries own_entries
true-puts es = refl

-- what label N puts,
pub label-puts : (l : ℕ) (es : List Entry) → put_t (labelled l) es ≡ part_entries 2 l es
unfolding put_t put part_entries own_entries
label-puts l es = refl

-- what not TEST puts,
pub not-puts : (t : Test) (es : List Entry) → put_t (except t) es ≡ last_plain 3 (put_t t es)
unfolding put_t put part_entries own_entries
not-puts t es = refl

-- what (TEST or TEST) puts,
pub or_puts : (t u : Test) (es : List Entry) → put_t (either t u) es ≡ last_tested 4 (put_t u) (put_t t es)
unfolding put_t put part_entries own_entries
or_puts t u es = refl

-- what <PATH> puts,
pub path-puts : (p : Path) (es : List Entry) → put_t (begins p) es ≡ put_p p (part_entries 1 0 es)
unfolding put_t put part_entries own_entries
path-puts p es = refl

-- what AXIS puts,
pub along-puts : (x : Axis) (es : List Entry) → put_s (along x) es ≡ last_plain (neighbour_kind x) es
unfolding put_t put part_entries own_entries neighbour_kind
along-puts child es = refl
along-puts parent es = refl
along-puts right es = refl
along-puts left es = refl

-- what AXIS* puts,
pub along*-puts : (x : Axis) (es : List Entry) → put_s (along* x) es ≡ last_plain (until_kind x) es
unfolding put_t part_entries own_entries star_entries until_kind
along*-puts child es = pair_is es (entry 1 0 0) 10 (last_of es)
along*-puts parent es = pair_is es (entry 1 0 0) 11 (last_of es)
along*-puts right es = pair_is es (entry 1 0 0) 12 (last_of es)
along*-puts left es = pair_is es (entry 1 0 0) 13 (last_of es)

-- what ?TEST puts,
pub passing-puts : (t : Test) (es : List Entry) → put_s (passing t) es ≡ last_tested 5 (put_t t) es
unfolding put_t put part_entries own_entries
passing-puts t es = refl

-- and what (AXIS?TEST)* puts.
pub while-puts : (x : Axis) (t : Test) (es : List Entry) → put_s (while x t) es ≡ last_tested (8 + neighbour_kind x) (put_t t) es
unfolding put_t part_entries own_entries beside_entries neighbour_kind until_kind put_while put_beside
while-puts child t es = down_is (last_of es) (put_t t es)
while-puts parent t es = let fs = put_t t es in pair_is fs (entry 7 (last_of fs) 0) 11 (last_of es)
while-puts right t es = let fs = put_t t es in pair_is fs (entry 8 (last_of fs) 0) 12 (last_of es)
while-puts left t es = let fs = put_t t es in pair_is fs (entry 9 (last_of fs) 0) 13 (last_of es)

-- ---- growth

-- A part grows,
pub plain-grows : (form : ℕ) → Grows (last_plain form)
plain-grows form = grows_then (λ i es. es) (part_entries form) (λ i. grows_none) (part-grows form)

-- and one with a test where the test does.
pub tested-grows : (form : ℕ) {f : Change} → Grows f → Grows (last_tested form f)
tested-grows form {f} p = grows_then (λ i. f) (part_entries form) (λ i. p) (part-grows form)

mutual
  unfolding put_t

  -- A test takes no entry away, nor does a path or a step.
  pub test-grows : (t : Test) → Grows (put_t t)
  test-grows everywhere = grows-as true-puts (part-grows 1 0)
  test-grows (labelled l) = grows-as (label-puts l) (part-grows 2 l)
  test-grows (except t) = grows-as (not-puts t) (grows_then (λ i. put_t t) (λ i. last_plain 3) (λ i. test-grows t) (λ i. plain-grows 3))
  test-grows (either t u) =
      grows-as (or_puts t u) (grows_then (λ i. put_t t) (λ i. last_tested 4 (put_t u)) (λ i. test-grows t) (λ i. tested-grows 4 (test-grows u)))
  test-grows (begins p) = grows-as (path-puts p) (grows_then (λ i. part_entries 1 0) (λ i. put_p p) (λ i. part-grows 1 0) (λ i. path-grows p))

  pub path-grows : (p : Path) → Grows (put_p p)
  path-grows (only st) = step-grows st
  path-grows (◌then◌ st p) = grows_then (λ i. put_p p) (λ i. put_s st) (λ i. path-grows p) (λ i. step-grows st)

  step-grows : (st : Step) → Grows (put_s st)
  step-grows (along x) = grows-as (along-puts x) (plain-grows (neighbour_kind x))
  step-grows (along* x) = grows-as (along*-puts x) (plain-grows (until_kind x))
  step-grows (passing t) = grows-as (passing-puts t) (tested-grows 5 (test-grows t))
  step-grows (while x t) = grows-as (while-puts x t) (tested-grows (8 + neighbour_kind x) (test-grows t))

-- Nor do steps from last to first.
pub steps-grow : (sts : List Step) → Grows (put_steps sts)
unfolding put_steps
steps-grow [] = grows_none
steps-grow (st ∷ sts) = grows_then (λ i. put_s st) (λ i. put_steps sts) (λ i. step-grows st) (λ i. steps-grow sts)

-- ---- a path from last to first

-- The steps of a path turned round, and behind them those before it.
unfoldable pub turned : Path → List Step → List Step
turned (only st) before = st ∷ before
turned (◌then◌ st p) before = turned p (st ∷ before)

-- They put the path's entries, and then those of the steps before it.
pub turned-puts : (p : Path) (before : List Step) (es : List Entry) → put_steps (turned p before) es ≡ put_steps before (put_p p es)
unfolding turned put_steps put_t
turned-puts (only st) before es = refl
turned-puts (◌then◌ st p) before es = turned-puts p (st ∷ before) es
