-- What the row of a part of the text says of the part: by its form, which test or step it is, and the rows that it names. Assumes nothing.
use Prim.Native.Nat.{ℕ, ◌≤◌, ◌<◌}
use native.Mathlib.Omega.{arith}
use mathlib.Core.Path.{◌≡◌, refl}
use mathlib.Core.List.{List, [], ◌∷◌}
use Rattle.entry.specs.declared.entry.Entry.{Entry}
use Rattle.terms.specs.declared.kind.Axis.{Axis}
use Rattle.terms.specs.declared.kind.Axis.TheVariants.{Child as child, Parent as parent, Next as right, Previous as left}
use Rattle.paths.specs.Syntax.{Test, everywhere, labelled, except, either, begins, Path, only, ◌then◌, Step, along, along*, passing, while}
use Rattle.paths.specs.Translation.{neighbour_kind, until_kind, put_t, put_p, put_s}
use Rattle.spell.specs.Filled.{part_entries}
use Rattle.parse.specs.Rows.{row_at, form_of, RowHas, HeldT, HeldP, HeldS}
use Rattle.parse.specs.declared.tree.Row.{Row}
use Rattle.typing.specs.Writing.{put_steps, HeldSteps}
use Rattle.typing.proofs.Trees.{last_plain, last_tested, true-puts, label-puts, not-puts, or_puts, path-puts, along-puts, along*-puts, passing-puts, while-puts, turned}
use Rattle.terms.specs.Limits.{entries_most}

-- The forms of AXIS are 6 to 9,
axis-form : (x : Axis) → (6 ≤ neighbour_kind x) × (neighbour_kind x ≤ 9)
unfolding neighbour_kind
axis-form child = (omega arith, omega arith)
axis-form parent = (omega arith, omega arith)
axis-form right = (omega arith, omega arith)
axis-form left = (omega arith, omega arith)

-- and those of AXIS* 10 to 13.
star-form : (x : Axis) → (10 ≤ until_kind x) × (until_kind x ≤ 13)
unfolding until_kind
star-form child = (omega arith, omega arith)
star-form parent = (omega arith, omega arith)
star-form right = (omega arith, omega arith)
star-form left = (omega arith, omega arith)

-- It is the form of a step.
abbrev pub OfStep : (form : ℕ) → Type 0
OfStep form = (2 < form) × (form ≡ 3 → ⊥) × (form ≡ 4 → ⊥)

module _ (rows : List Row) where
  -- ---- the row

  -- The row of a step is there, its form is 5 or more, and its second number is the row of the step before.
  pub step-row : (st : Step) (n b : ℕ) → HeldS rows st n b → (1 ≤ n) × (5 ≤ (row_at rows n).form) × ((row_at rows n).second ≡ b)
  unfolding HeldT form_of
  step-row (along x) n b (a, r) = (r.there, omega (arith, r.is_form, (axis-form x).0), r.is_b)
  step-row (along* x) n b (a, r) = (r.there, omega (arith, r.is_form, (star-form x).0), r.is_b)
  step-row (passing t) n b (a, l, r, x) = (r.there, omega (arith, r.is_form), r.is_b)
  step-row (while y t) n b (a, l, r, x) = (r.there, omega (arith, r.is_form, (axis-form y).0), r.is_b)

  -- The row of a path is that of its last step: it is there, and its form is 5 or more.
  path-row : (p : Path) (n b : ℕ) → HeldP rows p n b → (1 ≤ n) × (5 ≤ (row_at rows n).form)
  unfolding HeldT
  path-row (only st) n b x = let r = step-row st n b x in (r.0, r.1)
  path-row (◌then◌ st p) n b (m, l, x, y) = path-row p n m y

  -- The row of a test is there.
  pub test-row : (t : Test) (n : ℕ) → HeldT rows t n → 1 ≤ n
  unfolding HeldT
  test-row everywhere n r = r.there
  test-row (labelled l) n r = r.there
  test-row (except t) n (a, l, r, x) = r.there
  test-row (either t u) n (a, b, l, m, r, x, y) = r.there
  test-row (begins p) n x = (path-row p n 0 x).0

-- ---- the test in a row that was read

-- Row n says this.
pub record Says (rows : List Row) (n : ℕ) (p : Row) : Type 0 where
  pub row_is : p ≡ row_at rows n

module _ {rows : List Row} {n : ℕ} {p : Row} (s : Says rows n p) where
  -- A row is read as it was noted.
  read : {form a b : ℕ} → RowHas rows n form a b → (p.form ≡ form) × (p.first ≡ a) × (p.second ≡ b)
  read r = rw s.row_is (r.is_form, r.is_a, r.is_b)

  -- A path's form is that of a step.
  path-form : (q : Path) → HeldP rows q n 0 → 5 ≤ p.form
  path-form q x = rw s.row_is (path-row rows q n 0 x).1

  -- In a row of form 1 or 2 stands true or a label, which is its first number,
  pub leaf-is : (t : Test) → HeldT rows t n → p.form ≤ 2
      → (1 ≤ p.form) × ((es : List Entry) → put_t t es ≡ part_entries p.form p.first es)
  unfolding HeldT
  leaf-is everywhere r h = rw ((read r).0, (read r).1) (omega arith, true-puts)
  leaf-is (labelled l) r h = rw ((read r).0, (read r).1) (omega arith, label-puts l)
  leaf-is (except t) (a, l, r, x) h = absurd (omega (arith, h, (read r).0))
  leaf-is (either t u) (a, b, l, m, r, x, y) h = absurd (omega (arith, h, (read r).0))
  leaf-is (begins q) x h = absurd (omega (arith, h, path-form q x))

  -- of form 3 "not" of the test in the row of its first number,
  pub not_is : (t : Test) → HeldT rows t n → p.form ≡ 3
      → (u : Test) × (p.first < n) × HeldT rows u p.first × ((es : List Entry) → put_t t es ≡ last_plain 3 (put_t u es))
  unfolding HeldT
  not_is everywhere r h = absurd (omega (arith, h, (read r).0))
  not_is (labelled l) r h = absurd (omega (arith, h, (read r).0))
  not_is (except t) (a, l, r, x) h = rw (read r).1 (t, l, x, not-puts t)
  not_is (either t u) (a, b, l, m, r, x, y) h = absurd (omega (arith, h, (read r).0))
  not_is (begins q) x h = absurd (omega (arith, h, path-form q x))

  -- of form 4 "or" of the tests in the rows of both,
  pub or_is : (t : Test) → HeldT rows t n → p.form ≡ 4
      → (u v : Test) × (p.first < n) × (p.second < n) × HeldT rows u p.first × HeldT rows v p.second
      × ((es : List Entry) → put_t t es ≡ last_tested 4 (put_t v) (put_t u es))
  unfolding HeldT
  or_is everywhere r h = absurd (omega (arith, h, (read r).0))
  or_is (labelled l) r h = absurd (omega (arith, h, (read r).0))
  or_is (except t) (a, l, r, x) h = absurd (omega (arith, h, (read r).0))
  or_is (either t u) (a, b, l, m, r, x, y) h = rw ((read r).1, (read r).2) (t, u, l, m, x, y, or_puts t u)
  or_is (begins q) x h = absurd (omega (arith, h, path-form q x))

  -- and of any other form a path.
  pub path-is : (t : Test) → HeldT rows t n → OfStep p.form
      → (q : Path) × HeldP rows q n 0 × ((es : List Entry) → put_t t es ≡ put_p q (part_entries 1 0 es))
  unfolding HeldT
  path-is everywhere r h = absurd (omega (arith, h.0, (read r).0))
  path-is (labelled l) r h = absurd (omega (arith, h.0, (read r).0))
  path-is (except t) (a, l, r, x) h = absurd (h.1 (read r).0)
  path-is (either t u) (a, b, l, m, r, x, y) h = absurd (h.2 (read r).0)
  path-is (begins q) x h = (q, x, path-puts q)

  -- ---- the step in a row that was read

  -- The second number of a step's row is the row of the step before.
  pub before-is : (st : Step) (b : ℕ) → HeldS rows st n b → p.second ≡ b
  before-is st b x = rw s.row_is (step-row rows st n b x).2

  -- Where the form is 6 to 13, it is AXIS or AXIS*,
  pub plain-is : (st : Step) (b : ℕ) → HeldS rows st n b → 6 ≤ p.form → p.form < 14 → (es : List Entry) → put_s st es ≡ last_plain p.form es
  unfolding HeldT form_of
  plain-is (along x) b (a, r) l m es = rw (read r).0 (along-puts x es)
  plain-is (along* x) b (a, r) l m es = rw (read r).0 (along*-puts x es)
  plain-is (passing t) b (a, k, r, x) l m es = absurd (omega (arith, l, (read r).0))
  plain-is (while y t) b (a, k, r, x) l m es = absurd (omega (arith, m, (read r).0, (axis-form y).0))

  -- and else a step with a test, which stands in the row of the first number.
  pub tested-is : (st : Step) (b : ℕ) → HeldS rows st n b → (6 ≤ p.form → 14 ≤ p.form)
      → (u : Test) × (p.first < n) × HeldT rows u p.first × (5 ≤ p.form) × (p.form ≤ 17)
      × ((es : List Entry) → put_s st es ≡ last_tested p.form (put_t u) es)
  unfolding HeldT form_of
  tested-is (along x) b (a, r) k = let f = axis-form x in absurd (omega (arith, (read r).0, f.0, f.1, k (omega (arith, (read r).0, f.0))))
  tested-is (along* x) b (a, r) k = let f = star-form x in absurd (omega (arith, (read r).0, f.0, f.1, k (omega (arith, (read r).0, f.0))))
  tested-is (passing t) b (a, l, r, x) k = rw ((read r).1, (read r).0) (t, l, x, omega arith, omega arith, passing-puts t)
  tested-is (while y t) b (a, l, r, x) k =
      let f = axis-form y in rw ((read r).1, (read r).0) (t, l, x, omega (arith, f.0), omega (arith, f.1), while-puts y t)

-- ---- the steps of a path, from last to first

module _ (rows : List Row) where
  -- The steps of a path that is held, and behind them those before it, are held from its last step on.
  pub turned-held : (p : Path) (before : List Step) (n b : ℕ) → n ≤ entries_most → HeldP rows p n b → HeldSteps rows before b
      → HeldSteps rows (turned p before) n
  unfolding HeldT HeldSteps turned
  turned-held (only st) before n b l x h = (b, l, x, h)
  turned-held (◌then◌ st p) before n b l (m, k, x, y) h = turned-held p (st ∷ before) n m l y (b, omega arith, x, h)

  -- Before the first step of a path there is none.
  pub none_before : (sts : List Step) (n : ℕ) → n ≡ 0 → HeldSteps rows sts n → (es : List Entry) → put_steps sts es ≡ es
  unfolding HeldSteps put_steps
  none_before [] n e h es = refl
  none_before (st ∷ sts) n e (b, l, x, h) es = absurd (omega (arith, e, (step-row rows st n b x).0))

  -- From a row on there is one, and then those from the row that its row names.
  pub steps-is : (sts : List Step) (n : ℕ) → 1 ≤ n → HeldSteps rows sts n
      → (st : Step) × (b : ℕ) × (before : List Step) × (n ≤ entries_most) × HeldS rows st n b × HeldSteps rows before b
      × ((es : List Entry) → put_steps sts es ≡ put_steps before (put_s st es))
  unfolding HeldSteps put_steps
  steps-is [] n l h = absurd (omega (arith, l, h))
  steps-is (st ∷ sts) n l (b, k, x, h) = (st, b, sts, k, x, h, λ es. refl)

  -- No row past 64 is named.
  pub steps-row : (sts : List Step) (n : ℕ) → HeldSteps rows sts n → n ≤ entries_most
  unfolding HeldSteps
  steps-row [] n h = omega (arith, h)
  steps-row (st ∷ sts) n (b, l, x, h) = l
