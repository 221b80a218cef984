-- A noted tree is held in its row: filling later rows changes nothing below, so what was noted first stays. Assumes nothing.
use Prim.Native.Nat.{ℕ, ◌+◌, ◌-◌, ◌≤◌, ◌<◌}
use native.Mathlib.Omega.{arith}
use mathlib.Core.Path.{◌≡◌, refl, ◌∙◌}
use mathlib.Core.Bool.{Bool, true, false, cond}
use mathlib.Core.List.{List}
use lib.Dec.{leb}
use borrow.Author.Tests.{le-leb}
use lib.ListN.{length, get_or, set, length-set, length-replicate}
use lib.Seq.{get_or-set_same, get_or-set_other}
use Rattle.parse.specs.declared.tree.Row.{Row}
use Rattle.paths.specs.Syntax.{Test, everywhere, labelled, except, either, begins, Path, only, ◌then◌, Step, along, along*, passing, while}
use Rattle.paths.specs.Translation.{table_of}
use Rattle.paths.proofs.Count.{weight_t, table-count}
use Rattle.parse.specs.Rows.{no_row, no_rows, note_row, form_of, test_entries, entries_t, entries_p, entries_s, note_t, note_p, note_s, RowHas, HeldT, HeldP, HeldS}
use Rattle.parse.proofs.TreeLaws.{step-own}
use Rattle.spell.proofs.FormLaws.{entries-few}
use Rattle.terms.specs.Limits.{entries_most}

-- ---- rows that stay

module _ (rows after : List Row) where
  -- The rows up to n are as they were.
  abbrev Same : ℕ → Type 0
  Same n = (i : ℕ) → i < n → get_or after i no_row ≡ get_or rows i no_row

  fewer : (a n : ℕ) → a ≤ n → Same n → Same a
  fewer a n l h i m = h i (omega arith)

  row_kept : (n form a b : ℕ) → Same n → RowHas rows n form a b → RowHas after n form a b
  row_kept n form a b h r =
      let l = r.there in
      let e = h (n - 1) (omega arith) in record { there = l; is_form = rw e r.is_form; is_a = rw e r.is_a; is_b = rw e r.is_b }

  below : (a n : ℕ) → a < n → Same n → Same a
  below a n l h = fewer a n (omega arith) h

  mutual
    unfolding HeldT

    -- A tree stays held where its rows stay.
    kept : (t : Test) (n : ℕ) → Same n → HeldT rows t n → HeldT after t n
    kept everywhere n h r = row_kept n _ _ _ h r
    kept (labelled l) n h r = row_kept n _ _ _ h r
    kept (except t) n h (a, l, r, x) = (a, l, row_kept n _ _ _ h r, kept t a (below a n l h) x)
    kept (either t u) n h (a, b, l, m, r, x, y) = (a, b, l, m, row_kept n _ _ _ h r, kept t a (below a n l h) x, kept u b (below b n m h) y)
    kept (begins p) n h x = kept-path p n 0 h x

    kept-path : (p : Path) (n b : ℕ) → Same n → HeldP rows p n b → HeldP after p n b
    kept-path (only st) n b h x = kept_step st n b h x
    kept-path (◌then◌ st p) n b h (m, l, x, y) = (m, l, kept_step st m b (below m n l h) x, kept-path p n m h y)

    kept_step : (st : Step) (n b : ℕ) → Same n → HeldS rows st n b → HeldS after st n b
    kept_step (along x) n b h (a, r) = (a, row_kept n _ _ _ h r)
    kept_step (along* x) n b h (a, r) = (a, row_kept n _ _ _ h r)
    kept_step (passing t) n b h (a, l, r, x) = (a, l, row_kept n _ _ _ h r, kept t a (below a n l h) x)
    kept_step (while y t) n b h (a, l, r, x) = (a, l, row_kept n _ _ _ h r, kept t a (below a n l h) x)

-- ---- one row filled

module _ (rows : List Row) (n form a b : ℕ) where
  -- What the row is filled with.
  abbrev filled : Row
  filled = record { form = form; first = a; second = b }

  row-length : length (note_row rows n form a b) ≡ length rows
  unfolding note_row
  row-length = go (leb n entries_most) where
    go : (p : Bool) → length (cond p (set rows (n - 1) filled) rows) ≡ length rows
    go true = length-set rows (n - 1) filled
    go false = refl

  row_below : (m : ℕ) → m < n → Same rows (note_row rows n form a b) m
  unfolding note_row
  row_below m l i h = go (leb n entries_most) where
    go : (p : Bool) → get_or (cond p (set rows (n - 1) filled) rows) i no_row ≡ get_or rows i no_row
    go true = get_or-set_other rows (n - 1) i filled no_row (λ e. omega arith)
    go false = refl

  row-there : 1 ≤ n → n ≤ entries_most → length rows ≡ entries_most → RowHas (note_row rows n form a b) n form a b
  unfolding note_row
  row-there l m e =
      let x = get_or-set_same rows (n - 1) filled no_row (omega arith) in
      rw (le-leb n entries_most m) (record { there = l; is_form = rw x; is_a = rw x; is_b = rw x })

joint : (n : ℕ) (rows mid after : List Row) → Same rows mid n → Same mid after n → Same rows after n
joint n rows mid after f g i l = g i l ∙ f i l

-- .. with one row more filled, behind them.
row-joint : (k : ℕ) (rows mid : List Row) (n form a b : ℕ) → Same rows mid k → k < n → Same rows (note_row mid n form a b) k
row-joint k rows mid n form a b f l = joint k rows mid (note_row mid n form a b) f (row_below mid n form a b k l)

-- A step's row is behind what it comes after, and behind its test's.
own-above : (st : Step) (k : ℕ) → k + test_entries st < k + entries_s st
own-above st k = omega (arith, (step-own st).entries, entries-few (form_of st))

step-above : (st : Step) (k : ℕ) → k < k + entries_s st
step-above st k = omega (arith, own-above st k)

-- ---- a tree noted

mutual
  unfolding note_t form_of test_entries

  -- The rows before a noted tree stay, and the table keeps its length.
  test-before : (t : Test) (k : ℕ) (rows : List Row) → Same rows (note_t t k rows) k
  test-before everywhere k rows = row_below rows (k + 1) 1 0 0 k (omega arith)
  test-before (labelled l) k rows = row_below rows (k + 1) 2 l 0 k (omega arith)
  test-before (except t) k rows =
      let mid = note_t t k rows in
      let n = k + entries_t t in row-joint k rows mid (n + 1) 3 n 0 (test-before t k rows) (omega arith)
  test-before (either t u) k rows =
      let mid = note_t t k rows in
      let m = k + entries_t t in
      let n = m + entries_t u in
      let next = note_t u m mid in
      row-joint k rows next (n + 1) 4 m n (joint k rows mid next (test-before t k rows) (fewer mid next k m (omega arith) (test-before u m mid))) (omega arith)
  test-before (begins p) k rows = fewer rows (note_p p (k + 1) 0 rows) k (k + 1) (omega arith) (path-before p (k + 1) 0 rows)

  path-before : (p : Path) (k b : ℕ) (rows : List Row) → Same rows (note_p p k b rows) k
  path-before (only st) k b rows = step-before st k b rows
  path-before (◌then◌ st p) k b rows =
      let mid = note_s st k b rows in
      let n = k + entries_s st in joint k rows mid (note_p p n n mid) (step-before st k b rows) (fewer mid (note_p p n n mid) k n (omega arith) (path-before p n n mid))

  step-before : (st : Step) (k b : ℕ) (rows : List Row) → Same rows (note_s st k b rows) k
  step-before (along x) k b rows = row_below rows (k + entries_s (along x)) (form_of (along x)) (k + 0) b k (step-above (along x) k)
  step-before (along* x) k b rows = row_below rows (k + entries_s (along* x)) (form_of (along* x)) (k + 0) b k (step-above (along* x) k)
  step-before (passing t) k b rows = row-joint k rows (note_t t k rows) (k + entries_s (passing t)) 5 (k + entries_t t) b (test-before t k rows) (step-above (passing t) k)
  step-before (while x t) k b rows =
      row-joint k rows (note_t t k rows) (k + entries_s (while x t)) (form_of (while x t)) (k + entries_t t) b (test-before t k rows) (step-above (while x t) k)

mutual
  unfolding note_t

  test-length : (t : Test) (k : ℕ) (rows : List Row) → length (note_t t k rows) ≡ length rows
  test-length everywhere k rows = row-length rows _ _ _ _
  test-length (labelled l) k rows = row-length rows _ _ _ _
  test-length (except t) k rows = row-length (note_t t k rows) _ _ _ _ ∙ test-length t k rows
  test-length (either t u) k rows =
      row-length (note_t u (k + entries_t t) (note_t t k rows)) _ _ _ _ ∙ test-length u (k + entries_t t) (note_t t k rows) ∙ test-length t k rows
  test-length (begins p) k rows = path-length p (k + 1) 0 rows

  path-length : (p : Path) (k b : ℕ) (rows : List Row) → length (note_p p k b rows) ≡ length rows
  path-length (only st) k b rows = step-length st k b rows
  path-length (◌then◌ st p) k b rows = path-length p (k + entries_s st) (k + entries_s st) (note_s st k b rows) ∙ step-length st k b rows

  step-length : (st : Step) (k b : ℕ) (rows : List Row) → length (note_s st k b rows) ≡ length rows
  step-length (along x) k b rows = row-length rows _ _ _ _
  step-length (along* x) k b rows = row-length rows _ _ _ _
  step-length (passing t) k b rows = row-length (note_t t k rows) _ _ _ _ ∙ test-length t k rows
  step-length (while x t) k b rows = row-length (note_t t k rows) _ _ _ _ ∙ test-length t k rows

-- A path has an entry.
path-some : (p : Path) → 1 ≤ entries_p p
unfolding weight_t
path-some (only st) = omega (arith, step-above st 0)
path-some (◌then◌ st p) = omega (arith, path-some p)

-- A step's row filled behind its test, which stays held.
tested : (st : Step) (t : Test) (n a b : ℕ) (mid : List Row) → a < n → n ≤ entries_most → length mid ≡ entries_most → HeldT mid t a
    → (let after = note_row mid n (form_of st) a b in (c : ℕ) × (c < n) × RowHas after n (form_of st) c b × HeldT after t c)
tested st t n a b mid l m e x =
    (a, l, row-there mid n (form_of st) a b (omega arith) m e, kept mid _ t a (row_below mid n (form_of st) a b a l) x)

mutual
  unfolding note_t HeldT weight_t test_entries

  -- A noted test is held in the row of its last entry.
  held : (t : Test) (k n : ℕ) (rows : List Row) → n ≡ k + entries_t t → n ≤ entries_most → length rows ≡ entries_most → HeldT (note_t t k rows) t n
  held everywhere k n rows q m e = rw q (row-there rows (k + 1) 1 0 0 (omega arith) (omega arith) e)
  held (labelled l) k n rows q m e = rw q (row-there rows (k + 1) 2 l 0 (omega arith) (omega arith) e)
  held (except t) k n rows q m e =
      let mid = note_t t k rows in
      let a = k + entries_t t in
      let z : n ≡ a + 1 = omega arith in
      rw z (
        a,
        omega arith,
        row-there mid (a + 1) 3 a 0 (omega arith) (omega arith) (test-length t k rows ∙ e),
        kept mid _ t a (row_below mid (a + 1) 3 a 0 a (omega arith)) (held t k a rows refl (omega arith) e),
      )
  held (either t u) k n rows q m e =
      let mid = note_t t k rows in
      let a = k + entries_t t in
      let next = note_t u a mid in
      let b = a + entries_t u in
      let z : n ≡ b + 1 = omega arith in
      let long : length mid ≡ entries_most = test-length t k rows ∙ e in
      rw z (
        a,
        b,
        omega arith,
        omega arith,
        row-there next (b + 1) 4 a b (omega arith) (omega arith) (test-length u a mid ∙ long),
        kept mid _ t a (row-joint a mid next (b + 1) 4 a b (test-before u a mid) (omega arith)) (held t k a rows refl (omega arith) e),
        kept next _ u b (row_below next (b + 1) 4 a b b (omega arith)) (held u a b mid refl (omega arith) long),
      )
  held (begins p) k n rows q m e = held-path p (k + 1) n 0 rows (omega arith) m e

  held-path : (p : Path) (k n b : ℕ) (rows : List Row) → n ≡ k + entries_p p → n ≤ entries_most → length rows ≡ entries_most → HeldP (note_p p k b rows) p n b
  held-path (only st) k n b rows q m e = rw q (held-step st k b rows (omega arith) e)
  held-path (◌then◌ st p) k n b rows q m e =
      let mid = note_s st k b rows in
      let a = k + entries_s st in
      let few = path-some p in (
        a,
        omega arith,
        kept_step mid (note_p p a a mid) st a b (path-before p a a mid) (held-step st k b rows (omega arith) e),
        held-path p a n a mid (omega arith) m (step-length st k b rows ∙ e),
      )

  -- A noted step is held in the row of its last entry.
  held-step : (st : Step) (k b : ℕ) (rows : List Row) → k + entries_s st ≤ entries_most → length rows ≡ entries_most → HeldS (note_s st k b rows) st (k + entries_s st) b
  held-step (along x) k b rows m e =
      (k + 0, row-there rows (k + entries_s (along x)) (form_of (along x)) (k + 0) b (omega (arith, step-above (along x) k)) m e)
  held-step (along* x) k b rows m e =
      (k + 0, row-there rows (k + entries_s (along* x)) (form_of (along* x)) (k + 0) b (omega (arith, step-above (along* x) k)) m e)
  held-step (passing t) k b rows m e =
      let l = own-above (passing t) k in
      tested (passing t) t _ (k + entries_t t) b (note_t t k rows) l m (test-length t k rows ∙ e) (held t k (k + entries_t t) rows refl (omega arith) e)
  held-step (while x t) k b rows m e =
      let l = own-above (while x t) k in
      tested (while x t) t _ (k + entries_t t) b (note_t t k rows) l m (test-length t k rows ∙ e) (held t k (k + entries_t t) rows refl (omega arith) e)

-- The rows of a text with 64 entries or fewer hold its tree in the row of its last entry.
pub text-held : (t : Test) (n : ℕ) (rows : List Row) → n ≡ length (table_of t) → n ≤ entries_most → rows ≡ note_t t 0 no_rows → HeldT rows t n
text-held t n rows q m e = rw e (held t 0 n no_rows (omega (arith, q, table-count t)) m (length-replicate {A = Row} entries_most no_row))
