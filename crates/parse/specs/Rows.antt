-- Working definitions: nothing here has to be believed.
-- The table in which reading a text notes its tree. A row has three numbers, its form and two more; rows count from 1, and there are 64.
-- A part of the text stands in the row that is the number of entries before the part and in it, so every part has a row of its own,
-- above the rows of all that it is made of.
--
--   form      part of the text          first number         second number
--   1         true                      0                    0
--   2         label N                   N                    0
--   3         not TEST                  row of the test      0
--   4         (TEST or TEST)            row of the left      row of the right
--   5         ?TEST                     row of the test      row of the step before in its path, 0 for the first
--   6 to 9    AXIS                      (not used)           as for 5
--   10 to 13  AXIS*                     (not used)           as for 5
--   14 to 17  (AXIS?TEST)*              row of the test      as for 5
--
-- Four forms with an axis are child, parent, right, left. A path stands in the row of its last step, from which its steps are followed
-- to its first, as its entries go; a test <PATH> is its path.
-- Laws: proofs/HeldLaws.antt. Assumes nothing.
use Rattle.parse.specs.declared.tree.Row.{Row}
use Rattle.std.specs.Prelude.{ℕ, ◌+◌, ◌-◌, ◌≤◌, ◌<◌, ◌≡◌, cond, List, leb, get_or, set, replicate}
use Rattle.paths.specs.Syntax.{Test, everywhere, labelled, except, either, begins, Path, only, ◌then◌, Step, along, along*, passing, while}
use Rattle.paths.specs.Translation.{neighbour_kind, until_kind}
use Rattle.paths.proofs.Count.{weight_t, weight_p, weight_s, record_length}
use Rattle.terms.specs.Limits.{entries_most}

-- A row that is not filled, and a table of these alone.
abbrev pub no_row : Row
no_row = record { form = 0; first = 0; second = 0 }

abbrev pub no_rows : List Row
no_rows = replicate entries_most no_row

-- Row n.
abbrev pub row_at : List Row → (n : ℕ) → Row
row_at rows n = get_or rows (n - 1) no_row

-- The table with row n filled, where there is such a row.
unfoldable pub note_row : List Row → (n form a b : ℕ) → List Row
note_row rows n form a b = cond (leb n entries_most) (set rows (n - 1) (record { form = form; first = a; second = b })) rows

-- The form of a step.
unfoldable pub form_of : Step → ℕ
form_of (along x) = neighbour_kind x
form_of (along* x) = until_kind x
form_of (passing t) = 5
form_of (while x t) = 8 + neighbour_kind x

-- How many entries a test, a path, a step or the test of a step has.
abbrev pub entries_t : Test → ℕ
entries_t t = weight_t (λ k. 1) t

abbrev pub entries_p : Path → ℕ
entries_p p = weight_p (λ k. 1) p

abbrev pub entries_s : Step → ℕ
entries_s st = weight_s (λ k. 1) st

unfoldable pub test_entries : Step → ℕ
test_entries (along x) = 0
test_entries (along* x) = 0
test_entries (passing t) = entries_t t
test_entries (while x t) = entries_t t

-- .. and how many bytes their records have.
unfoldable pub test_bytes : Step → ℕ
test_bytes (along x) = 0
test_bytes (along* x) = 0
test_bytes (passing t) = weight_t record_length t
test_bytes (while x t) = weight_t record_length t

-- The table with a step's own row filled, behind k entries and those of its test.
abbrev pub step_row : Step → (k before : ℕ) → List Row → List Row
step_row st k before rows = note_row rows (k + entries_s st) (form_of st) (k + test_entries st) before

-- The table with a tree noted behind k entries; of a path, the closing "true" among these, and the row of the step before it.
unfoldable mutual
  pub note_t : Test → (k : ℕ) → List Row → List Row
  note_t everywhere k rows = note_row rows (k + 1) 1 0 0
  note_t (labelled l) k rows = note_row rows (k + 1) 2 l 0
  note_t (except t) k rows = let n = k + entries_t t in note_row (note_t t k rows) (n + 1) 3 n 0
  note_t (either t u) k rows =
      let m = k + entries_t t in let n = m + entries_t u in note_row (note_t u m (note_t t k rows)) (n + 1) 4 m n
  note_t (begins p) k rows = note_p p (k + 1) 0 rows

  pub note_p : Path → (k before : ℕ) → List Row → List Row
  note_p (only st) k before rows = note_s st k before rows
  note_p (◌then◌ st p) k before rows = let n = k + entries_s st in note_p p n n (note_s st k before rows)

  pub note_s : Step → (k before : ℕ) → List Row → List Row
  note_s (along x) k before rows = step_row (along x) k before rows
  note_s (along* x) k before rows = step_row (along* x) k before rows
  note_s (passing t) k before rows = step_row (passing t) k before (note_t t k rows)
  note_s (while x t) k before rows = step_row (while x t) k before (note_t t k rows)

-- Row n is there, with these numbers.
pub record RowHas (rows : List Row) (n form a b : ℕ) : Type 0 where
  pub there : 1 ≤ n
  pub is_form : (row_at rows n).form ≡ form
  pub is_a : (row_at rows n).first ≡ a
  pub is_b : (row_at rows n).second ≡ b

-- A test stands in row n, and all that it is made of in rows below; of a path and of a step, the step before stands in row b.
module _ (rows : List Row) where
  unfoldable mutual
    pub HeldT : Test → ℕ → Type 0
    HeldT everywhere n = RowHas rows n 1 0 0
    HeldT (labelled l) n = RowHas rows n 2 l 0
    HeldT (except t) n = (a : ℕ) × (a < n) × RowHas rows n 3 a 0 × HeldT t a
    HeldT (either t u) n = (a : ℕ) × (b : ℕ) × (a < n) × (b < n) × RowHas rows n 4 a b × HeldT t a × HeldT u b
    HeldT (begins p) n = HeldP p n 0

    pub HeldP : Path → (n b : ℕ) → Type 0
    HeldP (only st) n b = HeldS st n b
    HeldP (◌then◌ st p) n b = (m : ℕ) × (m < n) × HeldS st m b × HeldP p n m

    pub HeldS : Step → (n b : ℕ) → Type 0
    HeldS (along x) n b = (a : ℕ) × RowHas rows n (form_of (along x)) a b
    HeldS (along* x) n b = (a : ℕ) × RowHas rows n (form_of (along* x)) a b
    HeldS (passing t) n b = (a : ℕ) × (a < n) × RowHas rows n (form_of (passing t)) a b × HeldT t a
    HeldS (while x t) n b = (a : ℕ) × (a < n) × RowHas rows n (form_of (while x t)) a b × HeldT t a
