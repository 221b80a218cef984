-- Working definitions: nothing here has to be believed.
-- For how many elements columns are made: an accepted report has ten bytes an element (law: `accepted-size` of grammar).
-- Assumes nothing.
use Rattle.std.specs.Prelude.{ℕ, ◌*◌, ◌≤◌, ◌⊎◌, List, length}
use Rattle.terms.specs.Limits.{elements_most}

-- The bytes of an element: its opening and its closing.
abbrev pub element_bytes : ℕ
element_bytes = 10

-- Columns of n places have room for every element of an accepted report: by its bytes, or since there is room for any.
abbrev pub Enough : (n : ℕ) (report : List ℕ) → Type 0
Enough n report = (length report ≤ element_bytes * n) ⊎ (elements_most ≤ n)
