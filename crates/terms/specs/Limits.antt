-- The limits of document 01, "Records": each has its one definition here, and its one in the code in src/limits.rt. Assumes nothing.
use Rattle.std.specs.Prelude.{ℕ, Bool, ◌||◌, List, ltb, length}

-- A label is 1 to so many.
abbrev pub label_most : ℕ
label_most = 999

-- A rule has 1 to so many bytes and 1 to so many entries.
abbrev pub rule_most : ℕ
rule_most = 512

abbrev pub entries_most : ℕ
entries_most = 64

-- A report has 1 to so many bytes, 1 to so many elements, and so many levels, counted from 0.
abbrev pub report_most : ℕ
report_most = 40960

abbrev pub elements_most : ℕ
elements_most = 4096

abbrev pub levels_most : ℕ
levels_most = 64

-- ==== Working definitions: nothing below has to be believed

-- A label outside 1..999.
abbrev pub outside : ℕ → Bool
outside label = ltb label 1 || ltb label_most label

-- A byte string of no byte, or of more than so many: rows 1 and 5.
abbrev pub missized : (most : ℕ) → List ℕ → Bool
missized most s = ltb (length s) 1 || ltb most (length s)
