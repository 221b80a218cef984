-- Working definitions: nothing here has to be believed.
-- A text as it is read by lines: each line ends with its line feed, the last line may lack it.
-- Assumes nothing.
use Rattle.std.specs.Prelude.{ℕ, cond, List, [], ◌∷◌, ◌++◌, eqb}

-- The lines of a text, where the bytes `held` of the first line have been read before.
unfoldable pub lines_from : List ℕ → List ℕ → List (List ℕ)
lines_from [] [] = []
lines_from (h ∷ held) [] = (h ∷ held) ∷ []
lines_from held (b ∷ bs) =
    cond (eqb b 10) ((held ++ (b ∷ [])) ∷ lines_from [] bs) (lines_from (held ++ (b ∷ [])) bs)

-- The lines of a text.
abbrev pub lines_in : List ℕ → List (List ℕ)
lines_in text = lines_from [] text
