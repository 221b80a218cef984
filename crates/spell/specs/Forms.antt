-- Working definitions: nothing here has to be believed.
-- The own entries of a part of a text, those besides the entries of its tests, by the part's form. n entries are written before them, so n
-- is the number of the first, and `last` is n - 1, the last that is written: the test of a step, or the right test of "or". The argument
-- is the label of `label N`; else an entry: the test of "not", the left test of "or", and for a step what the rest of its path stands for.
--
--   form      part of the text          own entries: kind, first number, second number
--   1         true                      1
--   2         label N                   2 argument
--   3         not TEST                  3 argument
--   4         (TEST or TEST)            4 argument last
--   5         ?TEST                     5 argument last
--   6 to 9    AXIS                      form argument
--   10 to 13  AXIS*                     1 · form n argument
--   14        (child?TEST)*             5 argument last · 10 last n · 6 (n + 1) · 4 argument (n + 2)
--   15 to 17  (AXIS?TEST)*              (form - 8) last · (form - 4) n argument
--
-- Shuts out: until turned round; "and" or "or" turned round; the "true" of AXIS* merged with another.
-- Laws: proofs/FormLaws.antt. Assumes nothing.
use Rattle.std.specs.Prelude.{ℕ, pred, ◌+◌, ◌-◌, ◌*◌, ◌/◌, cond, ◌||◌, List, [], ◌∷◌, leb, eqb}
use Rattle.entry.specs.declared.entry.Entry.{Entry}
use Rattle.paths.specs.Translation.{entry}

-- The own entries of AXIS*,
unfoldable pub star_entries : (form argument n : ℕ) → List Entry
star_entries form argument n = entry 1 0 0 ∷ entry form n argument ∷ []

-- of (child?TEST)*,
unfoldable pub down_entries : (argument n : ℕ) → List Entry
down_entries argument n =
    entry 5 argument (pred n) ∷ entry 10 (pred n) n ∷ entry 6 (n + 1) 0 ∷ entry 4 argument (n + 2) ∷ []

-- of the same along another axis,
unfoldable pub beside_entries : (form argument n : ℕ) → List Entry
beside_entries form argument n = entry (form - 8) (pred n) 0 ∷ entry (form - 4) n argument ∷ []

-- and of every form.
unfoldable pub own_entries : (form argument n : ℕ) → List Entry
own_entries form argument n =
    cond (eqb form 4 || eqb form 5) (entry form argument (pred n) ∷ [])
    (cond (leb form 9) (entry form argument 0 ∷ [])
    (cond (leb form 13) (star_entries form argument n)
    (cond (eqb form 14) (down_entries argument n) (beside_entries form argument n))))

-- How many they are,
unfoldable pub form_entries : (form : ℕ) → ℕ
form_entries form = cond (leb form 9) 1 (cond (eqb form 14) 4 2)

-- and how many bytes their records have: the record of form 1 has no number, those of 2 and 3 have one, and those of 4 and 5 two.
unfoldable pub form_bytes : (form : ℕ) → ℕ
form_bytes form = cond (leb form 5) (4 + 2 * (form / 2)) (cond (leb form 9) 6 (cond (leb form 13) 12 (cond (eqb form 14) 30 14)))
