-- Working definitions: nothing here has to be believed.
-- Bytes, fixed words and numbers at a cursor, told by the bytes from there. Past the end there is none.
-- Shuts out: a place one byte late; a number that begins with 0. Nothing here has to be believed: what a text gets is said in `paths`.
-- Laws: proofs/WordLaws.antt (what the answers say of reading), proofs/Only.antt. Assumes nothing.
use Rattle.std.specs.Prelude.{ℕ, ◌+◌, ◌-◌, Bool, cond, ◌&&◌, List, [], ◌∷◌, leb, eqb, length, take, drop, Option, Some, None, Result, Ok, Err}
use Rattle.text.specs.Decimal.{value_of}
use Rattle.paths.proofs.Descent.{agree}
use Rattle.words.specs.declared.words.Stray.{Stray}
use Rattle.words.specs.declared.words.Number.{Number}

-- The first byte, 0 where there is none.
unfoldable pub head_of : List ℕ → ℕ
head_of [] = 0
head_of (b ∷ s) = b

-- It is a digit from `low` to 9.
unfoldable pub digit_from : (low : ℕ) → List ℕ → Bool
digit_from low s = leb low (head_of s) && leb (head_of s) 57

-- Nothing is read, because of what stands at the place.
abbrev pub stray : {A : Type 0} → (place : ℕ) → Result A Stray
stray p = Err (record { place = p })

-- What the first byte counts as a digit from `low` to 9.
unfoldable pub digit_of : (low : ℕ) → List ℕ → Option ℕ
digit_of low s = cond (digit_from low s) (Some (head_of s - 48)) None

-- The word x at the cursor: it stands there whole and ends so; or it is missing where its bytes no longer agree.
unfoldable pub fixed_at : (x s : List ℕ) (at : ℕ) → Result ℕ Stray
fixed_at x s at =
    let k = agree x (drop at s) in cond (eqb k (length x)) (Ok (at + k)) (stray (at + k))

-- How many digits the number at the front has, 1 to 3 and the first not 0; 0 where there is no number.
unfoldable pub digits_of : List ℕ → ℕ
digits_of s = cond (digit_from 49 s) (cond (digit_from 48 (drop 1 s)) (cond (digit_from 48 (drop 2 s)) 3 2) 1) 0

-- .. and what they say, 0 where there is none.
unfoldable pub numeral_of : List ℕ → ℕ
numeral_of s = value_of (take (digits_of s) s)

-- The number at the front.
unfoldable pub number_at : List ℕ → Option Number
number_at s =
    let n = digits_of s in cond (eqb n 0) None (Some (record { digits = n; value = numeral_of s }))
