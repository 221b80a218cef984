-- A number in decimal, as ASCII bytes: the digits from the highest to the lowest, no leading zero, and `0` for 0.
-- Shuts out: a digit left out; digits in the other order; a leading zero.
-- Laws: proofs/DecimalLaws.antt. Assumes nothing.
use Rattle.std.specs.Prelude.{ℕ, zero, suc, ◌+◌, ◌*◌, ◌-◌, ◌/◌, ◌%◌, cond, List, [], ◌∷◌, ◌++◌, ltb}

-- The byte of a digit: `0` is 48.
abbrev pub digit : ℕ → ℕ
digit d = 48 + d

-- The digits of n, where k digits are enough: all but the lowest, which are those of n / 10, and then the lowest.
unfoldable pub digits : ℕ → ℕ → List ℕ
digits zero n = []
digits (suc k) n = cond (ltb n 10) (digit n ∷ []) (digits k (n / 10) ++ (digit (n % 10) ∷ []))

-- A number in decimal. It has no more digits than n + 1.
unfoldable pub decimal : ℕ → List ℕ
decimal n = digits (suc n) n

-- ==== Working definitions: nothing below has to be believed

-- The number that digits say, where v was read before them: each digit takes what stands before it times ten.
unfoldable pub value_from : ℕ → List ℕ → ℕ
value_from v [] = v
value_from v (d ∷ ds) = value_from (10 * v + (d - 48)) ds

-- The number that digits say.
abbrev pub value_of : List ℕ → ℕ
value_of ds = value_from 0 ds
