-- Working definitions: nothing here has to be believed.
-- The first of some numbers at which a test passes: what "the first faulty record decides" is said with.
-- Laws: proofs/First.antt. Assumes nothing.
use Rattle.std.specs.Prelude.{ℕ, zero, suc, Bool, cond}

-- The first number from i on at which p passes, among n of them; i + n where it passes at none.
unfoldable pub first_from : (ℕ → Bool) → ℕ → ℕ → ℕ
first_from p i zero = i
first_from p i (suc n) = cond (p i) i (first_from p (suc i) n)

-- The first number below n at which p passes; n where it passes at none.
abbrev pub first : (ℕ → Bool) → ℕ → ℕ
first p n = first_from p 0 n
