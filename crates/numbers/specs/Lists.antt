-- Lists: the values of a function at the first numbers, and values stored in a lent list one after the other.
-- Laws: proofs/Lists.antt. Assumes nothing.
use Rattle.std.specs.Prelude.{ℕ, zero, suc, List, [], ◌∷◌, ◌++◌}
use Rattle.std.proofs.lemmas.List.Edits.{sets}

-- The values of f at the numbers below n, in order.
module _ {A : Type 0} where
  unfoldable pub listed : ℕ → (ℕ → A) → List A
  listed zero f = []
  listed (suc n) f = listed n f ++ (f n ∷ [])

-- ==== Working definitions: nothing below has to be believed

module _ {A : Type 0} where
  -- A lent list with the values xs stored from an offset on, one after the other; every other place keeps its contents.
  unfoldable pub put_at : List A → ℕ → List A → List A
  put_at lent at xs = sets lent at xs

  -- Stored in its first places.
  abbrev pub over : List A → List A → List A
  over xs lent = put_at lent 0 xs
