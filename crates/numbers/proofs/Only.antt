-- What every law of one result rests on. Assumes nothing.
use mathlib.Core.Path.{◌≡◌, sym, ◌∙◌}

-- Two things that equal a third are equal.
pub only : {A : Type 0} {x y z : A} → x ≡ z → y ≡ z → x ≡ y
only p q = p ∙ sym q
