-- Every promise of a public function of this crate determines the answer, and every place that is lent to it: any two results that meet
-- it are equal. Assumes nothing.
use Rattle.numbers.proofs.Only.{only}
use Prim.Native.Nat.{ℕ}
use mathlib.Core.Path.{◌≡◌}
use mathlib.Core.Bool.{Bool}
use Rattle.terms.specs.Kinds.{row_of, leads_back, shape_looks_back}
use Rattle.terms.specs.declared.kind.Axis.{Axis}
use Rattle.terms.specs.declared.kind.Row.{Row}
use Rattle.terms.specs.declared.kind.Shape.{Shape}

-- The row of a kind.
pub row-of-only : (kind : ℕ) {r r' : Row} → r ≡ row_of kind → r' ≡ row_of kind → r ≡ r'
row-of-only kind p q = only p q

-- Whether an axis leads back, and whether an entry looks back.
pub leads-back-only : (x : Axis) {r r' : Bool} → r ≡ leads_back x → r' ≡ leads_back x → r ≡ r'
leads-back-only x p q = only p q

pub looks-back-only : (shape : Shape) {r r' : Bool} → r ≡ shape_looks_back shape → r' ≡ shape_looks_back shape → r ≡ r'
looks-back-only shape p q = only p q
