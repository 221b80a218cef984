-- The promise of `lay_out` determines the answer and every place of the columns: any two results that meet it are equal.
-- Assumes nothing.
use Prim.Native.Nat.{ℕ}
use mathlib.Core.Path.{◌≡◌}
use mathlib.Core.List.{List}
use Rattle.std.specs.Prelude.{Result}
use Rattle.terms.specs.Answer.{Answer, answered}
use Rattle.terms.specs.declared.refusal.Refusal.{Refusal}
use Rattle.layout.specs.Layout.{LaidOut}
use Rattle.numbers.proofs.Only.{only}
use Rattle.terms.proofs.FaultLaws.{answered-only}

-- Whatever is answered, of the columns.
pub laid-columns-only : (report labels levels ups lefts : List ℕ) {r r' : Answer} {l l' d d' u u' f f' : List ℕ}
    → LaidOut report labels levels ups lefts r l d u f → LaidOut report labels levels ups lefts r' l' d' u' f'
    → (l ≡ l') × (d ≡ d') × (u ≡ u') × (f ≡ f')
laid-columns-only report labels levels ups lefts p q =
    (only p.read.labels_are q.read.labels_are, only p.read.levels_are q.read.levels_are, only p.ups_are q.ups_are, only p.lefts_are q.lefts_are)

pub laid-out-only : (report labels levels ups lefts : List ℕ) (r r' : Result ℕ Refusal) {l l' d d' u u' f f' : List ℕ}
    → LaidOut report labels levels ups lefts (answered r) l d u f → LaidOut report labels levels ups lefts (answered r') l' d' u' f'
    → (r ≡ r') × (l ≡ l') × (d ≡ d') × (u ≡ u') × (f ≡ f')
laid-out-only report labels levels ups lefts r r' p q =
    let e = laid-columns-only report labels levels ups lefts p q in
    (answered-only r r' (only p.read.answer q.read.answer), e.0, e.1, e.2, e.3)
