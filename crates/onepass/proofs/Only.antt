-- Every promise of a public function of this crate determines the answer and every byte of the lent state: any two results that meet
-- it are equal. Assumes nothing.
use Prim.Native.Nat.{ℕ}
use mathlib.Core.Path.{◌≡◌}
use mathlib.Core.List.{List}
use Rattle.onepass.specs.Step.{Started, Opened, Closed}
use Rattle.onepass.specs.declared.export.StepReply.{StepReply}
use Rattle.numbers.proofs.Only.{only}

-- What start answers and leaves.
pub pz-start-only : (s : List ℕ) {r r' : StepReply} {after after' : List ℕ} → Started s r after → Started s r' after'
    → (r ≡ r') × (after ≡ after')
pz-start-only s p q = (only p.answer q.answer, only p.state_is q.state_is)

-- What open answers and leaves.
pub pz-open-only : (rule s : List ℕ) (label : ℕ) {r r' : StepReply} {after after' : List ℕ} → Opened rule s label r after
    → Opened rule s label r' after' → (r ≡ r') × (after ≡ after')
pz-open-only rule s label p q = (only p.answer q.answer, only p.state_is q.state_is)

-- What close answers and leaves.
pub pz-close-only : (rule s : List ℕ) {r r' : StepReply} {after after' : List ℕ} → Closed rule s r after → Closed rule s r' after'
    → (r ≡ r') × (after ≡ after')
pz-close-only rule s p q = (only p.answer q.answer, only p.state_is q.state_is)
