-- Every promise of a public function of this crate determines the answer and every byte of the lent state: any two results that meet
-- it are equal. Assumes nothing.
use Prim.Native.Nat.{ℕ}
use mathlib.Core.Path.{◌≡◌}
use mathlib.Core.List.{List}
use Rattle.std.specs.Prelude.{Result}
use Rattle.terms.specs.Answer.{fault_number}
use Rattle.terms.specs.declared.refusal.Fault.{Fault}
use Rattle.terms.proofs.FaultLaws.{fault-number-only}
use Rattle.state.specs.Promises.{WordsRead, StateStarted, StateOpened, StateClosed}
use Rattle.state.specs.declared.state.Words.{Words}
use Rattle.numbers.proofs.Only.{only}

-- The words that an opening reads.
pub words-of-only : (s : List ℕ) {r r' : Words} → WordsRead s r → WordsRead s r' → r ≡ r'
words-of-only s p q = rw (only p.parent_is q.parent_is, only p.sibling_is q.sibling_is)

-- What start answers and leaves.
pub start-state-only : (s : List ℕ) {r r' : Result Unit Fault} {after after' : List ℕ} → StateStarted s (fault_number r) after
    → StateStarted s (fault_number r') after' → (r ≡ r') × (after ≡ after')
start-state-only s p q = (fault-number-only _ _ (only p.number_is q.number_is), only p.state_is q.state_is)

-- What an opening answers and leaves.
pub open-state-only : (s : List ℕ) (label w : ℕ) {r r' : Result Unit Fault} {after after' : List ℕ} → StateOpened s label w (fault_number r) after
    → StateOpened s label w (fault_number r') after' → (r ≡ r') × (after ≡ after')
open-state-only s label w p q = (fault-number-only _ _ (only p.number_is q.number_is), only p.state_is q.state_is)

-- What a closing answers and leaves.
pub close-state-only : (s : List ℕ) {r r' : Result Unit Fault} {after after' : List ℕ} → StateClosed s (fault_number r) after
    → StateClosed s (fault_number r') after' → (r ≡ r') × (after ≡ after')
close-state-only s p q = (fault-number-only _ _ (only p.number_is q.number_is), only p.state_is q.state_is)
