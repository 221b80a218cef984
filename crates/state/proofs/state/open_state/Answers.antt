-- `open_state`: one law for each way out. Assumes nothing.
use native.Mathlib.Omega.{arith}
use mathlib.Core.Path.{ap, refl, sym, ◌∙◌}
use Rattle.std.specs.Prelude.{Ok, Err}
use Rattle.terms.specs.Answer.{fault_number}
use Rattle.terms.proofs.FaultLaws.{fault-number-some, handed-on}
use Rattle.state.proofs.NumberLaws.{front-of, number-other-size, number-bad, number-opens, opens-fine, open-refused, open-taken}
use Rattle.state.proofs.state.open_state.Goals as goal

pub returns-in_default : goal.returns-in_default
returns-in_default c = let h = c.in_default.ensures in open-refused _ _ _ _ (number-other-size _ _ h.cases) (fault-number-some _) refl

pub returns-in_err-front : goal.returns-in_err-front
returns-in_err-front c =
    let h = c.in-Some.ensures.cases in
    let f = front-of (Err c.in_err-front.field-0.0) h.same c.in_err-front.ensures in
    let n = ap fault_number (handed-on c.from_residual.result _ c.from_residual.ensures.1) in
    open-refused _ _ _ _ (n ∙ number-bad _ _ h.long f) (λ z. fault-number-some _ (sym n ∙ z)) h.same

pub returns-in_err-open_fault : goal.returns-in_err-open_fault
returns-in_err-open_fault c =
    let h = c.in-Some.ensures.cases in
    let f = front-of (Ok c.in_ok-front.front) h.same c.in_ok-front.ensures in
    let n = ap fault_number (handed-on c.from_residual-in_err-open_fault.result _ c.from_residual-in_err-open_fault.ensures.1) in
    open-refused _ _ _ _ (n ∙ number-opens _ _ _ h.long f c.in_err-open_fault.ensures) (λ z. fault-number-some _ (sym n ∙ z)) h.same

pub store_opening-requires : goal.store_opening-requires
store_opening-requires c =
    let h = c.in-Some.ensures.cases in
    let f = front-of (Ok c.in_ok-front.front) h.same c.in_ok-front.ensures in
    let r = opens-fine _ _ (sym (number-opens _ _ _ h.long f c.in_ok-open_fault.ensures)) in
    (omega (arith, f.1, r.1), omega (arith, f.2, r.2))

pub returns : goal.returns
returns c =
    let h = c.in-Some.ensures.cases in
    let f = front-of (Ok c.in_ok-front.front) h.same c.in_ok-front.ensures in
    open-taken _ _ _ _ (number-opens _ _ _ h.long f c.in_ok-open_fault.ensures) refl f.1 f.2 (rw (← h.same) c.store_opening.ensures)
