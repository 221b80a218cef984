-- `close_state`: one law for each way out. Assumes nothing.
use native.Mathlib.Omega.{arith}
use mathlib.Core.Path.{ap, refl, sym, ◌∙◌}
use Rattle.std.specs.Prelude.{Ok, Err}
use Rattle.terms.specs.Answer.{fault_number}
use Rattle.terms.proofs.FaultLaws.{fault-number-some, handed-on}
use Rattle.state.proofs.NumberLaws.{front-of, number-other-size, number-bad, number-closes, closes-fine, close-refused, close-taken}
use Rattle.state.proofs.state.close_state.Goals as goal

pub returns-in_default : goal.returns-in_default
returns-in_default c = let h = c.in_default.ensures in close-refused _ _ (number-other-size _ _ h.cases) (fault-number-some _) refl

pub returns-in_err-depth : goal.returns-in_err-depth
returns-in_err-depth c =
    let h = c.in-Some.ensures.cases in
    let f = front-of (Err c.in_err-depth.field-0.0) h.same c.in_err-depth.ensures in
    let n = ap fault_number (handed-on c.from_residual.result _ c.from_residual.ensures.1) in
    close-refused _ _ (n ∙ number-bad _ _ h.long f) (λ z. fault-number-some _ (sym n ∙ z)) h.same

pub returns-in_err-close_fault : goal.returns-in_err-close_fault
returns-in_err-close_fault c =
    let h = c.in-Some.ensures.cases in
    let f = front-of (Ok c.in_ok-depth.field-0) h.same c.in_ok-depth.ensures in
    let n = ap fault_number (handed-on c.from_residual-in_err-close_fault.result _ c.from_residual-in_err-close_fault.ensures.1) in
    close-refused _ _ (n ∙ number-closes _ _ h.long f c.in_err-close_fault.ensures) (λ z. fault-number-some _ (sym n ∙ z)) h.same

pub overflow_sub-depth : goal.overflow_sub-depth
overflow_sub-depth c =
    let h = c.in-Some.ensures.cases in
    let f = front-of (Ok c.in_ok-depth.field-0) h.same c.in_ok-depth.ensures in
    let r = closes-fine _ (sym (number-closes _ _ h.long f c.in_ok-close_fault.ensures)) in
    omega (arith, f.1, r.1)

pub store_closing-requires : goal.store_closing-requires
store_closing-requires c =
    let h = c.in-Some.ensures.cases in
    let f = front-of (Ok c.in_ok-depth.field-0) h.same c.in_ok-depth.ensures in
    let r = closes-fine _ (sym (number-closes _ _ h.long f c.in_ok-close_fault.ensures)) in
    omega (arith, f.1, r.1, r.2)

pub returns : goal.returns
returns c =
    let h = c.in-Some.ensures.cases in
    let f = front-of (Ok c.in_ok-depth.field-0) h.same c.in_ok-depth.ensures in
    close-taken _ _ (number-closes _ _ h.long f c.in_ok-close_fault.ensures) refl f.1 (rw (← h.same) c.store_closing.ensures)
