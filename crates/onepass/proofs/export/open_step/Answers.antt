-- `open_step`: 10 first, and else what the state's bytes say. Assumes nothing.
use Rattle.terms.proofs.FaultLaws.{handed-on}
use Rattle.onepass.proofs.CallLaws.{step-looks-ahead, ahead-none, step-opened, step-not-opened}
use Rattle.onepass.proofs.export.open_step.Goals as goal

pub returns-in_err-looks_back : goal.returns-in_err-looks_back
returns-in_err-looks_back c =
    rw (handed-on c.from_residual.result _ c.from_residual.ensures.1) (step-looks-ahead _ _ _ _ _ _ c.in_err-looks_back.ensures)

pub returns-in_err-open_state : goal.returns-in_err-open_state
returns-in_err-open_state c =
    rw (handed-on c.from_residual-in_err-open_state.result _ c.from_residual-in_err-open_state.ensures.1)
    (step-not-opened _ _ _ c.args.n _ _ _ (ahead-none _ c.in_ok-looks_back.ensures) c.in_err-open_state.ensures)

pub returns : goal.returns
returns c = step-opened _ _ _ _ _ _ _ (ahead-none _ c.in_ok-looks_back.ensures) c.in_ok-open_state.ensures c.bit_at.ensures
