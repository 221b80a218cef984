-- `close_step`: 10 first, and else what the state's bytes say. Assumes nothing.
use Rattle.terms.proofs.FaultLaws.{handed-on}
use Rattle.onepass.proofs.CallLaws.{step-looks-ahead, ahead-none, step-closed}
use Rattle.onepass.proofs.export.close_step.Goals as goal

pub returns-in_err-looks_back : goal.returns-in_err-looks_back
returns-in_err-looks_back c =
    rw (handed-on c.from_residual.result _ c.from_residual.ensures.1) (step-looks-ahead _ _ _ _ _ _ c.in_err-looks_back.ensures)

pub returns-in_err-close_state : goal.returns-in_err-close_state
returns-in_err-close_state c =
    rw (handed-on c.from_residual-in_err-close_state.result _ c.from_residual-in_err-close_state.ensures.1)
    (step-closed _ _ _ _ (ahead-none _ c.in_ok-looks_back.ensures) c.in_err-close_state.ensures)

pub returns : goal.returns
returns c = step-closed _ _ _ _ (ahead-none _ c.in_ok-looks_back.ensures) c.in_ok-close_state.ensures
