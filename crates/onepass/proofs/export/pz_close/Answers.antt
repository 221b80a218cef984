use native.Mathlib.Omega.{arith}
use mathlib.Core.Path.{sym, ap, ◌∙◌}
use Rattle.terms.specs.Answer.{answered}
use Rattle.onepass.proofs.CallLaws.{closed-call, refused-call, refused-place}
use Rattle.onepass.proofs.export.pz_close.Goals as goal

pub rule_refused-requires : goal.rule_refused-requires
rule_refused-requires c = refused-place _ _ _ c.ask_rule-asked.ensures.answer_is c.in-Err.is

pub returns-in-Ok : goal.returns-in-Ok
returns-in-Ok c =
    let r = closed-call _ _ _ _ _ _ c.ask_rule-asked.ensures c.in-Ok.is c.close_step.ensures in
    record { answer = c.into.ensures ∙ r.0; state_is = r.1 }

pub returns-in-Err : goal.returns-in-Err
returns-in-Err c =
    let r = refused-call _ _ _ _ _ (sym c.ask_rule-asked.ensures.answer_is ∙ ap answered c.in-Err.is) in
    record { answer = c.rule_refused.ensures ∙ r.0; state_is = r.1 }
