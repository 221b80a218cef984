use native.Mathlib.Omega.{arith}
use mathlib.Core.Path.{sym, ap, ◌∙◌}
use Rattle.terms.specs.Answer.{answered}
use Rattle.onepass.proofs.CallLaws.{opened-call, refused-call, accepted-some, refused-place}
use Rattle.onepass.proofs.export.pz_open.Goals as goal

pub open_step-requires : goal.open_step-requires
open_step-requires c = accepted-some _ _ _ c.walk_rule-walked.ensures.answer_is c.in-Ok.is

pub rule_refused-requires : goal.rule_refused-requires
rule_refused-requires c = refused-place _ _ _ c.walk_rule-walked.ensures.answer_is c.in-Err.is

pub returns-in-Ok : goal.returns-in-Ok
returns-in-Ok c =
    let r = opened-call _ _ _ _ _ _ _ _ c.words_of-words.ensures c.walk_rule-walked.ensures c.in-Ok.is c.open_step.ensures in
    record { answer = c.into.ensures ∙ r.0; state_is = r.1 }

pub returns-in-Err : goal.returns-in-Err
returns-in-Err c =
    let r = refused-call _ _ _ _ _ (sym c.walk_rule-walked.ensures.answer_is ∙ ap answered c.in-Err.is) in
    record { answer = c.rule_refused.ensures ∙ r.0; state_is = r.1 }
