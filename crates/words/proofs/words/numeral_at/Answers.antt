use Rattle.words.proofs.WordLaws.{none_found, one_found, two-found, three-found}
use mathlib.Core.Path.{◌∙◌}
use Rattle.words.proofs.words.numeral_at.Goals as goal

pub returns-in_err-one : goal.returns-in_err-one
returns-in_err-one c = c.from_residual.ensures ∙ none_found c.args.s.now c.args.at c.digit_at.result c.digit_at.ensures.value c.in_err-one.was

pub returns-in_default : goal.returns-in_default
returns-in_default c = one_found c.args.s.now c.args.at c.digit_at.result c.digit_at.ensures.value _ c.in_ok-one.was c.digit_at-2.result c.digit_at-2.ensures.value c.in_default.is

pub returns-in_default-digit_at : goal.returns-in_default-digit_at
returns-in_default-digit_at c = two-found c.args.s.now c.args.at c.digit_at.result c.digit_at.ensures.value _ c.in_ok-one.was c.digit_at-2.result c.digit_at-2.ensures.value _ c.in-Some.is c.digit_at-3.result c.digit_at-3.ensures.value c.in_default-digit_at.is

pub returns : goal.returns
returns c = three-found c.args.s.now c.args.at c.digit_at.result c.digit_at.ensures.value _ c.in_ok-one.was c.digit_at-2.result c.digit_at-2.ensures.value _ c.in-Some.is c.digit_at-3.result c.digit_at-3.ensures.value _ c.in-Some-digit_at.is
