-- `pz_read_rule` gives the rule reader's answer as numbers: each fits, by the laws of `rules` and `reports` on places and counts. Assumes nothing.
use native.Mathlib.Omega.{arith}
use mathlib.Core.Path.{ap}
use Rattle.terms.specs.Answer.{place_of, count_of}
use Rattle.rules.proofs.EntryLaws.{rule-small}
use Rattle.records.proofs.export.pz_read_rule.Goals as goal

pub overflow_cast-result : goal.overflow_cast-result
overflow_cast-result c =
    omega (
      arith,
      (rule-small c.args.rule.now).count_within,
      ap count_of (c.in-Ok.ensures),
    )

pub overflow_cast-result-in-Err : goal.overflow_cast-result-in-Err
overflow_cast-result-in-Err c =
    omega (
      arith,
      (rule-small c.args.rule.now).place_in,
      ap place_of (c.in-Err.ensures),
    )
