-- `pz_print`: what it is told fits 32 bits. Assumes nothing.
use native.Mathlib.Omega.{arith}
use mathlib.Core.Path.{ap}
use lib.ListN.{length}
use Rattle.printing.specs.declared.export.PrintReply.{PrintReply}
use Rattle.printing.proofs.Given.{print-small}
use Rattle.printing.proofs.export.pz_print.Goals as goal

pub told-requires-clause-place_fits : goal.told-requires-clause-place_fits
told-requires-clause-place_fits c =
    let a = c.args in
    omega (arith, ap (λ (r : PrintReply). r.place) c.print.ensures.reply_is, (print-small a.rule.now a.report.now (length a.text.now)).place_in)

pub told-requires-clause-count_fits : goal.told-requires-clause-count_fits
told-requires-clause-count_fits c =
    let a = c.args in
    omega (arith, ap (λ (r : PrintReply). r.written) c.print.ensures.reply_is, (print-small a.rule.now a.report.now (length a.text.now)).count_within)
