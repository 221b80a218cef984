-- `print` puts the whole text into a buffer of its own, and copies it where there is room. Assumes nothing.
use Prim.Native.Nat.{ℕ}
use mathlib.Core.Path.{ap}
use mathlib.Core.List.{[]}
use lib.ListN.{length-replicate}
use Rattle.terms.specs.Answer.{number_of_fault}
use Rattle.text.specs.Rendered.{buffer_size}
use Rattle.judge.proofs.PrintoutLaws.{handed-on}
use Rattle.printing.specs.Given.{print_reply}
use Rattle.printing.proofs.Given.{whole-fits, given-untaken, given-short, given-taken}
use Rattle.printing.proofs.export.print.Goals as goal

pub returns-in_err-written : goal.returns-in_err-written
returns-in_err-written c =
    let f = c.in_err-written.field-0.0 in
    given-untaken _ _ _ c.put_taken.ensures f c.in_err-written.was (ap print_reply (handed-on _ f c.from_residual.ensures.1))

pub returns-then-text-written : goal.returns-then-text-written
unfolding number_of_fault
returns-then-text-written c = given-short _ _ _ c.put_taken.ensures _ c.in_ok-written.was c.if-text-written.true (rw c.at.ensures)

pub returns : goal.returns
returns c = given-taken _ _ _ c.put_taken.ensures _ c.in_ok-written.was (length-replicate {A = ℕ} buffer_size 0) c.if-text-written.false c.copy_front.ensures

pub copy_front-requires : goal.copy_front-requires
copy_front-requires c =
    (whole-fits _ _ [] c.put_taken.ensures _ (length-replicate {A = ℕ} buffer_size 0) c.in_ok-written.was, c.if-text-written.false)
