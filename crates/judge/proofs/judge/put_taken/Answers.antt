-- `put_taken` puts the text of the marking's tables where the marking accepts, and nothing where it refuses. Assumes nothing.
use Prim.Native.Nat.{ℕ}
use mathlib.Core.Path.{refl}
use lib.ListN.{length-replicate}
use Rattle.terms.specs.Limits.{elements_most}
use Rattle.terms.proofs.FaultLaws.{fault-number-some}
use Rattle.judge.proofs.PrintoutLaws.{marked-told, accepted-with, accepted-rendered, put_refused, put-taken, handed-on}
use borrow.Author.Rules.{rules}
use Rattle.judge.proofs.judge.put_taken.Goals as goal

pub overflow_sub-marked : goal.overflow_sub-marked
overflow_sub-marked c = let l = length-replicate {A = ℕ} elements_most 0 in (accepted-with _ _ _ _ _ _ _ l l l l c.mark_report-marked.ensures _ c.in_ok-counted.was).some_entry

pub returns : goal.returns
returns c =
    let l = length-replicate {A = ℕ} elements_most 0 in
    let m = c.mark_report-marked in
    let a = accepted-with _ _ _ _ _ _ _ l l l l m.ensures _ c.in_ok-counted.was in
    put-taken _ _ (marked-told _ _ _ _ _ _ _ l l l l m.ensures _ c.in_ok-counted.was) (search rules) refl (accepted-rendered _ _ _ _ _ _ _ _ a c.put_accepted.ensures)

pub returns-in_err-counted : goal.returns-in_err-counted
returns-in_err-counted c =
    let l = length-replicate {A = ℕ} elements_most 0 in
    let f = c.in_err-counted.field-0.0 in
    put_refused _ _ (marked-told _ _ _ _ _ _ _ l l l l c.mark_report-marked.ensures _ c.in_err-counted.was) l _ (fault-number-some f.fault) (handed-on _ f c.from_residual.ensures.1)
