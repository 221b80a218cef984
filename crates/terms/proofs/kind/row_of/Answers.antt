-- `row_of` finds the row of the table: a range of kinds by the law that serves every range. Assumes nothing.
use Prim.Native.Nat.{◌-◌, ◌≤◌}
use native.Mathlib.Omega.{arith}
use mathlib.Core.Path.{◌≡◌, refl, ap, sym}
use lib.ListN.{get_or-eq_default}
use Rattle.terms.specs.Kinds.{row, no_kind, kind_rows, row_of, axis_of, local_numbers, numbers_of}
use Rattle.terms.specs.declared.kind.Shape.TheVariants.{SomeAlong, UntilAlong}
use Rattle.terms.proofs.KindLaws.{each}
use Rattle.terms.proofs.kind.row_of.Goals as goal

pub returns-in-14 : goal.returns-in-14
unfolding row_of numbers_of local_numbers axis_of
returns-in-14 c = sym (ap row_of c.in-14.is)

pub returns-in-6-to-9 : goal.returns-in-6-to-9
unfolding row_of numbers_of local_numbers axis_of
returns-in-6-to-9 c =
    rw c.axis_of.ensures
    (sym (each (λ k. row_of k ≡ row 4 1 (SomeAlong (axis_of (k - 6)))) 6 4 (refl, (refl, (refl, (refl, tt)))) c.args.kind (omega arith) (omega arith)))

pub returns-in-10-to-13 : goal.returns-in-10-to-13
unfolding row_of numbers_of local_numbers axis_of
returns-in-10-to-13 c =
    rw c.axis_of-in-10-to-13.ensures
    (sym (each (λ k. row_of k ≡ row 6 2 (UntilAlong (axis_of (k - 10)))) 10 4 (refl, (refl, (refl, (refl, tt)))) c.args.kind (omega arith) (omega arith)))

pub returns-in_default : goal.returns-in_default
unfolding row_of numbers_of local_numbers axis_of
returns-in_default c = let z : c.args.kind ≡ 0 = omega arith in sym (ap row_of z)

pub returns-in_default-2 : goal.returns-in_default-2
unfolding row_of numbers_of local_numbers axis_of
returns-in_default-2 c = let l : 15 ≤ c.args.kind = omega arith in sym (get_or-eq_default kind_rows no_kind l)
