-- `local_row` finds the row of the table. Assumes nothing.
use Prim.Native.Nat.{ℕ, suc, ◌≤◌}
use native.Mathlib.Omega.{arith}
use mathlib.Core.Path.{◌≡◌, ap, sym}
use lib.Arith.{lt_of_le-ne}
use Rattle.terms.specs.Kinds.{row_of, local_numbers, numbers_of}
use Rattle.terms.proofs.kind.local_row.Goals as goal

-- One number less of a range, at its start.
past : {k m : ℕ} → m ≤ k → (k ≡ m → ⊥) → suc m ≤ k
past l n = lt_of_le-ne l (λ e. n (sym e))

pub returns-in-1 : goal.returns-in-1
unfolding row_of numbers_of local_numbers
returns-in-1 c = sym (ap row_of c.in-1.is)

pub returns-in-2 : goal.returns-in-2
unfolding row_of numbers_of local_numbers
returns-in-2 c = sym (ap row_of c.in-2.is)

pub returns-in-3 : goal.returns-in-3
unfolding row_of numbers_of local_numbers
returns-in-3 c = sym (ap row_of c.in-3.is)

pub returns-in-4 : goal.returns-in-4
unfolding row_of numbers_of local_numbers
returns-in-4 c = sym (ap row_of c.in-4.is)

pub returns-in_default : goal.returns-in_default
unfolding row_of numbers_of local_numbers
returns-in_default c =
    let r = c.in_default.in_default-own.rest in
    let l = past (past (past (past c.requires.0 r.0.0.0.1) r.0.0.1) r.0.1) r.1 in
    let e : c.args.kind ≡ 5 = omega (arith, l, c.requires.1) in sym (ap row_of e)
