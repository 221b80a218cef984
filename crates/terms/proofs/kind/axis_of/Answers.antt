-- `axis_of` finds the axis. Assumes nothing.
use mathlib.Core.Path.{◌≡◌, ap, sym}
use native.Mathlib.Omega.{arith}
use Prim.Native.Nat.{ℕ, suc, ◌≤◌}
use mathlib.Core.List.{[], ◌∷◌}
use lib.ListN.{get_or-eq_default}
use lib.Arith.{lt_of_le-ne}
use Rattle.terms.specs.declared.kind.Axis.TheVariants.{Child, Parent, Next, Previous}
use Rattle.terms.specs.Kinds.{axis_of}
use Rattle.terms.proofs.kind.axis_of.Goals as goal

range-past : {k m : ℕ} → m ≤ k → (k ≡ m → ⊥) → suc m ≤ k
range-past l n = lt_of_le-ne l (λ e. n (sym e))

pub returns-in-0 : goal.returns-in-0
unfolding axis_of
returns-in-0 c = sym (ap axis_of c.in-0.is)

pub returns-in-1 : goal.returns-in-1
unfolding axis_of
returns-in-1 c = sym (ap axis_of c.in-1.is)

pub returns-in-2 : goal.returns-in-2
unfolding axis_of
returns-in-2 c = sym (ap axis_of c.in-2.is)

pub returns-in_default : goal.returns-in_default
unfolding axis_of
returns-in_default c =
    let r = c.in_default.in_default-own.rest in
    let z : 0 ≤ c.args.n = omega arith in
    let l : 3 ≤ c.args.n = range-past (range-past (range-past z r.0.0.1) r.0.1) r.1 in
    sym (get_or-eq_default (Child ∷ Parent ∷ Next ∷ []) Previous l)
