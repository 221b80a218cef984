-- Numbers of what begins at a cursor fit: a cursor behind a bracket, the kind of an axis. Assumes nothing.
use mir.Val.{bool_byte}
use Prim.Native.Nat.{ℕ, ◌+◌, ◌-◌, ◌≤◌}
use native.Mathlib.Omega.{arith}
use mathlib.Core.Path.{◌≡◌, refl, ◌∙◌, sym}
use mathlib.Core.Bool.{Bool, true, false}
use mathlib.Core.List.{List}
use borrow.Author.Tests.{eqb-true}
use lib.Dec.{eqb}
use lib.ListN.{length, drop}
use Rattle.terms.specs.declared.kind.Axis.{Axis}
use Rattle.terms.specs.declared.kind.Axis.TheVariants.{Child as child, Parent as parent, Next as right, Previous as left}
use Rattle.paths.specs.Spelling.{axis_word}
use Rattle.paths.specs.Translation.{neighbour_kind}
use Rattle.std.specs.Prelude.{Result, Ok, Err}
use Rattle.words.specs.declared.words.Stray.{Stray}
use Rattle.words.specs.declared.begins.Named.{Named}
use Rattle.words.specs.Words.{head_of, fixed_at}
use Rattle.words.specs.Begins.{named_of, named_at, axis_at}
use Rattle.words.proofs.WordLaws.{by-test, front}

-- Behind a bracket the cursor is not past the end.
pub bracket-fits : (s : List ℕ) (at b : ℕ) → b ≡ head_of (drop at s) → at + bool_byte (eqb b 40) ≤ at + (length s - at)
bracket-fits s at b e = go (eqb b 40) refl where
  go : (w : Bool) → eqb b 40 ≡ w → at + bool_byte w ≤ at + (length s - at)
  go true i = omega (arith, (front s at 40 (sym e ∙ eqb-true b 40 i) (omega arith)).0)
  go false i = omega arith

-- The kind of one step along an axis.
abbrev Kinded : Result Named Stray → Type 0
Kinded (Ok a) = a.kind ≤ 9
Kinded (Err p) = Unit {0}

named-kind : (a : Axis) (r : Result ℕ Stray) → Kinded (named_of (neighbour_kind a) r)
unfolding neighbour_kind
named-kind child (Ok e) = omega arith
named-kind parent (Ok e) = omega arith
named-kind right (Ok e) = omega arith
named-kind left (Ok e) = omega arith
named-kind a (Err p) = tt

axis-kinded : (s : List ℕ) (at : ℕ) → Kinded (axis_at s at)
unfolding axis_at
axis-kinded s at =
    let b = head_of (drop at s) in
    let kinded : (a : Axis) → Kinded (named_at a s at) = λ a. named-kind a (fixed_at (axis_word a) s at) in
    by-test Kinded (eqb b 99) (λ t. kinded child)
    (λ t. by-test Kinded (eqb b 112) (λ t. kinded parent)
    (λ t. by-test Kinded (eqb b 114) (λ t. kinded right) (λ t. by-test Kinded (eqb b 108) (λ t. kinded left) (λ t. tt))))

pub axis-kind : (s : List ℕ) (at : ℕ) (r : Result Named Stray) (a : Named) → r ≡ axis_at s at → r ≡ Ok a → a.kind ≤ 9
axis-kind s at r a x q = let h : Kinded r = rw x (axis-kinded s at) in rw q at h
