-- Laws of one record at one offset: the five ways through its tests, what a whole record tells, and where records begin.
-- Assumes nothing.
use Prim.Native.Nat.{ℕ, ◌+◌, ◌≤◌, ◌<◌}
use native.Mathlib.Omega.{arith}
use borrow.Author.Tests.{lt-ltb, le-ltb, ltb-false, eq-eqb, ne_eqb, eqb-true, eqb-false}
use mathlib.Core.Path.{◌≡◌, refl, sym}
use mathlib.Core.Bool.{Bool, true, false, cond}
use mathlib.Core.List.{List}
use lib.Dec.{ltb, eqb}
use lib.ListN.{length}
use Rattle.numbers.specs.Bytes.{number_at}
use Rattle.terms.specs.Frame.{frame_of, Frame, Whole, Cut, Garbled}

module _ (s : List ℕ) (at expected : ℕ) where
  -- Fewer than 4 bytes left.
  pub frame-few : length s < at + 4 → frame_of s at expected ≡ Cut
  unfolding frame_of
  frame-few h = rw (lt-ltb (length s) (at + 4) h)

  -- No such kind.
  pub frame-unknown : at + 4 ≤ length s → expected ≡ 0 → frame_of s at expected ≡ Garbled
  unfolding frame_of
  frame-unknown h e = rw (le-ltb (length s) (at + 4) h, eq-eqb expected 0 e)

  -- Another length than the kind's.
  pub frame-wrong : at + 4 ≤ length s → (expected ≡ 0 → ⊥) → (number_at s at ≡ expected → ⊥) → frame_of s at expected ≡ Garbled
  unfolding frame_of
  frame-wrong h e n = rw (le-ltb (length s) (at + 4) h, ne_eqb expected 0 e, ne_eqb (number_at s at) expected n)

  -- Running past the end.
  pub frame_past : at + 4 ≤ length s → (expected ≡ 0 → ⊥) → number_at s at ≡ expected → length s < at + 2 + expected → frame_of s at expected ≡ Cut
  unfolding frame_of
  frame_past h e n p =
      rw (le-ltb (length s) (at + 4) h, ne_eqb expected 0 e, eq-eqb (number_at s at) expected n, lt-ltb (length s) (at + 2 + expected) p)

  -- None of these.
  pub frame-whole : at + 4 ≤ length s → (expected ≡ 0 → ⊥) → number_at s at ≡ expected → at + 2 + expected ≤ length s → frame_of s at expected ≡ Whole
  unfolding frame_of
  frame-whole h e n p =
      rw (le-ltb (length s) (at + 4) h, ne_eqb expected 0 e, eq-eqb (number_at s at) expected n, le-ltb (length s) (at + 2 + expected) p)

  -- What a whole record tells.
  pub record Stands : Type 0 where
    pub room : at + 4 ≤ length s
    pub known : expected ≡ 0 → ⊥
    pub long : number_at s at ≡ expected
    pub ends : at + 2 + expected ≤ length s

  apart : {A : Type 0} {f : Frame} → Whole ≡ f → f ≡ Cut → A
  apart e g = let z : ◌≡◌ {A = ℕ} 0 1 = cc in absurd (omega arith)

  apart' : {A : Type 0} {f : Frame} → Whole ≡ f → f ≡ Garbled → A
  apart' e g = let z : ◌≡◌ {A = ℕ} 0 1 = cc in absurd (omega arith)

  pub whole-stands : frame_of s at expected ≡ Whole → Stands
  unfolding frame_of
  whole-stands w =
      go (ltb (length s) (at + 4)) (eqb expected 0) (eqb (number_at s at) expected) (ltb (length s) (at + 2 + expected)) refl refl refl refl w
    where
      go : (few unknown right past : Bool) → ltb (length s) (at + 4) ≡ few → eqb expected 0 ≡ unknown → eqb (number_at s at) expected ≡ right
          → ltb (length s) (at + 2 + expected) ≡ past
          → cond few Cut (cond unknown Garbled (cond right (cond past Cut Whole) Garbled)) ≡ Whole → Stands
      go true unknown right past p q r t e = apart (sym e) refl
      go false true right past p q r t e = apart' (sym e) refl
      go false false true true p q r t e = apart (sym e) refl
      go false false false past p q r t e = apart' (sym e) refl
      go false false true false p q r t e =
          record {
            room = ltb-false (length s) (at + 4) p;
            known = eqb-false expected 0 q;
            long = eqb-true (number_at s at) expected r;
            ends = ltb-false (length s) (at + 2 + expected) t;
          }
