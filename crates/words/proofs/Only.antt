-- Every promise of a public function of this crate determines the answer: any two results that meet it are equal. Assumes nothing.
use Rattle.numbers.proofs.Only.{only}
use Prim.Native.Nat.{ℕ}
use mathlib.Core.Path.{◌≡◌}
use mathlib.Core.Bool.{Bool}
use mathlib.Core.List.{List, ◌++◌}
use lib.ListN.{drop}
use Rattle.paths.specs.Spelling.{gap, or_word}
use Rattle.std.specs.Prelude.{Result}
use Rattle.words.specs.declared.words.Stray.{Stray}
use Rattle.words.specs.declared.begins.Begin.{Begin}
use Rattle.words.specs.declared.begins.Start.{Start}
use Rattle.words.specs.Words.{head_of, fixed_at}
use Rattle.words.specs.Begins.{begin_at, start_at}

-- The byte at a cursor.
pub byte-at-only : (s : List ℕ) (at : ℕ) {r r' : ℕ} → r ≡ head_of (drop at s) → r' ≡ head_of (drop at s) → r ≡ r'
byte-at-only s at p q = only p q

-- Where a word ends or is missing.
pub fixed-at-only : (x s : List ℕ) (at : ℕ) {r r' : Result ℕ Stray} → r ≡ fixed_at x s at → r' ≡ fixed_at x s at → r ≡ r'
fixed-at-only x s at p q = only p q

-- .. `or`.
pub or-at-only : (after : Bool) (s : List ℕ) (at : ℕ) {r r' : Result ℕ Stray} → r ≡ fixed_at (gap after ++ or_word) s at → r' ≡ fixed_at (gap after ++ or_word) s at → r ≡ r'
or-at-only after s at p q = only p q

-- What a test begins with.
pub begins-at-only : (after : Bool) (s : List ℕ) (at : ℕ) {r r' : Result Begin Stray} → r ≡ begin_at after s at → r' ≡ begin_at after s at → r ≡ r'
begins-at-only after s at p q = only p q

-- What a step begins with.
pub start-at-only : (s : List ℕ) (at : ℕ) {r r' : Result Start Stray} → r ≡ start_at s at → r' ≡ start_at s at → r ≡ r'
start-at-only s at p q = only p q
