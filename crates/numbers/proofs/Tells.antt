-- A proposition told by a test: the one holds exactly where the other passes; and which of some numbers a chain of tests picks.
-- One law for each connective. Assumes nothing.
use Prim.Native.Nat.{ℕ, ◌≤◌, ◌<◌}
use native.Mathlib.Omega.{arith}
use mathlib.Core.Path.{◌≡◌, refl, sym}
use mathlib.Core.Bool.{Bool, true, false, cond, not, ◌||◌, ◌&&◌}
use mathlib.Core.Logic.{◌⊎◌, inl, inr, ◌↔◌}
use lib.Dec.{leb, ltb, eqb}
use borrow.Author.Tests.{ltb-true, ltb-false, leb-true, leb-false, eqb-true, eqb-false}
use Rattle.numbers.proofs.First.{clash}

-- The proposition is told by the test: it holds and the test passes, or it fails and so does the test.
pub data IsTest (P : Type 0) : Bool → Type 0 where
  holds : P → IsTest P true
  fails : (P → ⊥) → IsTest P false

-- A test whose passing gives the proposition, and whose failing shuts it out, tells it.
test_of : (P : Type 0) (b : Bool) → (b ≡ true → P) → (b ≡ false → P → ⊥) → IsTest P b
test_of P true f g = holds (f refl)
test_of P false f g = fails (g refl)

-- The test passes exactly where the proposition holds.
pub true-iff : {P : Type 0} {b : Bool} → IsTest P b → (b ≡ true) ↔ P
true-iff (holds p) = (λ e. p, λ q. refl)
true-iff (fails n) = (λ e. clash e refl, λ q. absurd (n q))

-- The test fails exactly where the proposition does.
pub false-iff : {P : Type 0} {b : Bool} → IsTest P b → (b ≡ false) ↔ (P → ⊥)
false-iff (holds p) = (λ e. clash refl e, λ n. absurd (n p))
false-iff (fails n) = (λ e. n, λ m. refl)

-- Where a conjunction passes, both tests pass.
pub and-true : (a b : Bool) → (a && b) ≡ true → (a ≡ true) × (b ≡ true)
and-true true b e = (refl, e)
and-true false b e = clash e refl

-- A conjunction with a test that passes is the other test.
pub and_one : (a : Bool) → (a && true) ≡ a
and_one true = refl
and_one false = refl

-- Tests that tell equivalent propositions are equal.
pub test-same : {P Q : Type 0} {a b : Bool} → IsTest P a → IsTest Q b → P ↔ Q → a ≡ b
test-same (holds p) u e = sym ((true-iff u).1 (e.0 p))
test-same (fails n) u e = sym ((false-iff u).1 (λ q. n (e.1 q)))

-- A test that tells a proposition tells an equivalent one.
pub test_iff : {P Q : Type 0} {b : Bool} → IsTest P b → P ↔ Q → IsTest Q b
test_iff (holds p) e = holds (e.0 p)
test_iff (fails n) e = fails (λ q. n (e.1 q))

-- What is told and does not fail holds.
pub test-stable : {P : Type 0} {b : Bool} → IsTest P b → ((P → ⊥) → ⊥) → P
test-stable (holds p) h = p
test-stable (fails n) h = absurd (h n)

-- The tests of order and of equality tell order and equality.
pub ltb-tests : (m n : ℕ) → IsTest (m < n) (ltb m n)
ltb-tests m n = test_of (m < n) (ltb m n) (ltb-true m n) (λ e l. omega (arith, ltb-false m n e))

pub leb-tests : (m n : ℕ) → IsTest (m ≤ n) (leb m n)
leb-tests m n = test_of (m ≤ n) (leb m n) (leb-true m n) (λ e l. omega (arith, leb-false m n e))

pub eqb-tests : (m n : ℕ) → IsTest (m ≡ n) (eqb m n)
eqb-tests m n = test_of (m ≡ n) (eqb m n) (eqb-true m n) (eqb-false m n)

-- The test of a negation, of a choice and of a conjunction tells it.
pub not-tests : {P : Type 0} {a : Bool} → IsTest P a → IsTest (P → ⊥) (not a)
not-tests (holds p) = fails (λ n. n p)
not-tests (fails n) = holds n

pub or-tests : {P Q : Type 0} {a b : Bool} → IsTest P a → IsTest Q b → IsTest (P ⊎ Q) (a || b)
or-tests (holds p) u = holds (inl p)
or-tests (fails n) (holds q) = holds (inr q)
or-tests (fails n) (fails m) = fails (λ h. elim h [ inl p ↦ n p | inr q ↦ m q ])

pub and-tests : {P Q : Type 0} {a b : Bool} → IsTest P a → IsTest Q b → IsTest (P × Q) (a && b)
and-tests (holds p) (holds q) = holds (p, q)
and-tests (holds p) (fails m) = fails (λ h. m h.1)
and-tests (fails n) u = fails (λ h. n h.0)

-- The first number of a chain of tests is picked exactly where the first test passes, if the rest of the chain never picks it.
pub pick-here : {P : Type 0} {b : Bool} (k n : ℕ) → IsTest P b → (n ≡ k → ⊥) → (cond b k n ≡ k) ↔ P
pick-here k n (holds p) never = (λ e. p, λ q. refl)
pick-here k n (fails m) never = (λ e. absurd (never e), λ p. absurd (m p))

-- Another number is picked exactly where the first test fails and the rest of the chain picks it.
pub pick-later : {P Q : Type 0} {b : Bool} (m n k : ℕ) → IsTest P b → (m ≡ k → ⊥) → (n ≡ k) ↔ Q → (cond b m n ≡ k) ↔ ((P → ⊥) × Q)
pick-later m n k (holds p) never later = (λ e. absurd (never e), λ h. absurd (h.0 p))
pick-later m n k (fails f) never later = (λ e. (f, later.0 e), λ h. later.1 h.1)

-- A number that stands nowhere in the chain is not picked.
pub pick-never : (b : Bool) (m n k : ℕ) → (m ≡ k → ⊥) → (n ≡ k → ⊥) → cond b m n ≡ k → ⊥
pick-never true m n k here later e = here e
pick-never false m n k here later e = later e
