-- The first record at fault decides. Over any faults of records: reading stops at one record only, which is where the string ends
-- without a fault, or at the first record at fault; and what is answered there. Assumes nothing.
use Prim.Native.Nat.{ℕ, suc, ◌≤◌, ◌<◌}
use native.Mathlib.Omega.{arith}
use native.Mathlib.Nat.{eq-or-lt_of_le, le_of_suc-le-suc}
use mathlib.Core.Path.{◌≡◌, refl, ap, subst, sym, ◌∙◌}
use mathlib.Core.Bool.{Bool, true, false, cond, ◌||◌}
use mathlib.Core.List.{List}
use mathlib.Core.Logic.{◌⊎◌, inl, inr, ◌↔◌}
use lib.Dec.{ltb, eqb}
use lib.ListN.{length}
use borrow.Author.Tests.{eq-eqb, ne_eqb}
use Rattle.numbers.specs.First.{first}
use Rattle.terms.specs.Frame.{start_of, stops_at}
use Rattle.terms.specs.Answer.{Answer, Refused}
use Rattle.numbers.proofs.First.{first-is, first-before, first-there}
use Rattle.grammar.specs.When.{Faulty, Sized}
use Rattle.grammar.proofs.Frame.{start-strict, start-within}
use Rattle.numbers.proofs.Tells.{IsTest, holds, fails, true-iff, false-iff, test-stable, or-tests, not-tests, ltb-tests, eqb-tests}

-- What is answered where reading stops at record i, `ends` being the answer at the end of the string.
abbrev pub answers : (ℕ → ℕ) → List ℕ → (ℕ → Answer) → ℕ → Answer
answers fault s ends i = cond (eqb (start_of s i) (length s)) (ends i) (Refused (fault i) (start_of s i))

-- Record i begins at p, bytes stand there, and no record before it has a fault.
pub record CleanTo (fault : ℕ → ℕ) (s : List ℕ) (i p : ℕ) : Type 0 where
  pub begins : start_of s i ≡ p
  pub there : p < length s
  pub clean : (j : ℕ) → j < i → fault j ≡ 0

-- The string ends between records, with i of them and no fault.
pub record CleanEnd (fault : ℕ → ℕ) (s : List ℕ) (i : ℕ) : Type 0 where
  pub at_end : start_of s i ≡ length s
  pub clean : (j : ℕ) → j < i → fault j ≡ 0

-- Record i, which begins at p, is the first at fault.
pub record Fails (fault : ℕ → ℕ) (s : List ℕ) (i p : ℕ) : Type 0 where
  pub reached : CleanTo fault s i p
  pub at_fault : fault i ≡ 0 → ⊥

-- The answer is that of the string's end after i records, or of record i as the first at fault.
pub data Decided (fault : ℕ → ℕ) (s : List ℕ) (ends : ℕ → Answer) (a : Answer) : Type 0 where
  by_end : (i : ℕ) → CleanEnd fault s i → ends i ≡ a → Decided fault s ends a
  by-fault : (i p : ℕ) → Fails fault s i p → Refused (fault i) p ≡ a → Decided fault s ends a

module _ (fault : ℕ → ℕ) (s : List ℕ) where
  stops-told : (i : ℕ) → IsTest ((start_of s i ≡ length s) ⊎ (fault i ≡ 0 → ⊥)) (stops_at fault s i)
  stops-told i = or-tests (eqb-tests (start_of s i) (length s)) (not-tests (eqb-tests (fault i) 0))

  goes_on : (k : ℕ) → start_of s k ≤ length s → ((j : ℕ) → j < k → fault j ≡ 0) → (j : ℕ) → j < k → stops_at fault s j ≡ false
  goes_on k h clean j l =
      (false-iff (stops-told j)).1 (λ r. elim r [ inl e ↦ omega (arith, start-strict s j k l) | inr n ↦ n (clean j l) ])

  -- Where the string ends without a fault, there the search stops.
  pub ended-first : (bound i : ℕ) → i ≤ bound → CleanEnd fault s i → first (stops_at fault s) bound ≡ i
  ended-first bound i h r =
      first-is (stops_at fault s) bound i h (goes_on i (omega (arith, r.at_end)) r.clean) (λ l. (true-iff (stops-told i)).1 (inl r.at_end))

  -- At the first record at fault the search stops.
  fails-first : (bound i p : ℕ) → i ≤ bound → Fails fault s i p → first (stops_at fault s) bound ≡ i
  fails-first bound i p h r =
      first-is (stops_at fault s) bound i h (goes_on i (omega (arith, r.reached.begins, r.reached.there)) r.reached.clean)
      (λ l. (true-iff (stops-told i)).1 (inr r.at_fault))

  ended-answer : (ends : ℕ → Answer) (i : ℕ) → CleanEnd fault s i → answers fault s ends i ≡ ends i
  ended-answer ends i r = rw (eq-eqb (start_of s i) (length s) r.at_end)

  fails-answer : (ends : ℕ → Answer) (i p : ℕ) → Fails fault s i p → answers fault s ends i ≡ Refused (fault i) p
  fails-answer ends i p r =
      rw (ne_eqb (start_of s i) (length s) (λ e. omega (arith, r.reached.begins, r.reached.there)), r.reached.begins)

  module _ (lengths : ℕ → ℕ) (bound : ℕ) (sound : (j : ℕ) → fault j ≡ 0 → Faulty lengths s (start_of s j) → ⊥)
      (capped : (i : ℕ) → ((j : ℕ) → j < i → fault j ≡ 0) → start_of s i ≤ length s → i ≤ bound) where
    clean-within : (i : ℕ) → ((j : ℕ) → j < i → fault j ≡ 0) → start_of s i ≤ length s
    clean-within i clean = start-within s lengths i (λ j l. sound j (clean j l))

    clean-more : (k : ℕ) → ((j : ℕ) → j < k → fault j ≡ 0) → fault k ≡ 0 → (j : ℕ) → j < suc k → fault j ≡ 0
    clean-more k clean z j l =
        elim (eq-or-lt_of_le (le_of_suc-le-suc l)) [ inl e ↦ subst (λ (x : ℕ). fault x ≡ 0) (sym e) z | inr m ↦ clean j m ]

    fails-at : (k : ℕ) → ((j : ℕ) → j < k → fault j ≡ 0) → (k < bound → stops_at fault s k ≡ true) → (start_of s k ≡ length s → ⊥)
        → fault k ≡ 0 → ⊥
    fails-at k clean there n z =
        let more = clean-more k clean z in
        elim ((true-iff (stops-told k)).0 (there (capped (suc k) more (clean-within (suc k) more)))) [ inl e ↦ n e | inr f ↦ f z ]

    decides_at : (k : ℕ) → ((j : ℕ) → j < k → stops_at fault s j ≡ false) → (k < bound → stops_at fault s k ≡ true)
        → CleanEnd fault s k ⊎ Fails fault s k (start_of s k)
    decides_at k before there = go (eqb-tests (start_of s k) (length s)) where
      clean : (j : ℕ) → j < k → fault j ≡ 0
      clean j l = test-stable (eqb-tests (fault j) 0) (λ n. (false-iff (stops-told j)).0 (before j l) (inr n))

      go : {b : Bool} → IsTest (start_of s k ≡ length s) b → CleanEnd fault s k ⊎ Fails fault s k (start_of s k)
      go (holds e) = inl (record { at_end = e; clean = clean })
      go (fails n) =
          inr (record {
            reached = record { begins = refl; there = omega (arith, clean-within k clean); clean = clean };
            at_fault = fails-at k clean there n;
          })

    -- What the search finds is where the string ends, or the first record at fault.
    first-decides : CleanEnd fault s (first (stops_at fault s) bound)
        ⊎ Fails fault s (first (stops_at fault s) bound) (start_of s (first (stops_at fault s) bound))
    first-decides = decides_at _ (first-before (stops_at fault s) bound) (first-there (stops_at fault s) bound)

    ended-capped : (i : ℕ) → CleanEnd fault s i → i ≤ bound
    ended-capped i r = capped i r.clean (clean-within i r.clean)

    fails-capped : (i p : ℕ) → Fails fault s i p → i ≤ bound
    fails-capped i p r = capped i r.reached.clean (clean-within i r.reached.clean)

    -- An answer is given exactly where it is that of the string's end, or of the first record at fault.
    pub answer-iff : (ends : ℕ → Answer) (a : Answer)
        → (answers fault s ends (first (stops_at fault s) bound) ≡ a) ↔ Decided fault s ends a
    answer-iff ends a = (there first-decides, back) where
      there : {k : ℕ} → CleanEnd fault s k ⊎ Fails fault s k (start_of s k) → answers fault s ends k ≡ a → Decided fault s ends a
      there {k} (inl r) e = by_end k r (sym (ended-answer ends k r) ∙ e)
      there {k} (inr r) e = by-fault k (start_of s k) r (sym (fails-answer ends k (start_of s k) r) ∙ e)

      back : Decided fault s ends a → answers fault s ends (first (stops_at fault s) bound) ≡ a
      back (by_end i r e) = ap (answers fault s ends) (ended-first bound i (ended-capped i r) r) ∙ ended-answer ends i r ∙ e
      back (by-fault i p r e) = ap (answers fault s ends) (fails-first bound i p (fails-capped i p r) r) ∙ fails-answer ends i p r ∙ e

-- ---- the size, which is looked at first

-- What is answered where strings of 0 bytes or over `most` are refused with a number, and the others as `later` says.
abbrev pub size_first : ℕ → ℕ → List ℕ → Answer → Answer
size_first number most s later = cond (ltb (length s) 1 || ltb most (length s)) (Refused number 0) later

module _ (number most : ℕ) (s : List ℕ) (later : Answer) where
  size-told : IsTest ((length s < 1) ⊎ (most < length s)) (ltb (length s) 1 || ltb most (length s))
  size-told = or-tests (ltb-tests (length s) 1) (ltb-tests most (length s))

  empty-or : (length s < 1) ⊎ (most < length s) → (length s ≡ 0) ⊎ (most < length s)
  empty-or (inl h) = inl (omega arith)
  empty-or (inr h) = inr h

  or-empty : (length s ≡ 0) ⊎ (most < length s) → (length s < 1) ⊎ (most < length s)
  or-empty (inl h) = inl (omega arith)
  or-empty (inr h) = inr h

  unsized-at : (p : ℕ) {b : Bool} → IsTest ((length s < 1) ⊎ (most < length s)) b → (later ≡ Refused number p → ⊥)
      → (cond b (Refused number 0) later ≡ Refused number p) ↔ ((p ≡ 0) × ((length s ≡ 0) ⊎ (most < length s)))
  unsized-at p (holds h) never = (λ e. (cc, empty-or h), λ q. cc q.0)
  unsized-at p (fails n) never = (λ e. absurd (never e), λ q. absurd (n (or-empty q.1)))

  -- The number of a wrong size is given exactly to a string of no bytes or of too many, and at 0, if it is given nowhere later.
  pub unsized-iff : (p : ℕ) → (later ≡ Refused number p → ⊥)
      → (size_first number most s later ≡ Refused number p) ↔ ((p ≡ 0) × ((length s ≡ 0) ⊎ (most < length s)))
  unsized-iff p never = unsized-at p size-told never

  sized-at : (a : Answer) {b : Bool} → IsTest ((length s < 1) ⊎ (most < length s)) b → (Refused number 0 ≡ a → ⊥)
      → (cond b (Refused number 0) later ≡ a) ↔ (Sized most s × (later ≡ a))
  sized-at a (holds h) never = (
    λ e. absurd (never e),
    λ q. absurd (elim h [ inl l ↦ omega (arith, q.0.some) | inr l ↦ omega (arith, q.0.few) ]),
  )
  sized-at a (fails n) never =
      let low : length s < 1 → ⊥ = λ l. n (inl l) in
      let high : most < length s → ⊥ = λ l. n (inr l) in
      (λ e. (record { some = omega arith; few = omega arith }, e), λ q. q.1)

  -- Every other answer is given exactly where the size is right and it is given later.
  pub sized-iff : (a : Answer) → (Refused number 0 ≡ a → ⊥) → (size_first number most s later ≡ a) ↔ (Sized most s × (later ≡ a))
  sized-iff a never = sized-at a size-told never

  -- An answer is that of a wrong size, or given later.
  pub size-cases : (a : Answer) → size_first number most s later ≡ a → (Refused number 0 ≡ a) ⊎ (later ≡ a)
  size-cases a e = go (ltb (length s) 1 || ltb most (length s)) e where
    go : (b : Bool) → cond b (Refused number 0) later ≡ a → (Refused number 0 ≡ a) ⊎ (later ≡ a)
    go true q = inl q
    go false q = inr q
