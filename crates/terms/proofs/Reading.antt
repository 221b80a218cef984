-- What a loop over records knows between two turns, for a rule as for a report: record i begins at the offset that it has reached,
-- and reading stopped at none of the records before. Generic in the number that each record gets.
-- Assumes nothing.
use Prim.Native.Nat.{ℕ, zero, suc, ◌+◌, ◌≤◌, ◌<◌}
use native.Mathlib.Omega.{arith}
use native.Mathlib.Numerals.{add-one}
use borrow.Author.Count.{below_more}
use borrow.Author.Tests.{eq-eqb, ne_eqb, eqb-true, eqb-false}
use mathlib.Core.Path.{◌≡◌, refl, ap, subst, ◌∙◌}
use mathlib.Core.Bool.{Bool, true, false, not, ◌||◌}
use mathlib.Core.List.{List}
use lib.Dec.{eqb}
use lib.ListN.{length}
use Rattle.numbers.specs.Bytes.{number_at}
use Rattle.numbers.specs.First.{first}
use Rattle.terms.specs.Frame.{next_of, start_of, stops_at}
use Rattle.numbers.proofs.First.{clash, first-is}

module _ (s : List ℕ) (fault : ℕ → ℕ) where
  pub record Mid (i at : ℕ) : Type 0 where
    pub begins : start_of s i ≡ at
    pub within : at ≤ length s
    pub slow : i ≤ at
    pub clean : (j : ℕ) → j < i → stops_at fault s j ≡ false

  -- Before the first record.
  pub mid_start : Mid 0 0
  unfolding start_of
  mid_start = record { begins = refl; within = omega arith; slow = omega arith; clean = λ j h. absurd (omega arith) }

  passed : {i at : ℕ} → Mid i at → (at ≡ length s → ⊥) → fault i ≡ 0 → stops_at fault s i ≡ false
  passed {i} {at} m ne f = rw (m.begins, ne_eqb at (length s) ne, eq-eqb (fault i) 0 f)

  -- After one record more, which is not at fault and does not run past the end.
  pub mid-turn : {i at : ℕ} → Mid i at → (at ≡ length s → ⊥) → fault i ≡ 0 → at + 2 + number_at s at ≤ length s
      → Mid (i + 1) (at + 2 + number_at s at)
  unfolding start_of next_of
  mid-turn {i} {at} m ne f h =
      record {
        begins = ap (start_of s) (add-one i) ∙ ap (next_of s) m.begins;
        within = h;
        slow = omega (arith, m.slow);
        clean = below_more (λ j. stops_at fault s j ≡ false) i m.clean (passed m ne f);
      }

  -- Where the string ends there, or the record there is at fault, that record is the first stop.
  pub mid-ended : {i at : ℕ} → Mid i at → at ≡ length s → (n : ℕ) → i ≤ n → first (stops_at fault s) n ≡ i
  mid-ended {i} {at} m e n l = first-is (stops_at fault s) n i l m.clean (λ h. rw (m.begins, eq-eqb at (length s) e))

  pub mid-faulty : {i at : ℕ} → Mid i at → (at ≡ length s → ⊥) → (fault i ≡ 0 → ⊥) → (n : ℕ) → i ≤ n → first (stops_at fault s) n ≡ i
  mid-faulty {i} {at} m ne f n l =
      first-is (stops_at fault s) n i l m.clean (λ h. rw (m.begins, ne_eqb at (length s) ne, ne_eqb (fault i) 0 f))

  -- Where reading does not stop at a record, the string goes on there and the record has no fault.
  pub stops-not : (i : ℕ) → stops_at fault s i ≡ false → (start_of s i ≡ length s → ⊥) × (fault i ≡ 0)
  stops-not i h = go (eqb (start_of s i) (length s)) (eqb (fault i) 0) refl refl h
    where
      go : (a b : Bool) → eqb (start_of s i) (length s) ≡ a → eqb (fault i) 0 ≡ b → (a || not b) ≡ false
          → (start_of s i ≡ length s → ⊥) × (fault i ≡ 0)
      go true b p q z = clash refl z
      go false true p q z = (eqb-false (start_of s i) (length s) p, eqb-true (fault i) 0 q)
      go false false p q z = clash refl z

  -- Where a record with no fault never runs past the end, every record that is reached begins within the string.
  pub mid-reached : ((i : ℕ) → fault i ≡ 0 → start_of s i + 2 + number_at s (start_of s i) ≤ length s)
      → (i : ℕ) → ((j : ℕ) → j < i → stops_at fault s j ≡ false) → Mid i (start_of s i)
  unfolding start_of next_of
  mid-reached sound zero h = mid_start
  mid-reached sound (suc i) h =
      let st = stops-not i (h i (omega arith)) in
      let m = mid-turn (mid-reached sound i (λ j l. h j (omega arith))) st.0 st.1 (sound i st.1) in
      subst (λ (k : ℕ). Mid k (start_of s i + 2 + number_at s (start_of s i))) (add-one i) m
