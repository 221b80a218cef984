-- The tests for bad sizes and numbers let through exactly what no clause of the document applies to; the bits of the presence word after an
-- opening and a closing; root closed after a closing. Assumes nothing.
use Prim.Native.Nat.{ℕ, suc, ◌+◌, ◌^◌, ◌<◌}
use native.Mathlib.Nat.{mod-eq_of_lt}
use native.Mathlib.Numerals.{add-one}
use native.Mathlib.Omega.{arith}
use borrow.Author.Tests.{eq-eqb, ne_eqb, eqb-true, ltb-true}
use mathlib.Core.Path.{◌≡◌, refl, sym, ◌∙◌}
use mathlib.Core.Bool.{Bool, true, false, cond}
use mathlib.Core.Logic.{◌↔◌, ◌⊎◌, inl, inr}
use lib.Dec.{eqb, ltb}
use lib.ListN.{set}
use Rattle.terms.specs.Limits.{elements_most, levels_most}
use Rattle.numbers.specs.Bits.{bit_at, word_bits, in_word, with_bit}
use Rattle.numbers.specs.Lists.{listed}
use Rattle.numbers.proofs.Lists.{listed-set}
use Rattle.numbers.proofs.Tells.{IsTest, false-iff, test-stable, eqb-tests, ltb-tests, not-tests, or-tests, and-tests}
use Rattle.numbers.proofs.WithBit.{with-bit-small, with-bit-at}
use Rattle.fields.specs.Fields.{state_size, bad_size, bad_fields, GoodFields, cleared_below, root_after}

-- ---- the tests

-- A size passes exactly where it is 1,040.
pub size-iff : (n : ℕ) → (bad_size n ≡ false) ↔ (n ≡ state_size)
unfolding bad_size
size-iff n =
    let told = eqb-tests n state_size in
    (λ e. test-stable told ((false-iff (not-tests told)).0 e), λ e. (false-iff (not-tests told)).1 (λ q. q e))

-- So is one that the code has tested.
pub size-passed : (n : ℕ) (b : Bool) → b ≡ bad_size n → b ≡ false → n ≡ state_size
size-passed n b tested e = (size-iff n).0 (sym tested ∙ e)

module _ (d e r x y : ℕ) where
  abbrev Bad : Type 0
  Bad = (((((levels_most < d) ⊎ (e < d)) ⊎ (elements_most < e)) ⊎ (1 < r)) ⊎ ((r ≡ 1) × (d ≡ 0 → ⊥))) ⊎ (((x ≡ 0) × (y ≡ 0)) → ⊥)

  bad-told : IsTest Bad (bad_fields d e r x y)
  unfolding bad_fields
  bad-told =
      or-tests (or-tests (or-tests (or-tests (or-tests (ltb-tests levels_most d) (ltb-tests e d)) (ltb-tests elements_most e)) (ltb-tests 1 r))
      (and-tests (eqb-tests r 1) (not-tests (eqb-tests d 0)))) (not-tests (and-tests (eqb-tests x 0) (eqb-tests y 0)))

  -- The test lets numbers through exactly where no clause of "Bad" applies.
  pub good-fields-iff : (bad_fields d e r x y ≡ false) ↔ GoodFields d e r x y
  good-fields-iff = (λ q. good ((false-iff bad-told).0 q), λ g. (false-iff bad-told).1 (fair g)) where
    good : (Bad → ⊥) → GoodFields d e r x y
    good n =
        let a : levels_most < d → ⊥ = λ q. n (inl (inl (inl (inl (inl q))))) in
        let b : e < d → ⊥ = λ q. n (inl (inl (inl (inl (inr q))))) in
        let c : elements_most < e → ⊥ = λ q. n (inl (inl (inl (inr q)))) in
        let f : 1 < r → ⊥ = λ q. n (inl (inl (inr q))) in
        record {
          shallow = omega arith;
          within = omega arith;
          few = omega arith;
          flag = omega arith;
          shut = λ s. test-stable (eqb-tests d 0) (λ q. n (inl (inr (s, q))));
          spare = test-stable (and-tests (eqb-tests x 0) (eqb-tests y 0)) (λ q. n (inr q));
        }

    fair : GoodFields d e r x y → Bad → ⊥
    fair g (inl (inl (inl (inl (inl q))))) = omega (arith, g.shallow)
    fair g (inl (inl (inl (inl (inr q))))) = omega (arith, g.within)
    fair g (inl (inl (inl (inr q)))) = omega (arith, g.few)
    fair g (inl (inl (inr q))) = omega (arith, g.flag)
    fair g (inl (inr q)) = q.1 (g.shut q.0)
    fair g (inr n) = n g.spare

-- ---- the presence word

-- A number below 64 names its own bit.
pub with-bit-own : (i w : ℕ) (on : Bool) → i < word_bits → with_bit (in_word i) on w ≡ with_bit i on w
with-bit-own i w on l = rw (mod-eq_of_lt l)

-- The bits of a word with one bit put to a value.
pub with-bit-listed : (i w : ℕ) (on : Bool) → i < levels_most → listed levels_most (bit_at (with_bit i on w)) ≡ set (listed levels_most (bit_at w)) i on
with-bit-listed i w on l =
    listed-set levels_most (bit_at w) (bit_at (with_bit i on w)) i on l (with-bit-at i w on i l ∙ rw (eq-eqb i i refl))
    (λ j m n. with-bit-at i w on j m ∙ rw (ne_eqb j i n))

-- The presence word after an opening is one of 64 bits,
pub cleared-small : (d p : ℕ) → p < 2 ^ word_bits → cleared_below d p < 2 ^ word_bits
unfolding cleared_below
cleared-small d p h = go (ltb d 63) where
  go : (b : Bool) → cond b (with_bit (d + 1) false p) p < 2 ^ word_bits
  go true = with-bit-small (d + 1) p false
  go false = h

-- and these are its bits.
pub cleared-listed : (d p : ℕ) → listed levels_most (bit_at (cleared_below d p)) ≡ cond (ltb d 63) (set (listed levels_most (bit_at p)) (suc d) false) (listed levels_most (bit_at p))
unfolding cleared_below
cleared-listed d p = go (ltb d 63) refl where
  go : (b : Bool) → ltb d 63 ≡ b
      → listed levels_most (bit_at (cond b (with_bit (d + 1) false p) p)) ≡ cond b (set (listed levels_most (bit_at p)) (suc d) false) (listed levels_most (bit_at p))
  go true q = let l = ltb-true d 63 q in rw (add-one d) (with-bit-listed (suc d) p false (omega arith))
  go false q = refl

-- ---- root closed

-- It stays a number that is no wider, if that has room for 1,
pub root_below : (m d r : ℕ) → 1 < m → r < m → root_after d r < m
unfolding root_after
root_below m d r l h = go (eqb d 0) where
  go : (b : Bool) → cond b 1 r < m
  go true = l
  go false = h

-- is set where nothing is open now, or where it was set before,
pub root_told : (d r : ℕ) → eqb (root_after d r) 1 ≡ cond (eqb d 0) true (eqb r 1)
unfolding root_after
root_told d r = go (eqb d 0) where
  go : (b : Bool) → eqb (cond b 1 r) 1 ≡ cond b true (eqb r 1)
  go true = refl
  go false = refl

-- and only there: where it was not set before, nothing is open now.
pub root-shut : (d r : ℕ) → (r ≡ 1 → ⊥) → root_after d r ≡ 1 → d ≡ 0
unfolding root_after
root-shut d r n q = go (eqb d 0) refl q where
  go : (b : Bool) → eqb d 0 ≡ b → cond b 1 r ≡ 1 → d ≡ 0
  go true e p = eqb-true d 0 e
  go false e p = absurd (n p)
