-- The state's bytes as the state of the step table: what is read of the words, that what start writes is the fresh state, and what
-- the state is after a run of stores, whatever they are. Assumes nothing.
use Prim.Native.Nat.{ℕ, zero, suc, pred, ◌+◌, ◌^◌, ◌≤◌, ◌<◌}
use native.Mathlib.Nat.{zero-div}
use native.Mathlib.Omega.{arith}
use mathlib.Core.Path.{◌≡◌, refl, ap}
use mathlib.Core.Bool.{Bool, true, false, cond}
use mathlib.Core.List.{List}
use lib.Dec.{eqb}
use lib.ListN.{length, get_or, replicate, length-replicate}
use Rattle.entry.specs.declared.entry.Entry.{Entry}
use Rattle.terms.specs.Limits.{elements_most, levels_most}
use Rattle.numbers.specs.Bytes.{Bytes, word_at}
use Rattle.meaning.specs.OnePass.{State, fresh, parent_word, sibling_word}
use Rattle.state.specs.Layout.{count_in, place_from, width_in, size_in, Store, number_in, stored}
use Rattle.state.specs.State.{depth_in, elements_in, root_in, presence_in, open_place, last_place, layout, state_of, Good}
use Rattle.state.specs.Stores.{opening_run, closing_run}
use Rattle.fields.specs.Fields.{state_size, present_word}
use Rattle.fields.proofs.FieldLaws.{cleared-small, root_below}
use Rattle.numbers.proofs.WithBit.{with-bit-small}
use Rattle.numbers.proofs.ByteLaws.{word_small}
use Rattle.numbers.proofs.Lists.{listed_at, listed_same, listed-all}
use Rattle.state.proofs.RunLaws.{last_stored, Fits, read-run}
use Rattle.numbers.specs.Bits.{bit_at, word_bits}
use Rattle.numbers.specs.Lists.{listed}

-- Two states with the same parts are one.
pub state-same : {d d' e e' : ℕ} {r r' : Bool} {p p' : List Bool} {o o' l l' : List ℕ} → d ≡ d' → e ≡ e' → r ≡ r' → p ≡ p' → o ≡ o' → l ≡ l'
    → ◌≡◌ {A = State} (record { depth = d; elements = e; root_closed = r; presence = p; open_words = o; last_words = l })
    (record { depth = d'; elements = e'; root_closed = r'; presence = p'; open_words = o'; last_words = l' })
state-same a b c d e f = rw (a, b, c, d, e, f)

-- ---- what an opening reads

open-picked : (d : ℕ) (f : ℕ → ℕ) → d ≤ levels_most → cond (eqb d 0) 0 (get_or (listed levels_most f) (pred d) 0) ≡ cond (eqb d 0) 0 (f (pred d))
open-picked zero f l = refl
open-picked (suc d) f l = rw (listed_at levels_most f d 0 l)

module _ (es : List Entry) (s : List ℕ) where
  -- The parent's word is open word d - 1 of the bytes, and 0 where there is none.
  pub parent-read : depth_in s ≤ levels_most → parent_word es (state_of s) ≡ cond (eqb (depth_in s) 0) 0 (word_at 8 s (open_place (pred (depth_in s))))
  unfolding state_of
  parent-read l = open-picked (depth_in s) (λ i. word_at 8 s (open_place i)) l

  -- The previous sibling's is last word d, and 0 where presence bit d is.
  pub sibling-read : depth_in s < levels_most
      → sibling_word es (state_of s) ≡ present_word (presence_in s) (depth_in s) (word_at 8 s (last_place (depth_in s)))
  unfolding state_of
  sibling-read l =
      rw (listed_at levels_most (bit_at (presence_in s)) (depth_in s) false l, listed_at levels_most (λ i. word_at 8 s (last_place i)) (depth_in s) 0 l)

-- ---- start

zeros-at : (n i : ℕ) → ◌≡◌ {A = ℕ} (get_or (replicate n 0) i 0) 0
zeros-at zero i = refl
zeros-at (suc n) zero = refl
zeros-at (suc n) (suc i) = zeros-at n i

zeros-word : (k n at : ℕ) → word_at k (replicate n 0) at ≡ 0
unfolding word_at
zeros-word zero n at = refl
zeros-word (suc k) n at = omega (arith, zeros-at n at, zeros-word k n (at + 1))

-- Zeros are the fresh state.
pub zeros-fresh : (n : ℕ) → state_of (replicate n 0) ≡ fresh
unfolding state_of
zeros-fresh n =
    state-same (zeros-word _ n _) (zeros-word _ n _) (ap (λ (x : ℕ). eqb x 1) (zeros-word _ n _))
    (listed-all levels_most (bit_at (presence_in (replicate n 0))) false (λ i. rw (zeros-word 8 n 8, zero-div)))
    (listed-all levels_most (λ i. word_at 8 (replicate n 0) (open_place i)) 0 (λ i. zeros-word _ n _))
    (listed-all levels_most (λ i. word_at 8 (replicate n 0) (last_place i)) 0 (λ i. zeros-word _ n _))

-- 1,040 of them pass the test.
pub zeros-good : Good (replicate state_size 0)
zeros-good =
    let d : depth_in (replicate state_size 0) ≡ 0 = zeros-word _ state_size _ in
    let e : elements_in (replicate state_size 0) ≡ 0 = zeros-word _ state_size _ in
    let r : root_in (replicate state_size 0) ≡ 0 = zeros-word _ state_size _ in
    record {
      long = length-replicate {A = ℕ} state_size 0;
      fair =
          record {
            shallow = omega arith;
            within = omega arith;
            few = omega arith;
            flag = omega arith;
            shut = λ q. d;
            spare = (zeros-at state_size 6, zeros-at state_size 7);
          };
    }

-- Zeros are bytes.
pub zeros-bytes : (n : ℕ) → Bytes (replicate n 0)
zeros-bytes n i = omega (arith, zeros-at n i)

-- ---- after a run of stores

module _ (xs : List Store) (s : List ℕ) (long : length s ≡ state_size) (fits : Fits layout xs) where
  -- Number i of group g is what the last store has put there, or as it was.
  pub run-number : (g i : ℕ) → i < count_in layout g → number_in layout g i (stored layout xs s) ≡ last_stored g i xs (number_in layout g i s)
  unfolding size_in
  run-number g i l = read-run layout g i xs s l (omega (arith, long)) fits

  -- So the state is made of these.
  pub run-state : state_of (stored layout xs s)
      ≡ record {
        depth = last_stored 0 0 xs (depth_in s);
        elements = last_stored 1 0 xs (elements_in s);
        root_closed = eqb (last_stored 2 0 xs (root_in s)) 1;
        presence = listed levels_most (bit_at (last_stored 4 0 xs (presence_in s)));
        open_words = listed levels_most (λ i. last_stored 5 i xs (word_at 8 s (open_place i)));
        last_words = listed levels_most (λ i. last_stored 6 i xs (word_at 8 s (last_place i)));
      }
  unfolding state_of count_in width_in place_from
  run-state =
      state-same (run-number 0 0 (omega arith)) (run-number 1 0 (omega arith)) (ap (λ (x : ℕ). eqb x 1) (run-number 2 0 (omega arith)))
      (ap (λ (x : ℕ). listed levels_most (bit_at x)) (run-number 4 0 (omega arith)))
      (listed_same levels_most _ _ (λ i l. run-number 5 i l)) (listed_same levels_most _ _ (λ i l. run-number 6 i l))

-- ---- the runs of opening and closing

module _ (d : ℕ) (s : List ℕ) (bytes : Bytes s) (ld : d < levels_most) where
  -- What opening stores fits.
  pub opening-fits : (e w : ℕ) → e < elements_most → w < 2 ^ word_bits → Fits layout (opening_run d e w (presence_in s))
  unfolding Fits count_in width_in
  opening-fits e w le lw =
      ((omega arith, cleared-small d _ (word_small 8 s bytes 8)), ((ld, lw), ((omega arith, omega arith), ((omega arith, omega arith), tt))))

  -- So does what closing stores.
  pub closing-fits : Fits layout (closing_run d (word_at 8 s (open_place d)) (presence_in s) (root_in s))
  unfolding Fits count_in width_in
  closing-fits =
      ((omega arith, with-bit-small d _ true), ((ld, word_small 8 s bytes (open_place d)), ((omega arith, omega arith), ((omega arith, root_below _ d _ (omega arith) (word_small 2 s bytes 4)), tt))))
