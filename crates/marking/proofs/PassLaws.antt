-- Laws of the words that a pass stores: one word more, the bits of a word in the midst of a pass, passes from the first element on.
-- Assumes nothing.
use Prim.Native.Nat.{ℕ, ◌+◌, ◌*◌, ◌^◌, ◌%◌, ◌<◌}
use native.Mathlib.Decide.{ℕ_discrete, dec_lt}
use native.Mathlib.Nat.{zero-mul, zero-add, mod-eq_of_lt}
use native.Mathlib.Omega.{arith}
use mathlib.Core.Path.{◌≡◌, refl, sym, ap, ◌∙◌}
use mathlib.Core.Bool.{Bool, false, cond, ◌&&◌, ◌||◌}
use mathlib.Core.List.{List}
use borrow.Author.Tests.{lt-ltb, le-ltb, eq-eqb, ne_eqb}
use lib.Bits.{bit_or}
use lib.Dec.{ltb, eqb}
use lib.ListN.{length, get_or, set, length-set}
use lib.Pow.{low}
use lib.Seq.{get_or-set_same, get_or-set_other}
use Rattle.marking.specs.Pass.{Stored, Passed, Room, bits_of}
use Rattle.numbers.specs.Bits.{bit, bit_at, in_word}
use Rattle.numbers.specs.Lists.{listed}
use Rattle.numbers.proofs.Lists.{listed-length, listed_at}
use Rattle.steps.specs.Steps.{gate_mark}
use Rattle.steps.specs.declared.gate.Gate.{Gate}
use Rattle.buffer.specs.Gates.{gated_word}
use Rattle.numbers.proofs.BitLaws.{bit-top, bit-under}
use Rattle.numbers.proofs.Masks.{joined-bit}

-- The values w, with v at t.
abbrev pub at-put : {A : Type 0} → (ℕ → A) → (t : ℕ) → A → ℕ → A
at-put w t v s = cond (eqb s t) v (w s)

module _ (n : ℕ) (before : List ℕ) where
  -- Before any store each word is what it was.
  pub stored-start : Stored n (λ s. get_or before s 0) before before
  stored-start = record { long = refl; put = λ s l. refl }

  -- Equal words are stored alike.
  pub stored_same : {w v : ℕ → ℕ} {after : List ℕ} → ((s : ℕ) → s < n → w s ≡ v s) → Stored n w before after → Stored n v before after
  stored_same e r = record { long = r.long; put = λ s l. r.put s l ∙ e s l }

  -- One store among the first n words.
  stored-set : {w : ℕ → ℕ} {after : List ℕ} (t v : ℕ) → length before ≡ n → t < n → Stored n w before after
      → Stored n (at-put w t v) before (set after t v)
  stored-set {w} {after} t v room l r =
      record {
        long = length-set after t v ∙ r.long;
        put = λ s m.
            elim (ℕ_discrete s t) [
              | yes e ↦ rw (e, eq-eqb t t refl) (get_or-set_same after t v 0 (omega (arith, r.long)))
              | no ne ↦ rw (ne_eqb s t ne) (get_or-set_other after t s v 0 ne ∙ r.put s m)
            ];
      }

-- ---- a pass for entry i

-- Entry i names its own bit of a word,
pub own_in : {n i : ℕ} {ws : List ℕ} → Room n i ws → in_word i ≡ i
own_in room = mod-eq_of_lt room.top

-- and so does an entry before it.
pub earlier-in : {n i a : ℕ} {ws : List ℕ} → Room n i ws → a < i → in_word a ≡ a
earlier-in room l = mod-eq_of_lt (omega (arith, l, room.top))

module _ {n i : ℕ} {before : List ℕ} (room : Room n i before) where
  -- Before any store no bit i is set.
  pub passed_start : Passed n i (λ s. false) before before
  passed_start = record { stored = stored_same n before (λ s l. rw (zero-mul, zero-add)) (stored-start n before) }

  -- Equal marks pass alike.
  pub passed-same : {m m' : ℕ → Bool} {after : List ℕ} → ((s : ℕ) → s < n → m s ≡ m' s) → Passed n i m before after
      → Passed n i m' before after
  passed-same e r = record { stored = stored_same n before (λ s l. rw (e s l)) r.stored }

  module _ {m : ℕ → Bool} {after : List ℕ} (r : Passed n i m before after) (s : ℕ) (l : s < n) where
    -- Bit i of a word is its mark, the bits below are those before, and there are no more.
    pub passed-bit : bit_at (get_or after s 0) i ≡ m s
    passed-bit = rw (r.stored.put s l) (bit-top i (m s) (get_or before s 0) (room.small s l))

    pub passed-under : (a : ℕ) → a < i → bit_at (get_or after s 0) a ≡ bits_of before a s
    passed-under a la = rw (r.stored.put s l) (bit-under i a (m s) (get_or before s 0) la)

    passed-rest : get_or after s 0 % 2 ^ i ≡ get_or before s 0
    passed-rest = rw (r.stored.put s l) (low (bit (m s)) i (room.small s l))

    -- One element's mark joined by another.
    pub passed-join : (on : Bool) → Passed n i (at-put m s (m s || on)) before (set after s (bit_or (get_or after s 0) (bit on * 2 ^ i)))
    passed-join on =
        record { stored = stored_same n before (λ k h. put_word k) (stored-set n before s _ room.all l r.stored) }
      where
        put_word : (k : ℕ) → at-put (λ k. bit (m k) * 2 ^ i + get_or before k 0) s (bit_or (get_or after s 0) (bit on * 2 ^ i)) k
            ≡ bit (at-put m s (m s || on) k) * 2 ^ i + get_or before k 0
        put_word k =
            elim (ℕ_discrete k s) [
              | yes e ↦ rw (e, eq-eqb s s refl, r.stored.put s l) (joined-bit i (get_or before s 0) (m s) on (room.small s l))
              | no ne ↦ rw (ne_eqb k s ne)
            ]

    -- Another mark at one element.
    pub passed-set : (on : Bool) → Passed n i (at-put m s on) before (set after s (bit on * 2 ^ i + get_or after s 0 % 2 ^ i))
    passed-set on =
        record { stored = stored_same n before (λ k h. put_word k) (stored-set n before s _ room.all l r.stored) }
      where
        put_word : (k : ℕ) → at-put (λ k. bit (m k) * 2 ^ i + get_or before k 0) s (bit on * 2 ^ i + get_or after s 0 % 2 ^ i) k
            ≡ bit (at-put m s on k) * 2 ^ i + get_or before k 0
        put_word k = elim (ℕ_discrete k s) [ yes e ↦ rw (e, eq-eqb s s refl, passed-rest) | no ne ↦ rw (ne_eqb k s ne) ]

-- ---- all elements alike

-- No bit above a word: the word.
none-set : (i w : ℕ) → bit false * 2 ^ i + w ≡ w
none-set i w = rw (zero-mul, zero-add)

-- What a gate puts into each word is its mark.
pub passed-gate : {n i : ℕ} {before after : List ℕ} (gate : Gate) → Room n i before → after ≡ listed (length before) (gated_word gate i before)
    → Passed n i (λ s. gate_mark gate (get_or before s 0)) before after
passed-gate {n} {i} {before} {after} gate room e =
    record { stored = record { long = ap length e ∙ listed-length (length before) _; put = put } }
  where
    put : (s : ℕ) → s < n → get_or after s 0 ≡ bit (gate_mark gate (get_or before s 0)) * 2 ^ i + get_or before s 0
    put s l =
        rw (e, listed_at (length before) (gated_word gate i before) s 0 (omega (arith, room.all)), own_in room)
        (ap (λ (w : ℕ). bit_or w (bit (gate_mark gate (get_or before s 0)) * 2 ^ i)) (sym (none-set i (get_or before s 0)))
        ∙ joined-bit i (get_or before s 0) false (gate_mark gate (get_or before s 0)) (room.small s l))

-- ---- from the first element on

-- The marks of the elements before k.
abbrev pub before-only : (ℕ → Bool) → ℕ → ℕ → Bool
before-only m k s = ltb s k && m s

module _ {n i : ℕ} {before : List ℕ} (room : Room n i before) (m : ℕ → Bool) where
  -- One element more.
  pub ascent-turn : {after : List ℕ} (k : ℕ) (on : Bool) → k < n → on ≡ m k → Passed n i (before-only m k) before after
      → Passed n i (before-only m (k + 1)) before (set after k (bit_or (get_or after k 0) (bit on * 2 ^ i)))
  ascent-turn k on l e r = passed-same room (λ s h. turn s) (passed-join room r k l on) where
    turn : (s : ℕ) → at-put (before-only m k) k (before-only m k k || on) s ≡ before-only m (k + 1) s
    turn s =
        elim (ℕ_discrete s k) [
          | yes q ↦ rw (q, eq-eqb k k refl, le-ltb k k (omega arith), lt-ltb k (k + 1) (omega arith)) e
          | no ne ↦ rw (ne_eqb s k ne) (ap (λ (b : Bool). b && m s) (side s ne))
        ]
      where
        side : (s : ℕ) → (s ≡ k → ⊥) → ltb s k ≡ ltb s (k + 1)
        side s ne =
            elim (dec_lt s k) [
              | yes h ↦ lt-ltb s k h ∙ sym (lt-ltb s (k + 1) (omega arith))
              | no h ↦ le-ltb s k (omega arith) ∙ sym (le-ltb s (k + 1) (omega arith))
            ]
