-- The passes for what elements after have: bit i of a word gathers what is given by those whose column leads there. Without turns where
-- each gives a bit that it has; from the last element on where it gives its mark, once over what is looked for. Assumes nothing.
use Prim.Native.Nat.{ℕ, suc, ◌+◌, ◌*◌, ◌^◌, ◌%◌, ◌-◌, ◌≤◌, ◌<◌}
use native.Mathlib.Decide.{ℕ_discrete, dec_lt}
use native.Mathlib.Nat.{eq-or-lt_of_le}
use native.Mathlib.Numerals.{add-one}
use native.Mathlib.Omega.{arith}
use mathlib.Core.Path.{◌≡◌, refl, sym, ap, ap₂, subst, ◌∙◌}
use mathlib.Core.Bool.{Bool, true, false, cond, ◌&&◌, ◌||◌}
use mathlib.Core.List.{List}
use mathlib.Core.Logic.{⊎_elim}
use mathlib.Core.Option.{some}
use borrow.Author.Tests.{lt-ltb, le-ltb, eq-eqb, ne_eqb}
use lib.Bits.{bit_or}
use lib.Dec.{ltb, eqb}
use lib.ListN.{length, get_or, set, get_or-eq_default}
use Rattle.numbers.proofs.Tells.{and_one, holds, test-same, true-iff, eqb-tests, and-tests}
use Rattle.meaning.specs.Tree.{forward}
use Rattle.meaning.specs.Marks.{at, any_below, some_of}
use Rattle.meaning.proofs.Ways.{at-iff}
use Rattle.meaning.proofs.Tests.{ahead, at_told, some-told, bool-told}
use Rattle.layout.specs.Links.{leads}
use Rattle.marking.specs.Pass.{Passed, Room, bits_of}
use Rattle.marking.specs.Steps.{ahead_mark, Nearest}
use Rattle.steps.specs.Steps.{own_step, given_step}
use Rattle.steps.specs.declared.ahead.AskedAhead.{AskedAhead}
use Rattle.steps.specs.declared.ahead.AskedAhead.TheVariants.{Until, Every}
use Rattle.layout.proofs.LinkLaws.{get_d_any, leads-at, leads-down, leads-number, number-leads, leads-finds}
use Rattle.marking.proofs.PassLaws.{at-put, passed_start, passed-same, passed-bit, passed-under, passed-join, passed-set}
use Rattle.marking.proofs.StepLaws.{at-leads, ahead_own, any_from, any_from-end, any_from-next, any_from-all}
use Rattle.numbers.specs.Bits.{bit, bit_at}

or-false : (x : Bool) → (x || false) ≡ x
or-false true = refl
or-false false = refl

and-false : (x : Bool) → (x && false) ≡ false
and-false true = refl
and-false false = refl

-- ---- whether an element leads here

module _ (f : List ℕ) (t : ℕ) (l : t < length f) where
  -- Where whoever is led to is led to from the very next element, one leads to t exactly where the number after t's is t.
  nearest-child : ((s c : ℕ) → leads f c ≡ some s → leads f (suc s) ≡ some s)
      → eqb (get_or f (suc t) (length f)) t ≡ some_of forward (length f) (leads f) (λ c. true) t
  nearest-child near =
      test-same (eqb-tests (get_or f (suc t) (length f)) t) (some-told (ahead (leads-finds f)) t (λ c q. holds (tt {0}))) (
        λ e. elim (dec_lt (suc t) (length f)) [
          | yes m ↦ (suc t, number-leads f (suc t) t (length f) m (omega arith) e, tt)
          | no h ↦ absurd (omega (arith, get_or-eq_default f (length f) {n = suc t} (omega arith)))
        ],
        λ r. leads-number f (suc t) t (length f) (near t r.0 r.1),
      )

  child-is : (asked : AskedAhead) → Nearest asked f → (x y z : Bool)
      → own_step asked x y z (eqb (get_or f (suc t) (length f)) t) ≡ own_step asked x y z (some_of forward (length f) (leads f) (λ c. true) t)
  unfolding Nearest
  child-is Until near x y z = refl
  child-is Every near x y z = ap (own_step Every x y z) (nearest-child near)

-- ---- giving

-- Element t gives q to the element that its column leads to: it is gathered there, and nowhere else.
module _ (f : List ℕ) (t : ℕ) (l : t < length f) (q : Bool) where
  led : (s : ℕ) → (at (leads f t) (λ u. eqb u s) && q) ≡ ((ltb (get_or f t 0) t && eqb (get_or f t 0) s) && q)
  led s = rw (leads-at f t l, at-leads t (get_or f t 0) (λ u. eqb u s))

  gathered : (m : ℕ → Bool) (s : ℕ)
      → at-put m (get_or f t 0) (m (get_or f t 0) || (ltb (get_or f t 0) t && q)) s ≡ (m s || (at (leads f t) (λ u. eqb u s) && q))
  gathered m s =
      elim (ℕ_discrete s (get_or f t 0)) [
        | yes e ↦ rw (e, led (get_or f t 0), eq-eqb (get_or f t 0) (get_or f t 0) refl, and_one)
        | no ne ↦ rw (ne_eqb s (get_or f t 0) ne, led s, ne_eqb (get_or f t 0) s (λ e. ne (sym e)), and-false) (sym (or-false _))
      ]

-- ---- the pass without turns

any-more : (n : ℕ) (p : ℕ → Bool) → any_below (suc n) p ≡ (p n || any_below n p)
unfolding any_below
any-more n p = refl

or_swap : (x y : Bool) → (x || y) ≡ (y || x)
or_swap true true = refl
or_swap true false = refl
or_swap false true = refl
or_swap false false = refl

module _ (f before : List ℕ) (a : ℕ) where
  -- Bit i when the elements before k have given.
  abbrev pub given_by : ℕ → ℕ → Bool
  given_by k s = any_below k (λ c. at (leads f c) (λ u. eqb u s) && bits_of before a c)

  module _ {i : ℕ} (room : Room (length f) i before) where
    pub gather-start : Passed (length f) i (given_by 0) before before
    unfolding any_below
    gather-start = passed_start room

    pub gather-turn : (la : a < i) {after : List ℕ} (k : ℕ) → k < length f → get_or f k 0 ≤ k → Passed (length f) i (given_by k) before after
        → Passed (length f) i (given_by (k + 1)) before
        (set after (get_or f k 0) (bit_or (get_or after (get_or f k 0) 0) (bit (ltb (get_or f k 0) k && bit_at (get_or after k 0) a) * 2 ^ i)))
    gather-turn la {after} k l near r =
        rw (passed-under room r k l a la)
        (passed-same room (λ s h. gathered f k l (bits_of before a k) (given_by k) s ∙ more s)
        (passed-join room r (get_or f k 0) (omega arith) (ltb (get_or f k 0) k && bits_of before a k)))
      where
        more : (s : ℕ) → (given_by k s || (at (leads f k) (λ u. eqb u s) && bits_of before a k)) ≡ given_by (k + 1) s
        more s = rw (add-one k, any-more) (or_swap (given_by k s) (at (leads f k) (λ u. eqb u s) && bits_of before a k))

    pub gather-end : {after : List ℕ} (k : ℕ) → k ≡ length f → Passed (length f) i (given_by k) before after
        → Passed (length f) i (some_of forward (length f) (leads f) (bits_of before a)) before after
    unfolding some_of
    gather-end k e r = rw e at r

-- ---- the pass by turns

module _ (asked : AskedAhead) (f before : List ℕ) (a b : ℕ) where
  -- The marks of the pass, what each element gives, and who gives to s.
  abbrev pub marks : ℕ → Bool
  marks = ahead_mark asked (length f) (leads f) (bits_of before a) (bits_of before b)

  abbrev gives : ℕ → Bool
  gives c = given_step asked (bits_of before a c) (marks c)

  abbrev gives_to : ℕ → ℕ → Bool
  gives_to s c = at (leads f c) (λ u. eqb u s) && gives c

  -- Bit i in the midst of the pass, when the elements from t on have had their turn.
  abbrev pub midst : ℕ → ℕ → Bool
  midst t s = cond (ltb s t) (any_from (length f) (gives_to s) t) (marks s)

  -- Between two turns.
  pub record AheadMid (i : ℕ) (after : List ℕ) (next t : ℕ) : Type 0 where
    pub within : t ≤ length f
    pub next_is : next ≡ get_or f t (length f)
    pub passed : Passed (length f) i (midst t) before after

  pub ahead-start : {i : ℕ} → Room (length f) i before → AheadMid i before (length f) (length f)
  ahead-start room =
      record {
        within = omega arith;
        next_is = sym (get_or-eq_default f (length f) (omega arith));
        passed = passed-same room (λ s l. rw (lt-ltb s (length f) l) (sym (any_from-end (length f) (gives_to s)))) (passed_start room);
      }

  -- Before the turn of the last element that has not had it.
  pub ahead_before : {i : ℕ} {after : List ℕ} {next t : ℕ} → 0 < t → AheadMid i after next t → AheadMid i after next (suc (t - 1))
  ahead_before {i} {after} {next} {t} h m = let e : t ≡ suc (t - 1) = omega arith in subst (AheadMid i after next) e m

  -- Who gives to s comes after it.
  gives_after : (s c : ℕ) → gives_to s c ≡ true → suc s ≤ c
  gives_after s c e =
      let h = (true-iff (and-tests (at_told {P = λ u. u ≡ s} (leads f c) (λ u q. eqb-tests u s)) (bool-told (gives c)))).0 e in
      let r = (at-iff (leads f c) (λ u. u ≡ s)).0 h.0 in omega (arith, leads-down f c r.0 r.1, r.2)

  module _ {i : ℕ} (room : Room (length f) i before) (la : a < i) (lb : b < i) (nearest : Nearest asked f) (t : ℕ) (l : t < length f) where
    abbrev p : ℕ
    p = get_or f t 0

    module _ {after : List ℕ} {next : ℕ} (mid : AheadMid i after next (suc t)) where
      abbrev w : ℕ
      w = get_or after t 0

      abbrev own : Bool
      own = own_step asked (bit_at w a) (bit_at w b) (bit_at w i) (eqb next t)

      -- What has been gathered makes the element's mark.
      own_is : own ≡ marks t
      unfolding some_of
      own_is =
          rw (
            passed-under room mid.passed t l a la,
            passed-under room mid.passed t l b lb,
            passed-bit room mid.passed t l,
            lt-ltb t (suc t) (omega arith),
            any_from-all (length f) (gives_to t) (suc t) (gives_after t),
            mid.next_is,
            child-is f t l asked nearest,
          )
          (sym (ahead_own (leads-finds f) asked (bits_of before a) (bits_of before b) t l))

      abbrev word : ℕ
      word = bit own * 2 ^ i + w % 2 ^ i

      -- The words with that mark put.
      abbrev after₁ : List ℕ
      after₁ = set after t word

      passed₁ : Passed (length f) i (at-put (midst (suc t)) t own) before after₁
      passed₁ = passed-set room mid.passed t l own

      -- The bits with that mark put: marks from t on, what is gathered before.
      late : (s : ℕ) → t ≤ s → at-put (midst (suc t)) t own s ≡ marks s
      late s h =
          ⊎_elim (λ e. rw (← e, eq-eqb t t refl) own_is) (λ m. rw (ne_eqb s t (λ e. omega arith), le-ltb s (suc t) m)) (eq-or-lt_of_le h)

      soon : (s : ℕ) → s < t → at-put (midst (suc t)) t own s ≡ any_from (length f) (gives_to s) (suc t)
      soon s h = rw (ne_eqb s t (λ e. omega arith), lt-ltb s (suc t) (omega arith))

      given_is : given_step asked (bit_at w a) own ≡ gives t
      given_is = ap₂ (λ (x y : Bool). given_step asked x y) (passed-under room mid.passed t l a la) own_is

      module _ (near : p ≤ t) where
        abbrev v : ℕ
        v = get_or after₁ p 0

        abbrev on : Bool
        on = ltb p t && given_step asked (bit_at w a) own

        abbrev was : ℕ → Bool
        was = at-put (midst (suc t)) t own

        gathers : (s : ℕ) → at-put was p (was p || on) s ≡ (was s || gives_to s t)
        gathers s =
            ap (λ (q : Bool). at-put was p (was p || (ltb p t && q)) s) given_is ∙ gathered f t l (gives t) was s

        not_late : (s : ℕ) → t ≤ s → gives_to s t ≡ false
        not_late s h =
            elim (dec_lt p t) [
              | yes m ↦ rw (led f t l (gives t) s, ne_eqb p s (λ e. omega arith), and-false)
              | no m ↦ rw (led f t l (gives t) s, le-ltb p t (omega arith))
            ]

        turned : (s : ℕ) → (at-put (midst (suc t)) t own s || gives_to s t) ≡ midst t s
        turned s =
            elim (dec_lt s t) [
              | yes h ↦ rw (soon s h, lt-ltb s t h) (sym (any_from-next (length f) (gives_to s) t l))
              | no h ↦ rw (late s (omega arith), not_late s (omega arith), le-ltb s t (omega arith)) (or-false (marks s))
            ]

        -- One turn.
        pub ahead-turn : AheadMid i (set after₁ p (bit_or v (bit on * 2 ^ i))) p t
        ahead-turn =
            record {
              within = omega arith;
              next_is = get_d_any f t 0 (length f) l;
              passed = passed-same room (λ s h. gathers s ∙ turned s) (passed-join room passed₁ p (omega arith) on);
            }
