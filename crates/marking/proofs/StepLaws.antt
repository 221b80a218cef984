-- The marks of a pass are its steps: at each element, what the step makes of the element's own bits and of those one step away.
-- Once over every function F that finds a relation backward among n elements. Assumes nothing.
use Prim.Native.Nat.{ℕ, suc, ◌≤◌, ◌<◌}
use native.Mathlib.Nat.{eq-or-lt_of_le}
use native.Mathlib.Omega.{arith}
use mathlib.Core.Path.{◌≡◌, refl, sym, subst}
use mathlib.Core.Bool.{Bool, true, false, cond, ◌&&◌, ◌||◌}
use mathlib.Core.List.{List}
use mathlib.Core.Logic.{inl, inr, ⊎_elim}
use mathlib.Core.Option.{Option, none, some}
use lib.Dec.{leb, ltb}
use lib.ListN.{length, get_or}
use Rattle.numbers.proofs.Tells.{IsTest, fails, test-same, leb-tests, or-tests, and-tests}
use Rattle.meaning.specs.Tree.{forward, backward}
use Rattle.meaning.specs.Marks.{at, any_below, some_of, every_of}
use Rattle.meaning.proofs.Tests.{Finds, ahead, behind, bool-told, any_told, until-is}
use Rattle.layout.specs.Links.{leads, leads_to}
use Rattle.marking.specs.Pass.{Passed, Room, bits_of}
use Rattle.marking.specs.Steps.{along_mark, ahead_mark}
use Rattle.steps.specs.Steps.{back_step, own_step, given_step}
use Rattle.steps.specs.declared.ahead.AskedAhead.{AskedAhead}
use Rattle.steps.specs.declared.ahead.AskedAhead.TheVariants.{Until, Every}
use Rattle.layout.proofs.LinkLaws.{leads-at, leads-finds}
use Rattle.marking.proofs.PassLaws.{before-only, passed-bit, passed-under}
use Rattle.numbers.specs.Bits.{bit_at}

-- At the element that a number leads to.
pub at-leads : (s number : ℕ) (m : ℕ → Bool) → at (leads_to s number) m ≡ (ltb number s && m number)
at-leads s number m = go (ltb number s) where
  go : (q : Bool) → at (cond q (some number) none) m ≡ (q && m number)
  go true = refl
  go false = refl

-- ---- from the first element on

-- The mark is the step over the element's own bits and over bit a and the mark where F leads.
back-own : {R : ℕ → ℕ → Type 0} {F : ℕ → Option ℕ} {n : ℕ} → Finds R F n → (until : Bool) (a b : ℕ → Bool) (s : ℕ) → s < n
    → along_mark until backward n F a b s ≡ back_step until (a s) (b s) (at (F s) a) (at (F s) (along_mark until backward n F a b))
unfolding along_mark some_of
back-own finds true a b s l = until-is (behind finds) a b s l
back-own finds false a b s l = refl

and_again : (q x : Bool) → (q && (q && x)) ≡ (q && x)
and_again true x = refl
and_again false x = refl

-- What the pass reads at an element and where the column leads gives the element's mark.
pub back-turn : {i : ℕ} {before after : List ℕ} (f : List ℕ) (until : Bool) (a b s : ℕ) → Room (length f) i before → a < i → b < i
    → s < length f → get_or f s 0 ≤ s
    → Passed (length f) i (before-only (along_mark until backward (length f) (leads f) (bits_of before a) (bits_of before b)) s) before after
    → back_step until (bit_at (get_or after s 0) a) (bit_at (get_or after s 0) b) (ltb (get_or f s 0) s && bit_at (get_or after (get_or f s 0) 0) a)
    (ltb (get_or f s 0) s && bit_at (get_or after (get_or f s 0) 0) i)
    ≡ along_mark until backward (length f) (leads f) (bits_of before a) (bits_of before b) s
back-turn {i} {before} {after} f until a b s room la lb l h r =
    let k : get_or f s 0 < length f = omega arith in
    rw (passed-under room r s l a la, passed-under room r s l b lb, passed-under room r (get_or f s 0) k a la, passed-bit room r (get_or f s 0) k, and_again)
    (rw (← at-leads s (get_or f s 0) (bits_of before a), ← at-leads s (get_or f s 0) (along_mark until backward (length f) (leads f) (bits_of before a) (bits_of before b)), ← leads-at f s l)
    (sym (back-own (leads-finds f) until (bits_of before a) (bits_of before b) s l)))

-- ---- from the last element on

-- The mark is the step over the element's own bits, over what those give that F leads here, and over whether there are such.
pub ahead_own : {R : ℕ → ℕ → Type 0} {F : ℕ → Option ℕ} {n : ℕ} → Finds R F n → (asked : AskedAhead) (a b : ℕ → Bool) (s : ℕ) → s < n
    → ahead_mark asked n F a b s ≡ own_step asked (a s) (b s)
    (some_of forward n F (λ c. given_step asked (a c) (ahead_mark asked n F a b c)) s) (some_of forward n F (λ c. true) s)
unfolding ahead_mark every_of
ahead_own finds Until a b s l = until-is (ahead finds) a b s l
ahead_own finds Every a b s l = refl

-- p passes at some number from t on, below n.
unfoldable pub any_from : ℕ → (ℕ → Bool) → ℕ → Bool
any_from n p t = any_below n (λ c. leb t c && p c)

module _ (n : ℕ) (p : ℕ → Bool) where
  from_told : (t : ℕ) → IsTest ((c : ℕ) × (c < n) × ((t ≤ c) × (p c ≡ true))) (any_from n p t)
  unfolding any_from
  from_told t = any_told n (λ c l. and-tests (leb-tests t c) (bool-told (p c)))

  -- Not from the end on.
  pub any_from-end : any_from n p n ≡ false
  any_from-end = test-same (from_told n) (fails (λ x. x)) (λ r. omega (arith, r.1, r.2.0), λ x. absurd x)

  -- From one number lower on: there, or from the number on.
  pub any_from-next : (t : ℕ) → t < n → any_from n p t ≡ (any_from n p (suc t) || p t)
  any_from-next t l =
      test-same (from_told t) (or-tests (from_told (suc t)) (bool-told (p t))) (
        λ r. ⊎_elim (λ e. inr (subst (λ (c : ℕ). p c ≡ true) (sym e) r.2.1)) (λ h. inl (r.0, r.1, (h, r.2.1))) (eq-or-lt_of_le r.2.0),
        ⊎_elim (λ r. (r.0, r.1, (omega (arith, r.2.0), r.2.1))) (λ e. (t, l, (omega arith, e))),
      )

  -- Anywhere, where p passes from t on only.
  pub any_from-all : (t : ℕ) → ((c : ℕ) → p c ≡ true → t ≤ c) → any_from n p t ≡ any_below n p
  any_from-all t h =
      test-same (from_told t) (any_told n (λ c l. bool-told (p c))) (λ r. (r.0, r.1, r.2.1), λ r. (r.0, r.1, (h r.0 r.2, r.2)))
