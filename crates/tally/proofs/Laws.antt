-- Laws of the tally: when 12 is given, what a refusal leaves, what an accepted verdict makes and that the balance stays, and that the
-- promise determines the number and the tally.
-- Assumes nothing.
use Prim.Native.Nat.{ℕ, ◌+◌}
use native.Mathlib.Omega.{arith}
use mathlib.Core.Path.{◌≡◌, refl, sym, ◌∙◌}
use mathlib.Core.Bool.{Bool, true, false, cond, not, ◌||◌}
use mathlib.Core.Logic.{◌⊎◌, inl, inr, ⊎_elim}
use borrow.Author.Tests.{eqb-true, eqb-false, eq-eqb, ne_eqb}
use lib.Dec.{eqb}
use Rattle.tally.specs.Tally.{Full, Balanced, tally_refused, risen, counted, Tallied}
use Rattle.tally.specs.declared.export.Tally.{Tally}
use Rattle.tally.specs.declared.export.NotCounted.{NotCounted}
use Rattle.tally.specs.declared.export.NotCounted.TheVariants.{AtLimit, OutOfBalance}
use Rattle.std.specs.Prelude.{Result, Ok, Err}

clash : {A : Type 0} → true ≡ false → A
clash e = absurd (let k : ◌≡◌ {A = ℕ} 0 1 = cc in omega arith)

-- ---- when a tally is refused

-- A tally that is not refused is not full, and is in balance.
pub refused-not : (t : Tally) → tally_refused t ≡ false → (Full t → ⊥) × Balanced t
unfolding tally_refused
refused-not t = go (eqb t.seen 4294967295) (eqb t.seen (t.selected + t.passed_over)) refl refl
  where
    go : (a b : Bool) → eqb t.seen 4294967295 ≡ a → eqb t.seen (t.selected + t.passed_over) ≡ b → a || not b ≡ false
        → (Full t → ⊥) × Balanced t
    go true b p q z = clash z
    go false false p q z = clash z
    go false true p q z = (eqb-false _ _ p, eqb-true _ _ q)

-- A tally that is refused is full or out of balance.
refused-is : (t : Tally) → tally_refused t ≡ true → Full t ⊎ (Balanced t → ⊥)
unfolding tally_refused
refused-is t = go (eqb t.seen 4294967295) (eqb t.seen (t.selected + t.passed_over)) refl refl
  where
    go : (a b : Bool) → eqb t.seen 4294967295 ≡ a → eqb t.seen (t.selected + t.passed_over) ≡ b → a || not b ≡ true
        → Full t ⊎ (Balanced t → ⊥)
    go true b p q z = inl (eqb-true _ _ p)
    go false false p q z = inr (eqb-false _ _ q)
    go false true p q z = clash (sym z)

-- ---- what counting answers

-- What counting comes to, by what is the matter with the tally.
pub counted-full : (t : Tally) (verdict : Bool) → Full t → counted t verdict ≡ Err AtLimit
unfolding counted
counted-full t verdict e = rw (eq-eqb _ _ e)

pub counted-unbalanced : (t : Tally) (verdict : Bool) → (Full t → ⊥) → (Balanced t → ⊥) → counted t verdict ≡ Err OutOfBalance
unfolding counted
counted-unbalanced t verdict f b = rw (ne_eqb _ _ f, ne_eqb _ _ b)

pub counted-taken : (t : Tally) (verdict : Bool) → (Full t → ⊥) → Balanced t → counted t verdict ≡ Ok (risen t verdict)
unfolding counted
counted-taken t verdict f b = rw (ne_eqb _ _ f, eq-eqb _ _ b)

-- The number and the tally that are left by it: a tally in which nothing is counted is answered 12 and stays as it was.
abbrev pub number_of : Result Tally NotCounted → ℕ
number_of (Ok more) = 0
number_of (Err why) = 12

abbrev pub left_by : Tally → Result Tally NotCounted → Tally
left_by t (Ok more) = more
left_by t (Err why) = t

pub counted-tallied : (t : Tally) (verdict : Bool) (r : Result Tally NotCounted) → r ≡ counted t verdict → Tallied t verdict (number_of r) (left_by t r)
unfolding counted tally_refused
counted-tallied t verdict r e = rw e (go (eqb t.seen 4294967295) (eqb t.seen (t.selected + t.passed_over)) refl refl)
  where
    go : (a b : Bool) → eqb t.seen 4294967295 ≡ a → eqb t.seen (t.selected + t.passed_over) ≡ b
        → let w = cond a (Err AtLimit) (cond b (Ok (risen t verdict)) (Err OutOfBalance)) in Tallied t verdict (number_of w) (left_by t w)
    go true b p q = record { number_is = rw p; tally_is = rw p }
    go false true p q = record { number_is = rw (p, q); tally_is = rw (p, q) }
    go false false p q = record { number_is = rw (p, q); tally_is = rw (p, q) }

-- 12 is given exactly when the tally is full or out of balance.
pub twelve-iff : {t : Tally} {verdict : Bool} {number : ℕ} {after : Tally} → Tallied t verdict number after
    → (number ≡ 12 → Full t ⊎ (Balanced t → ⊥)) × (Full t ⊎ (Balanced t → ⊥) → number ≡ 12)
twelve-iff {t} r = (λ e. only (tally_refused t) refl (sym e ∙ r.number_is), λ w. r.number_is ∙ gives (tally_refused t) refl w)
  where
    only : (b : Bool) → tally_refused t ≡ b → ◌≡◌ {A = ℕ} 12 (cond b 12 0) → Full t ⊎ (Balanced t → ⊥)
    only true p z = refused-is t p
    only false p z = absurd (omega arith)

    gives : (b : Bool) → tally_refused t ≡ b → Full t ⊎ (Balanced t → ⊥) → ◌≡◌ {A = ℕ} (cond b 12 0) 12
    gives true p w = refl
    gives false p w = absurd (⊎_elim (refused-not t p).0 (λ h. h (refused-not t p).1) w)

-- Where 12 is given, the tally is as it was.
pub twelve-kept : {t : Tally} {verdict : Bool} {number : ℕ} {after : Tally} → Tallied t verdict number after → number ≡ 12 → after ≡ t
twelve-kept {t} {verdict} r e = r.tally_is ∙ go (tally_refused t) (sym e ∙ r.number_is)
  where
    go : (b : Bool) → ◌≡◌ {A = ℕ} 12 (cond b 12 0) → cond b t (risen t verdict) ≡ t
    go true z = refl
    go false z = absurd (omega arith)

-- A balanced tally stays in balance.
pub risen-balanced : (t : Tally) (verdict : Bool) → Balanced t → Balanced (risen t verdict)
unfolding risen
risen-balanced t true e = omega arith
risen-balanced t false e = omega arith

-- ---- the promise determines the answer

-- Two results of counting the same verdict in the same tally are equal, number and tally.
pub tallied-only : {t : Tally} {verdict : Bool} {n n' : ℕ} {u u' : Tally} → Tallied t verdict n u
    → Tallied t verdict n' u' → (n ≡ n') × (u ≡ u')
tallied-only p q = (p.number_is ∙ sym q.number_is, p.tally_is ∙ sym q.tally_is)

-- So are two results of `count`.
pub count-only : (t : Tally) (verdict : Bool) {r r' : Result Tally NotCounted} → r ≡ counted t verdict → r' ≡ counted t verdict → r ≡ r'
count-only t verdict p q = p ∙ sym q
