-- Forms: which own entries each has, one law for each return; how many they are and how many bytes they have. Assumes nothing.
use Prim.Native.Nat.{ℕ, zero, suc, pred, ◌+◌, ◌*◌, ◌/◌, ◌≤◌, ◌<◌}
use native.Mathlib.Omega.{arith}
use native.Mathlib.Nat.{eq-or-lt_of_le}
use mathlib.Core.Path.{◌≡◌, refl, subst}
use mathlib.Core.Bool.{Bool, true, false, cond}
use mathlib.Core.List.{[], ◌∷◌}
use mathlib.Core.Logic.{⊎_elim}
use borrow.Author.Tests.{leb-true, le-leb, lt-leb, ne_eqb}
use lib.Dec.{leb, eqb}
use lib.ListN.{length}
use Rattle.terms.specs.Kinds.{row_of}
use Rattle.numbers.specs.Bytes.{two_bytes}
use Rattle.grammar.specs.Rules.{body_of, record_of, rule_bytes}
use Rattle.paths.specs.Translation.{entry}
use Rattle.spell.specs.Forms.{star_entries, down_entries, beside_entries, own_entries, form_entries, form_bytes}

-- ---- how many entries, how many bytes

module _ (form : ℕ) where
  pub entries-one : form ≤ 9 → 1 ≡ form_entries form
  unfolding form_entries
  entries-one l = rw (le-leb form 9 l)

  pub entries-four : form ≡ 14 → 4 ≡ form_entries form
  unfolding form_entries
  entries-four e = rw e

  pub entries-two : 9 < form → (form ≡ 14 → ⊥) → 2 ≡ form_entries form
  unfolding form_entries
  entries-two l h = rw (lt-leb form 9 l, ne_eqb form 14 h)

  -- A form has one to four entries of its own.
  pub entries-few : (1 ≤ form_entries form) × (form_entries form ≤ 4)
  unfolding form_entries
  entries-few = go (leb form 9) (eqb form 14) where
    go : (p q : Bool) → (1 ≤ cond p 1 (cond q 4 2)) × (cond p 1 (cond q 4 2) ≤ 4)
    go true q = (omega arith, omega arith)
    go false true = (omega arith, omega arith)
    go false false = (omega arith, omega arith)

  pub bytes-five : form ≤ 5 → 4 + 2 * (form / 2) ≡ form_bytes form
  unfolding form_bytes
  bytes-five l = rw (le-leb form 5 l)

  pub bytes-six : 5 < form → form ≤ 9 → 6 ≡ form_bytes form
  unfolding form_bytes
  bytes-six l m = rw (lt-leb form 5 l, le-leb form 9 m)

  pub bytes-twelve : 9 < form → form ≤ 13 → 12 ≡ form_bytes form
  unfolding form_bytes
  bytes-twelve l m = let k : 5 < form = omega arith in rw (lt-leb form 5 k, lt-leb form 9 l, le-leb form 13 m)

  pub bytes-thirty : form ≡ 14 → 30 ≡ form_bytes form
  unfolding form_bytes
  bytes-thirty e = rw e

  pub bytes-fourteen : 13 < form → (form ≡ 14 → ⊥) → 14 ≡ form_bytes form
  unfolding form_bytes
  bytes-fourteen l h =
      let k : 5 < form = omega arith in
      let m : 9 < form = omega arith in rw (lt-leb form 5 k, lt-leb form 9 m, lt-leb form 13 l, ne_eqb form 14 h)

  -- Their records have bytes, and at most 8 each.
  pub bytes-few : (1 ≤ form_bytes form) × (form_bytes form ≤ 8 * form_entries form)
  unfolding form_bytes form_entries
  bytes-few = go (leb form 5) (leb form 9) (leb form 13) (eqb form 14) (λ e. leb-true form 5 e) where
    go : (p q r e : Bool) → (p ≡ true → form ≤ 5)
        → (1 ≤ cond p (4 + 2 * (form / 2)) (cond q 6 (cond r 12 (cond e 30 14))))
        × (cond p (4 + 2 * (form / 2)) (cond q 6 (cond r 12 (cond e 30 14))) ≤ 8 * cond q 1 (cond e 4 2))
    go true true r e h = let l = h refl in (omega arith, omega (arith, l))
    go true false r true h = let l = h refl in (omega arith, omega (arith, l))
    go true false r false h = let l = h refl in (omega arith, omega (arith, l))
    go false true r e h = (omega arith, omega arith)
    go false false true true h = (omega arith, omega arith)
    go false false true false h = (omega arith, omega arith)
    go false false false true h = (omega arith, omega arith)
    go false false false false h = (omega arith, omega arith)

-- ---- which entries

module _ (form argument n : ℕ) (l : 9 < form) where
  own-later : own_entries form argument n
      ≡ cond (leb form 13) (star_entries form argument n) (cond (eqb form 14) (down_entries argument n) (beside_entries form argument n))
  unfolding own_entries
  own-later = rw (ne_eqb form 4 (λ e. omega (arith, e)), ne_eqb form 5 (λ e. omega (arith, e)), lt-leb form 9 l)

  pub own-star : form ≤ 13 → own_entries form argument n ≡ star_entries form argument n
  own-star m = rw (own-later, le-leb form 13 m)

  pub own-down : form ≡ 14 → own_entries form argument n ≡ down_entries argument n
  own-down e = rw (own-later, e)

  pub own-beside : 13 < form → (form ≡ 14 → ⊥) → own_entries form argument n ≡ beside_entries form argument n
  own-beside m h = rw (own-later, lt-leb form 13 m, ne_eqb form 14 h)

-- ---- what they come to, form by form

-- P holds of n numbers from m on.
abbrev Each : (P : ℕ → Type 0) (m n : ℕ) → Type 0
Each P m zero = Unit
Each P m (suc n) = P m × Each P (m + 1) n

each_at : (P : ℕ → Type 0) (m n : ℕ) → Each P m n → (k : ℕ) → m ≤ k → k < m + n → P k
each_at P m zero a k l h = absurd (omega arith)
each_at P m (suc n) a k l h =
    ⊎_elim (λ e. subst P e a.0) (λ g. each_at P (m + 1) n a.1 k (omega arith) (omega arith)) (eq-or-lt_of_le l)

-- The own entries of a form are as many as it says,
counted : (argument n form : ℕ) → 1 ≤ form → form ≤ 17 → length (own_entries form argument n) ≡ form_entries form
unfolding own_entries star_entries down_entries beside_entries form_entries
counted argument n form l m = each_at (λ k. length (own_entries k argument n) ≡ form_entries k) 1 17 all form l (omega arith) where
  all : Each (λ k. length (own_entries k argument n) ≡ form_entries k) 1 17
  all = (refl, (refl, (refl, (refl, (refl, (refl, (refl, (refl, (refl, (refl, (refl, (refl, (refl, (refl, (refl, (refl, (refl, tt)))))))))))))))))

-- and their records have as many bytes.
measured : (argument n form : ℕ) → 1 ≤ form → form ≤ 17 → length (rule_bytes (own_entries form argument n)) ≡ form_bytes form
unfolding own_entries star_entries down_entries beside_entries form_bytes rule_bytes record_of body_of two_bytes row_of
measured argument n form l m = each_at (λ k. length (rule_bytes (own_entries k argument n)) ≡ form_bytes k) 1 17 all form l (omega arith) where
  all : Each (λ k. length (rule_bytes (own_entries k argument n)) ≡ form_bytes k) 1 17
  all = (refl, (refl, (refl, (refl, (refl, (refl, (refl, (refl, (refl, (refl, (refl, (refl, (refl, (refl, (refl, (refl, (refl, tt)))))))))))))))))

-- Both.
abbrev pub Sized : (argument n form : ℕ) → Type 0
Sized argument n form =
    (length (own_entries form argument n) ≡ form_entries form) × (length (rule_bytes (own_entries form argument n)) ≡ form_bytes form)

pub own-sized : (argument n form : ℕ) → 1 ≤ form → form ≤ 17 → Sized argument n form
own-sized argument n form l m = (counted argument n form l m, measured argument n form l m)

-- The own entry of a form up to 9 is of that kind; of the argument and the last entry its record has as many as its kind.
abbrev OneRecord : (argument n form : ℕ) → Type 0
OneRecord argument n form = rule_bytes (own_entries form argument n) ≡ rule_bytes (entry form argument (pred n) ∷ [])

pub own-one : (form argument n : ℕ) {last : ℕ} → form ≤ 9 → last ≡ pred n
    → rule_bytes (own_entries form argument n) ≡ rule_bytes (entry form argument last ∷ [])
unfolding own_entries rule_bytes record_of body_of two_bytes row_of
own-one form argument n l e = rw e (each_at (OneRecord argument n) 0 10 all form (omega arith) (omega arith)) where
  all : Each (OneRecord argument n) 0 10
  all = (refl, (refl, (refl, (refl, (refl, (refl, (refl, (refl, (refl, (refl, tt))))))))))
