-- Laws of the bytes at a cursor, of words and numbers there: what the code has found is what is promised, and what an answer says of
-- reading. Assumes nothing.
use Prim.Native.Nat.{ℕ, zero, suc, ◌+◌, ◌-◌, ◌*◌, ◌≤◌, ◌<◌}
use native.Mathlib.Decide.{dec_lt}
use native.Mathlib.Numerals.{add-one}
use native.Mathlib.Omega.{arith}
use mathlib.Core.Path.{◌≡◌, refl, sym, ap, subst, ◌∙◌}
use mathlib.Core.Bool.{Bool, true, false, cond, ◌&&◌}
use mathlib.Core.List.{List, [], ◌∷◌, ◌++◌}
use borrow.Author.Tests.{ne_eqb, eq-eqb, eqb-true, eqb-false, leb-true}
use lib.Arith.{lt_of_le-ne}
use lib.Dec.{eqb, leb}
use lib.ListN.{length, get_or, drop, drop_of_length-le, length-drop}
use lib.Seq.{drop-cons, drop-drop}
use Rattle.numbers.proofs.Tells.{and-true}
use Rattle.text.specs.Decimal.{digit, value_from}
use Rattle.text.proofs.DecimalLaws.{decimal-one}
use Rattle.paths.proofs.Machine.{number, run, next, ended, is_digit}
use Rattle.paths.proofs.Complete.{NoDigit, two-over, one-over, first-digit, second-digit, third-digit}
use Rattle.paths.proofs.Sound.{decimal-behind}
use Rattle.paths.proofs.Descent.{Stops, agree, word-stops}
use Rattle.std.specs.Prelude.{Option, Some, None, Result, Ok}
use Rattle.words.specs.declared.words.Stray.{Stray}
use Rattle.words.specs.declared.words.Number.{Number}
use Rattle.words.specs.Words.{head_of, digit_from, stray, fixed_at, digit_of, digits_of, numeral_of, number_at}
use Rattle.words.proofs.Reading.{WordAt, NumberAt}

-- ---- tests

-- What holds of both answers of a test holds of its answer.
pub by-test : {A : Type 0} (P : A → Type 0) (t : Bool) {x y : A} → (t ≡ true → P x) → (t ≡ false → P y) → P (cond t x y)
by-test P true f g = f refl
by-test P false f g = g refl

-- ---- the byte at a cursor

module _ (s : List ℕ) (at : ℕ) where
  cursor : at < length s → drop at s ≡ get_or s at 0 ∷ drop (at + 1) s
  cursor l = rw (add-one at) (drop-cons s at 0 l)

  pub head_in : at < length s → get_or s at 0 ≡ head_of (drop at s)
  unfolding head_of
  head_in l = rw (drop-cons s at 0 l)

  pub head-out : length s ≤ at → 0 ≡ head_of (drop at s)
  unfolding head_of
  head-out l = rw (drop_of_length-le s l)

  pub front : (c : ℕ) → head_of (drop at s) ≡ c → 1 ≤ c → (at < length s) × (drop at s ≡ c ∷ drop (at + 1) s)
  front c e p =
      elim (dec_lt at (length s)) [
        | yes l ↦ (l, cursor l ∙ ap (λ (x : ℕ). x ∷ drop (at + 1) s) (head_in l ∙ e))
        | no l ↦ absurd (omega (arith, head-out (omega arith), e))
      ]

-- ---- words

agree-nil : (x : List ℕ) → agree x [] ≡ 0
unfolding agree
agree-nil [] = refl
agree-nil (c ∷ x) = refl

module _ (x s : List ℕ) (at i : ℕ) where
  agree-out : length s ≤ at + i → agree (drop i x) (drop (at + i) s) ≡ 0
  agree-out l = rw (drop_of_length-le s l) (agree-nil (drop i x))

  agree-over : length x ≤ i → agree (drop i x) (drop (at + i) s) ≡ 0
  unfolding agree
  agree-over l = rw (drop_of_length-le x l)

  agree-step : i < length x → at + i < length s
      → agree (drop i x) (drop (at + i) s) ≡ cond (eqb (get_or s (at + i) 0) (get_or x i 0)) (suc (agree (drop (i + 1) x) (drop (at + i + 1) s))) 0
  unfolding agree
  agree-step l m = rw (cursor x i l, cursor s (at + i) m)

module _ (x s : List ℕ) (at : ℕ) where
  -- Either the word or the string is at its end.
  pub agree-ended : (i : ℕ) → (i < length x → length s ≤ at + i) → agree (drop i x) (drop (at + i) s) ≡ 0
  agree-ended i h = elim (dec_lt i (length x)) [ yes l ↦ agree-out x s at i (h l) | no l ↦ agree-over x s at i (omega arith) ]

  pub agree-differs : (i : ℕ) → i < length x → at + i < length s → (get_or s (at + i) 0 ≡ get_or x i 0 → ⊥) → agree (drop i x) (drop (at + i) s) ≡ 0
  agree-differs i l m h = agree-step x s at i l m ∙ rw (ne_eqb _ _ h)

  pub agree_same : (i : ℕ) → i < length x → at + i < length s → get_or s (at + i) 0 ≡ get_or x i 0
      → agree (drop i x) (drop (at + i) s) ≡ suc (agree (drop (i + 1) x) (drop (at + (i + 1)) s))
  agree_same i l m h = let z : at + i + 1 ≡ at + (i + 1) = omega arith in agree-step x s at i l m ∙ rw (eq-eqb _ _ h, z)

agree-all : (x s : List ℕ) → agree x s ≡ length x → s ≡ x ++ drop (length x) s
unfolding agree
agree-all [] s e = refl
agree-all (c ∷ x) [] e = absurd (omega arith)
agree-all (c ∷ x) (b ∷ s) e = go (eqb b c) refl e (agree-all x s) where
  go : (t : Bool) → eqb b c ≡ t → cond t (suc (agree x s)) 0 ≡ suc (length x) → (agree x s ≡ length x → s ≡ x ++ drop (length x) s)
      → b ∷ s ≡ c ∷ (x ++ drop (length x) s)
  go true f e k = let y = eqb-true b c f in rw y (ap (◌∷◌ c) (k (omega arith)))
  go false f e k = absurd (omega arith)

-- No more bytes agree than the word has, and than there are.
agree-most : (x s : List ℕ) → (agree x s ≤ length x) × (agree x s ≤ length s)
unfolding agree
agree-most [] s = (omega arith, omega arith)
agree-most (c ∷ x) [] = (omega arith, omega arith)
agree-most (c ∷ x) (b ∷ s) = go (eqb b c) (agree-most x s) where
  go : (t : Bool) → (agree x s ≤ length x) × (agree x s ≤ length s)
      → (cond t (suc (agree x s)) 0 ≤ suc (length x)) × (cond t (suc (agree x s)) 0 ≤ suc (length s))
  go true h = (omega arith, omega arith)
  go false h = (omega arith, omega arith)

module _ (x s : List ℕ) (at : ℕ) where
  -- The cursor goes on to the end at most; past the end it stays.
  pub agree-fits : at + agree x (drop at s) ≤ at + (length s - at)
  agree-fits = omega (arith, agree-most x (drop at s), length-drop at s)

  pub agree-past : length s ≤ at → 0 ≡ agree x (drop at s)
  agree-past l = rw (drop_of_length-le s l) (sym (agree-nil x))

  module _ (k : ℕ) (e : k ≡ agree x (drop at s)) where
    pub word-whole : k ≡ length x → Ok (at + k) ≡ fixed_at x s at
    unfolding fixed_at
    word-whole f = rw (← e, eq-eqb k (length x) f)

    pub word_cut : (k ≡ length x → ⊥) → stray (at + k) ≡ fixed_at x s at
    unfolding fixed_at
    word_cut f = rw (← e, ne_eqb k (length x) f)

  module _ (inside : at ≤ length s) where
    pub word-law : WordAt x s at (fixed_at x s at)
    unfolding fixed_at
    word-law = by-test (WordAt x s at) (eqb (agree x (drop at s)) (length x)) there missing where
      there : eqb (agree x (drop at s)) (length x) ≡ true → WordAt x s at (Ok (at + agree x (drop at s)))
      there t =
          let f = eqb-true (agree x (drop at s)) (length x) t in
          (omega (arith, f), omega (arith, agree-fits), agree-all x (drop at s) f ∙ rw (f, drop-drop (length x) at s))

      missing : eqb (agree x (drop at s)) (length x) ≡ false → WordAt x s at (stray (at + agree x (drop at s)))
      missing t =
          let f = eqb-false (agree x (drop at s)) (length x) t in (
            omega (arith, agree-fits),
            λ w K. word-stops x (drop at s) w K (lt_of_le-ne (agree-most x (drop at s)).0 f) ∙ rw (drop-drop (agree x (drop at s)) at s),
          )

-- What a word that was looked for says, found or not.
pub word-says : (x s : List ℕ) (at : ℕ) {r q : Result ℕ Stray} → at ≤ length s → r ≡ fixed_at x s at → r ≡ q → WordAt x s at q
word-says x s at m e h = rw (← h, e) (word-law x s at m)

-- ---- numbers

no-digit : (l : List ℕ) → digit_from 48 l ≡ false → NoDigit l
unfolding digit_from head_of NoDigit is_digit
no-digit [] e = tt
no-digit (b ∷ l) e = e

-- The byte of a digit.
pub digit-byte : (low b : ℕ) → (leb low b && leb b 57) ≡ true → (low ≤ b) × (b ≤ 57)
digit-byte low b e = let h = and-true _ _ e in (leb-true low b h.0, leb-true b 57 h.1)

module _ (low : ℕ) (l : List ℕ) where
  pub digit-is : (b : ℕ) → b ≡ head_of l → (leb low b && leb b 57) ≡ true → Some (b - 48) ≡ digit_of low l
  unfolding digit_from digit_of
  digit-is b e t = rw (← e, t)

  pub digit_not : (b : ℕ) → b ≡ head_of l → (leb low b && leb b 57) ≡ false → None ≡ digit_of low l
  unfolding digit_from digit_of
  digit_not b e t = rw (← e, t)

  module _ (r : Option ℕ) (e : r ≡ digit_of low l) where
    digit-none : r ≡ None → digit_from low l ≡ false
    unfolding digit_of
    digit-none h = go (digit_from low l) refl e where
      go : (t : Bool) → digit_from low l ≡ t → r ≡ cond t (Some (head_of l - 48)) None → t ≡ false
      go true t q = absurd (cc)
      go false t q = refl

    digit-some : (d : ℕ) → r ≡ Some d → (digit_from low l ≡ true) × (d ≡ head_of l - 48)
    unfolding digit_of
    digit-some d h = go (digit_from low l) e where
      go : (t : Bool) → r ≡ cond t (Some (head_of l - 48)) None → (t ≡ true) × (d ≡ head_of l - 48)
      go true q = (refl, cc)
      go false q = absurd (cc)

-- There is a byte where there is a digit.
pub digit-there : (s : List ℕ) (at low b : ℕ) → 48 ≤ low → b ≡ head_of (drop at s) → (leb low b && leb b 57) ≡ true → at < length s
digit-there s at low b l e t = (front s at b (sym e) (omega (arith, digit-byte low b t))).0

module _ (s : List ℕ) where
  -- A digit at the cursor, by what it counts.
  digit-front : (low at d : ℕ) → 48 ≤ low → digit_from low (drop at s) ≡ true → d ≡ head_of (drop at s) - 48
      → (low ≤ 48 + d) × (d < 10) × (at < length s) × (drop at s ≡ digit d ∷ drop (at + 1) s)
  unfolding digit_from
  digit-front low at d m e x =
      let h = and-true _ _ e in
      let b = head_of (drop at s) in
      let l = leb-true low b h.0 in
      let u = leb-true b 57 h.1 in
      let (i, q) = front s at b refl (omega arith) in
      let k : digit d ≡ b = omega arith in
      (omega arith, omega arith, i, q ∙ rw k)

  number-none : (at v : ℕ) → digit_from 49 (drop at s) ≡ false → NumberAt s at 0 v
  unfolding digit_from head_of run next ended
  number-none at v e = go (drop at s) e where
    go : (l : List ℕ) → digit_from 49 l ≡ false → Stops false number l l
    go [] e K = refl
    go (b ∷ l) e K = rw e

  number-one : (at v : ℕ) → digit_from 49 (drop at s) ≡ true → digit_from 48 (drop (at + 1) s) ≡ false → v ≡ head_of (drop at s) - 48 → NumberAt s at 1 v
  number-one at v e f x =
      let (a, b, i, q) = digit-front 49 at v (omega arith) e x in (
        omega arith,
        λ K. rw q (first-digit K v _ (omega arith) b ∙ two-over K _ (no-digit _ f)),
        omega arith,
        omega arith,
        q ∙ rw (decimal-one v b),
      )

  number-two : (at v w : ℕ) → digit_from 49 (drop at s) ≡ true → digit_from 48 (drop (at + 1) s) ≡ true → digit_from 48 (drop (at + 2) s) ≡ false
      → v ≡ head_of (drop at s) - 48 → w ≡ head_of (drop (at + 1) s) - 48 → NumberAt s at 2 (10 * v + w)
  number-two at v w e f g x y =
      let (a, b, i, q) = digit-front 49 at v (omega arith) e x in
      let (a2, b2, i2, q2) = digit-front 48 (at + 1) w (omega arith) f y in
      let z : at + 1 + 1 ≡ at + 2 = omega arith in
      let r2 : drop (at + 1) s ≡ digit w ∷ drop (at + 2) s = rw z at q2 in (
        omega arith,
        λ K. rw (q, r2) (first-digit K v _ (omega arith) b ∙ second-digit K w _ b2 ∙ one-over K _ (no-digit _ g)),
        omega arith,
        omega arith,
        q ∙ rw (r2, ← decimal-behind v w (drop (at + 2) s) (omega arith) b2, decimal-one v b),
      )

  number-three : (at v w u : ℕ) → digit_from 49 (drop at s) ≡ true → digit_from 48 (drop (at + 1) s) ≡ true → digit_from 48 (drop (at + 2) s) ≡ true
      → v ≡ head_of (drop at s) - 48 → w ≡ head_of (drop (at + 1) s) - 48 → u ≡ head_of (drop (at + 2) s) - 48
      → NumberAt s at 3 (10 * (10 * v + w) + u)
  number-three at v w u e f g x y z =
      let (a, b, i, q) = digit-front 49 at v (omega arith) e x in
      let (a2, b2, i2, q2) = digit-front 48 (at + 1) w (omega arith) f y in
      let (a3, b3, i3, q3) = digit-front 48 (at + 2) u (omega arith) g z in
      let j : at + 1 + 1 ≡ at + 2 = omega arith in
      let k : at + 2 + 1 ≡ at + 3 = omega arith in
      let r2 : drop (at + 1) s ≡ digit w ∷ drop (at + 2) s = rw j at q2 in
      let r3 : drop (at + 2) s ≡ digit u ∷ drop (at + 3) s = rw k at q3 in
      let t = drop (at + 3) s in (
        omega arith,
        λ K. rw (q, r2, r3) (first-digit K v _ (omega arith) b ∙ second-digit K w _ b2 ∙ third-digit K u _ b3),
        omega arith,
        omega arith,
        q ∙ rw (r2, r3, ← decimal-behind (10 * v + w) u t (omega arith) b3, ← decimal-behind v w (digit u ∷ t) (omega arith) b2, decimal-one v b),
      )

-- The tests of three bytes give the digits of a number, and what the digits count gives its value.
module _ (s : List ℕ) (at : ℕ) where
  abbrev Numeral : ℕ → ℕ → Type 0
  Numeral k v = (k ≡ digits_of (drop at s)) × (v ≡ numeral_of (drop at s))

  -- The value of so many digits.
  value-one : (v : ℕ) (t : List ℕ) → 1 ≡ digits_of (drop at s) → drop at s ≡ digit v ∷ t → v ≡ numeral_of (drop at s)
  unfolding numeral_of value_from
  value-one v t n q = rw (← n, q) (omega arith)

  value-two : (v w : ℕ) (t : List ℕ) → 2 ≡ digits_of (drop at s) → drop at s ≡ digit v ∷ digit w ∷ t → 10 * v + w ≡ numeral_of (drop at s)
  unfolding numeral_of value_from
  value-two v w t n q = rw (← n, q) (omega arith)

  value-three : (v w u : ℕ) (t : List ℕ) → 3 ≡ digits_of (drop at s) → drop at s ≡ digit v ∷ digit w ∷ digit u ∷ t
      → 10 * (10 * v + w) + u ≡ numeral_of (drop at s)
  unfolding numeral_of value_from
  value-three v w u t n q = rw (← n, q) (omega arith)

  module _ (e : digit_from 49 (drop at s) ≡ true) where
    count-one : digit_from 48 (drop (at + 1) s) ≡ false → 1 ≡ digits_of (drop at s)
    unfolding digits_of
    count-one f = rw (e, drop-drop 1 at s, f)

    count-two : digit_from 48 (drop (at + 1) s) ≡ true → digit_from 48 (drop (at + 2) s) ≡ false → 2 ≡ digits_of (drop at s)
    unfolding digits_of
    count-two f g = rw (e, drop-drop 1 at s, f, drop-drop 2 at s, g)

    count-three : digit_from 48 (drop (at + 1) s) ≡ true → digit_from 48 (drop (at + 2) s) ≡ true → 3 ≡ digits_of (drop at s)
    unfolding digits_of
    count-three f g = rw (e, drop-drop 1 at s, f, drop-drop 2 at s, g)

  no_number : digit_from 49 (drop at s) ≡ false → Numeral 0 0
  unfolding digits_of numeral_of value_from
  no_number e = (rw e, rw e)

  one-digit : (v : ℕ) → digit_from 49 (drop at s) ≡ true → digit_from 48 (drop (at + 1) s) ≡ false → v ≡ head_of (drop at s) - 48 → Numeral 1 v
  one-digit v e f x =
      let n = count-one e f in (n, value-one v _ n (digit-front s 49 at v (omega arith) e x).3)

  two_digits : (v w : ℕ) → digit_from 49 (drop at s) ≡ true → digit_from 48 (drop (at + 1) s) ≡ true → digit_from 48 (drop (at + 2) s) ≡ false
      → v ≡ head_of (drop at s) - 48 → w ≡ head_of (drop (at + 1) s) - 48 → Numeral 2 (10 * v + w)
  two_digits v w e f g x y =
      let n = count-two e f g in
      let q = (digit-front s 49 at v (omega arith) e x).3 in
      let r = (digit-front s 48 (at + 1) w (omega arith) f y).3 in (n, value-two v w _ n (q ∙ ap (◌∷◌ (digit v)) r))

  three-digits : (v w u : ℕ) → digit_from 49 (drop at s) ≡ true → digit_from 48 (drop (at + 1) s) ≡ true → digit_from 48 (drop (at + 2) s) ≡ true
      → v ≡ head_of (drop at s) - 48 → w ≡ head_of (drop (at + 1) s) - 48 → u ≡ head_of (drop (at + 2) s) - 48 → Numeral 3 (10 * (10 * v + w) + u)
  three-digits v w u e f g x y z =
      let n = count-three e f g in
      let j : at + 1 + 1 ≡ at + 2 = omega arith in
      let q = (digit-front s 49 at v (omega arith) e x).3 in
      let r : drop (at + 1) s ≡ digit w ∷ drop (at + 2) s = rw j at (digit-front s 48 (at + 1) w (omega arith) f y).3 in
      let o = (digit-front s 48 (at + 2) u (omega arith) g z).3 in
      (n, value-three v w u _ n (q ∙ ap (◌∷◌ (digit v)) (r ∙ ap (◌∷◌ (digit w)) o)))

  same_number : (k v : ℕ) → Numeral k v → NumberAt s at k v → NumberAt s at (digits_of (drop at s)) (numeral_of (drop at s))
  same_number k v (e, f) h =
      subst (λ (n : ℕ). NumberAt s at n (numeral_of (drop at s))) e (subst (λ (m : ℕ). NumberAt s at k m) f h)

  -- What the number at a cursor says.
  pub number-law : NumberAt s at (digits_of (drop at s)) (numeral_of (drop at s))
  number-law = go _ refl _ refl _ refl where
    go : (a : Bool) → digit_from 49 (drop at s) ≡ a → (b : Bool) → digit_from 48 (drop (at + 1) s) ≡ b → (c : Bool) → digit_from 48 (drop (at + 2) s) ≡ c
        → NumberAt s at (digits_of (drop at s)) (numeral_of (drop at s))
    go false e b f c g = same_number 0 0 (no_number e) (number-none s at 0 e)
    go true e false f c g = same_number 1 _ (one-digit _ e f refl) (number-one s at _ e f refl)
    go true e true f false g = same_number 2 _ (two_digits _ _ e f g refl refl) (number-two s at _ _ e f g refl refl)
    go true e true f true g = same_number 3 _ (three-digits _ _ _ e f g refl refl refl) (number-three s at _ _ _ e f g refl refl refl)

  -- The digits stand before the end.
  digits-fit : at + digits_of (drop at s) ≤ at + (length s - at)
  digits-fit = go (digits_of (drop at s)) number-law where
    go : (k : ℕ) → NumberAt s at k (numeral_of (drop at s)) → at + k ≤ at + (length s - at)
    go zero h = omega arith
    go (suc k) h = omega (arith, h.0)

-- From what the code has of three digits.
module _ (s : List ℕ) (at : ℕ) where
  made : (k v : ℕ) → Numeral s at (suc k) v → Some (record { digits = suc k; value = v }) ≡ number_at (drop at s)
  unfolding number_at
  made k v (e, f) = rw (← e, ← f, ne_eqb (suc k) 0 (λ h. omega arith))

  module _ (one : Option ℕ) (x : one ≡ digit_of 49 (drop at s)) where
    pub none_found : one ≡ None → None ≡ number_at (drop at s)
    unfolding number_at
    none_found h = let e = (no_number s at (digit-none 49 (drop at s) one x h)).0 in rw (← e)

    module _ (v : ℕ) (h : one ≡ Some v) (two : Option ℕ) (y : two ≡ digit_of 48 (drop (at + 1) s)) where
      pub one_found : two ≡ None → Some (record { digits = 1; value = v }) ≡ number_at (drop at s)
      one_found i =
          let (e, a) = digit-some 49 (drop at s) one x v h in made 0 v (one-digit s at v e (digit-none 48 (drop (at + 1) s) two y i) a)

      module _ (w : ℕ) (i : two ≡ Some w) (three : Option ℕ) (z : three ≡ digit_of 48 (drop (at + 2) s)) where
        pub two-found : three ≡ None → Some (record { digits = 2; value = 10 * v + w }) ≡ number_at (drop at s)
        two-found j =
            let (e, a) = digit-some 49 (drop at s) one x v h in
            let (f, b) = digit-some 48 (drop (at + 1) s) two y w i in
            made 1 _ (two_digits s at v w e f (digit-none 48 (drop (at + 2) s) three z j) a b)

        pub three-found : (u : ℕ) → three ≡ Some u → Some (record { digits = 3; value = 10 * (10 * v + w) + u }) ≡ number_at (drop at s)
        three-found u j =
            let (e, a) = digit-some 49 (drop at s) one x v h in
            let (f, b) = digit-some 48 (drop (at + 1) s) two y w i in
            let (g, c) = digit-some 48 (drop (at + 2) s) three z u j in made 2 _ (three-digits s at v w u e f g a b c)

-- The digits of a number stand before the end.
pub number-fits : (s : List ℕ) (at : ℕ) (r : Option Number) (n : Number) → r ≡ number_at (drop at s) → r ≡ Some n → at + n.digits ≤ at + (length s - at)
unfolding number_at
number-fits s at r n e h = go (eqb (digits_of (drop at s)) 0) e where
  go : (t : Bool) → r ≡ cond t None (Some (record { digits = digits_of (drop at s); value = numeral_of (drop at s) })) → at + n.digits ≤ at + (length s - at)
  go true q = absurd (cc)
  go false q =
      let i : n ≡ record { digits = digits_of (drop at s); value = numeral_of (drop at s) } = cc in rw i (digits-fit s at)
