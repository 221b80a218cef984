-- Laws of numbers in decimal: the two cases, that the digits say the number, that they are digits, that the first is not `0` but in
-- the number 0, and how many there are.
-- Assumes nothing.
use Prim.Native.Nat.{ℕ, zero, suc, ◌+◌, ◌*◌, ◌-◌, ◌/◌, ◌%◌, ◌^◌, ◌≤◌, ◌<◌}
use native.Mathlib.Omega.{arith}
use native.Mathlib.Nat.{div-lt_iff_lt-mul, pow-suc}
use native.Mathlib.Decide.{dec_lt}
use borrow.Author.Tests.{lt-ltb, le-ltb, ltb-false}
use mathlib.Core.Path.{◌≡◌, refl, sym, ap, ◌∙◌}
use mathlib.Core.Bool.{Bool, true, false, cond}
use mathlib.Core.List.{List, [], ◌∷◌, ◌++◌}
use lib.Dec.{ltb}
use lib.ListN.{length, length-append}
use Rattle.text.specs.Decimal.{digit, digits, decimal, value_from, value_of}

-- ---- the two cases

-- Any two numbers of places that are enough give the same digits.
digits-enough : (k m n : ℕ) → n < k → n < m → digits k n ≡ digits m n
unfolding digits
digits-enough zero m n p q = absurd (omega arith)
digits-enough (suc k) zero n p q = absurd (omega arith)
digits-enough (suc k) (suc m) n p q = go (digits-enough k m (n / 10)) (ltb n 10) refl
  where
    go : (n / 10 < k → n / 10 < m → digits k (n / 10) ≡ digits m (n / 10)) → (b : Bool) → ltb n 10 ≡ b
        → cond b (digit n ∷ []) (digits k (n / 10) ++ (digit (n % 10) ∷ []))
        ≡ cond b (digit n ∷ []) (digits m (n / 10) ++ (digit (n % 10) ∷ []))
    go h true e = refl
    go h false e =
        let l : 10 ≤ n = ltb-false n 10 e in
        ap (λ (ds : List ℕ). ds ++ (digit (n % 10) ∷ [])) (h (omega arith) (omega arith))

-- A number below ten is one digit.
pub decimal-one : (n : ℕ) → n < 10 → decimal n ≡ digit n ∷ []
unfolding decimal digits
decimal-one n h = rw (lt-ltb n 10 h)

-- Any other number is its digits but the lowest, and then the lowest.
pub decimal-more : (n : ℕ) → 10 ≤ n → decimal n ≡ decimal (n / 10) ++ (digit (n % 10) ∷ [])
unfolding decimal digits
decimal-more n h =
    rw (le-ltb n 10 h)
    (ap (λ (ds : List ℕ). ds ++ (digit (n % 10) ∷ [])) (digits-enough n (suc (n / 10)) (n / 10) (omega arith) (omega arith)))

-- What holds of each number below ten, and of every number of which it holds without its lowest digit, holds of every number.
by_digits : (P : ℕ → Type 0) → ((n : ℕ) → n < 10 → P n) → ((n : ℕ) → 10 ≤ n → P (n / 10) → P n) → (n : ℕ) → P n
by_digits P one more n = go (suc n) n (omega arith)
  where
    go : (k n : ℕ) → n < k → P n
    go zero n h = absurd (omega arith)
    go (suc k) n h = elim (dec_lt n 10) [
      | yes l ↦ one n l
      | no l ↦ more n (omega arith) (go k (n / 10) (omega arith))
    ]

-- ---- what the digits say

-- Digits behind others.
value-append : (v : ℕ) (ds es : List ℕ) → value_from v (ds ++ es) ≡ value_from (value_from v ds) es
unfolding value_from
value-append v [] es = refl
value-append v (d ∷ ds) es = value-append (10 * v + (d - 48)) ds es

value-last : (ds : List ℕ) (d : ℕ) → value_of (ds ++ (digit d ∷ [])) ≡ 10 * value_of ds + d
unfolding value_from
value-last ds d = value-append 0 ds (digit d ∷ []) ∙ omega arith

-- The digits of a number say the number.
pub decimal-back : (n : ℕ) → value_of (decimal n) ≡ n
unfolding value_from
decimal-back =
    by_digits (λ n. value_of (decimal n) ≡ n) (λ n l. ap value_of (decimal-one n l) ∙ omega arith)
    (λ n l h. ap value_of (decimal-more n l) ∙ value-last (decimal (n / 10)) (n % 10) ∙ omega arith)

-- Two numbers with the same text are equal.
pub decimal-only : (m n : ℕ) → decimal m ≡ decimal n → m ≡ n
decimal-only m n e = sym (decimal-back m) ∙ ap value_of e ∙ decimal-back n

-- ---- the bytes

-- A property of every byte of a list.
unfoldable pub Every : (ℕ → Type 0) → List ℕ → Type 0
Every P [] = Unit
Every P (b ∷ bs) = P b × Every P bs

pub every_append : (P : ℕ → Type 0) (bs cs : List ℕ) → Every P bs → Every P cs → Every P (bs ++ cs)
unfolding Every
every_append P [] cs h q = q
every_append P (b ∷ bs) cs h q = (h.0, every_append P bs cs h.1 q)

pub every_one : (P : ℕ → Type 0) (b : ℕ) → P b → Every P (b ∷ [])
unfolding Every
every_one P b h = (h, tt)

-- The bytes of the digits.
abbrev pub Digit : ℕ → Type 0
Digit b = (48 ≤ b) × (b ≤ 57)

-- Every byte of a number in decimal is a digit.
pub decimal-digits : (n : ℕ) → Every Digit (decimal n)
decimal-digits =
    by_digits (λ n. Every Digit (decimal n)) (λ n l. rw (decimal-one n l) (every_one Digit (digit n) (omega arith)))
    (λ n l h. rw (decimal-more n l) (every_append Digit (decimal (n / 10)) (digit (n % 10) ∷ []) h (every_one Digit (digit (n % 10)) (omega arith))))

-- ---- the length

length_last : (ds : List ℕ) (d : ℕ) → length (ds ++ (d ∷ [])) ≡ length ds + 1
length_last ds d = length-append ds (d ∷ [])

-- A number from ten on has a digit more than without its lowest.
pub decimal-longer : (n : ℕ) → 10 ≤ n → length (decimal n) ≡ length (decimal (n / 10)) + 1
decimal-longer n h = ap length (decimal-more n h) ∙ length_last (decimal (n / 10)) (digit (n % 10))

-- A number has a digit.
pub decimal-some : (n : ℕ) → 1 ≤ length (decimal n)
decimal-some =
    by_digits (λ n. 1 ≤ length (decimal n)) (λ n l. rw (decimal-one n l) (omega arith)) (λ n l h. omega (arith, decimal-longer n l))

-- A number below ten to the k has k digits at most, where k is not 0.
pub decimal-short : (k n : ℕ) → n < 10 ^ suc k → length (decimal n) ≤ suc k
decimal-short zero n h = rw (decimal-one n h) (omega arith)
decimal-short (suc k) n h = elim (dec_lt n 10) [
  | yes l ↦ rw (decimal-one n l) (omega arith)
  | no l ↦
      let m : 10 ≤ n = omega arith in
      let b : n < 10 ^ suc k * 10 = rw pow-suc at h in
      let r : length (decimal (n / 10)) ≤ suc k = decimal-short k (n / 10) ((div-lt_iff_lt-mul {k = 10} (omega arith)).1 b) in
      omega (arith, decimal-longer n m)
]
