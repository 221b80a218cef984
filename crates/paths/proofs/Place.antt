-- Every byte string is a text, or has exactly one place where it stops being the beginning of one; the machine finds it.
-- Assumes nothing.
use Prim.Native.Nat.{ℕ, suc, ◌+◌, ◌-◌, ◌<◌}
use native.Mathlib.Decide.{dec_lt}
use native.Mathlib.Numerals.{add-one}
use native.Mathlib.Omega.{arith}
use mathlib.Core.Path.{◌≡◌, refl, ap}
use mathlib.Core.Bool.{Bool, true, false, cond}
use mathlib.Core.List.{List, [], ◌∷◌, ◌++◌, append_assoc}
use mathlib.Core.Logic.{◌⊎◌, inl, inr, ◌↔◌}
use mathlib.Core.Option.{Option, none, some}
use borrow.Author.Tests.{eq-eqb}
use lib.ListN.{length, take, drop, length-append}
use lib.Seq.{take-append_seam, take-append-add, take-add}
use Rattle.paths.specs.Spelling.{gap, Text, Begins, StopsAt}
use Rattle.paths.proofs.Machine.{Expected, byte, test, lettered, alternative, number, two_digits, one_digit, path, axis, after_axis, after_step, is_digit, is_word, choices, pick, next, ended, Outcome, whole, stopped, onward, run}
use Rattle.paths.proofs.Complete.{text-whole}
use Rattle.paths.proofs.Sound.{whole-text}

-- ---- every stack can be met

-- Bytes that meet a stack.
unfoldable finish : (after : Bool) → List Expected → List ℕ
finish w [] = []
finish w (byte c ∷ K) = c ∷ finish (is_word c) K
finish w (test ∷ K) = 60 ∷ 99 ∷ 104 ∷ 105 ∷ 108 ∷ 100 ∷ 62 ∷ finish false K
finish w (lettered ∷ K) = 116 ∷ 114 ∷ 117 ∷ 101 ∷ finish true K
finish w (alternative ∷ K) = gap w ++ (111 ∷ 114 ∷ finish true K)
finish w (number ∷ K) = 49 ∷ 48 ∷ 48 ∷ finish true K
finish w (two_digits ∷ K) = 48 ∷ 48 ∷ finish true K
finish w (one_digit ∷ K) = 48 ∷ finish true K
finish w (path ∷ K) = 99 ∷ 104 ∷ 105 ∷ 108 ∷ 100 ∷ 62 ∷ finish false K
finish w (axis ∷ K) = 99 ∷ 104 ∷ 105 ∷ 108 ∷ 100 ∷ finish true K
finish w (after_axis ∷ K) = 62 ∷ finish false K
finish w (after_step ∷ K) = 62 ∷ finish false K

finish-whole : (K : List Expected) (w : Bool) → run w K (finish w K) ≡ whole
unfolding run finish next pick choices ended is_word is_digit
finish-whole [] w = refl
finish-whole (byte c ∷ K) w = rw (eq-eqb c c refl) (finish-whole K (is_word c))
finish-whole (test ∷ K) w = finish-whole K false
finish-whole (lettered ∷ K) w = finish-whole K true
finish-whole (alternative ∷ K) true = finish-whole K true
finish-whole (alternative ∷ K) false = finish-whole K true
finish-whole (number ∷ K) w = finish-whole K true
finish-whole (two_digits ∷ K) w = finish-whole K true
finish-whole (one_digit ∷ K) w = finish-whole K true
finish-whole (path ∷ K) w = finish-whole K false
finish-whole (axis ∷ K) w = finish-whole K true
finish-whole (after_axis ∷ K) w = finish-whole K false
finish-whole (after_step ∷ K) w = finish-whole K false

-- ---- where the machine stops

-- Reading s stopped before `left`: what was read can go on to something that is read whole, and with the next byte it cannot.
pub record Halts (w : Bool) (K : List Expected) (s left : List ℕ) : Type 0 where
  pub front : List ℕ
  pub split : s ≡ front ++ left
  pub goes_on : (more : List ℕ) × (run w K (front ++ more) ≡ whole)
  pub bars : (b : ℕ) (rest more : List ℕ) → left ≡ b ∷ rest → run w K (front ++ (b ∷ more)) ≡ stopped (b ∷ more)

pub run-halts : (s : List ℕ) (w : Bool) (K : List Expected) (left : List ℕ) → run w K s ≡ stopped left → Halts w K s left
unfolding run
run-halts [] w K left e = go (ended K) e where
  go : (t : Bool) → cond t whole (stopped []) ≡ stopped left → Halts w K [] left
  go true e = let z : ◌≡◌ {A = ℕ} 0 1 = cc in absurd (omega arith)
  go false e =
      let z : [] ≡ left = cc in
      record {
        front = [];
        split = z;
        goes_on = (finish w K, finish-whole K w);
        bars = λ b rest more q. let y : ◌≡◌ {A = ℕ} 0 1 = cc in absurd (omega arith);
      }
run-halts (b ∷ s) w K left e = go (next w K b) refl e (λ L. run-halts s (is_word b) L left) where
  go : (o : Option (List Expected)) → next w K b ≡ o → onward o (b ∷ s) (λ L. run (is_word b) L s) ≡ stopped left
      → ((L : List Expected) → run (is_word b) L s ≡ stopped left → Halts (is_word b) L s left) → Halts w K (b ∷ s) left
  go none d e k =
      let z : b ∷ s ≡ left = cc in
      record {
        front = [];
        split = z;
        goes_on = (finish w K, finish-whole K w);
        bars = λ c rest more q. let y : c ≡ b = cc in rw (y, d);
      }
  go (some L) d e k =
      let h = k L e in
      record {
        front = b ∷ h.front;
        split = ap (◌∷◌ b) h.split;
        goes_on = (h.goes_on.0, rw d h.goes_on.1);
        bars = λ c rest more q. rw d (h.bars c rest more q);
      }

-- ---- texts

-- The machine reads exactly the texts whole.
pub text-iff : (s : List ℕ) → (run false (test ∷ []) s ≡ whole) ↔ Text s
text-iff s = (whole-text s, λ (t, g, e). rw e (text-whole t g))

-- With the byte at which the machine stops, nothing begins a text.
barred : (front left : List ℕ) → length front < length (front ++ left)
    → ((b : ℕ) (rest more : List ℕ) → left ≡ b ∷ rest → run false (test ∷ []) (front ++ (b ∷ more)) ≡ stopped (b ∷ more))
    → Begins (take (suc (length front)) (front ++ left)) → ⊥
barred front [] l f g = omega (arith, length-append front [])
barred front (b ∷ rest) l f (more, x) =
    let e : take (suc (length front)) (front ++ (b ∷ rest)) ≡ front ++ (b ∷ []) = rw (← add-one (length front)) (take-append-add front (b ∷ rest) 1) in
    let y : Text (front ++ (b ∷ more)) = rw (e, append_assoc front (b ∷ []) more) at x in
    let u = (text-iff (front ++ (b ∷ more))).1 y in
    let v = f b rest more refl in
    let z : ◌≡◌ {A = ℕ} 0 1 = cc in
    omega arith

-- Where the machine stops is the place.
pub halts-stops : (s left : List ℕ) → Halts false (test ∷ []) s left → (p : ℕ) × StopsAt s p × (s ≡ take p s ++ left)
halts-stops s left h = go h.front h.split h.goes_on h.bars where
  go : (front : List ℕ) → s ≡ front ++ left → (more : List ℕ) × (run false (test ∷ []) (front ++ more) ≡ whole)
      → ((b : ℕ) (rest more : List ℕ) → left ≡ b ∷ rest → run false (test ∷ []) (front ++ (b ∷ more)) ≡ stopped (b ∷ more))
      → (p : ℕ) × StopsAt s p × (s ≡ take p s ++ left)
  go front e g f =
      let before : take (length front) s ≡ front = rw e (take-append_seam front left) in (
        length front,
        record {
          within = omega (arith, simp length-append at (ap length e));
          before = (g.0, rw before ((text-iff _).0 g.1));
          no_more = λ l x. barred front left (rw e at l) f (rw e at x);
        },
        rw before e,
      )

-- ---- the place

begins-shorter : (s : List ℕ) (n m : ℕ) → Begins (take (n + m) s) → Begins (take n s)
begins-shorter s n m (more, x) = (take m (drop n s) ++ more, rw (take-add n m s, append_assoc) at x)

not-before : (s : List ℕ) (p q : ℕ) → StopsAt s p → StopsAt s q → p < q → ⊥
not-before s p q a b l =
    let e : suc p + (q - suc p) ≡ q = omega arith in
    a.no_more (omega (arith, b.within)) (begins-shorter s (suc p) (q - suc p) (rw e b.before))

-- There is one place at most.
pub stops-only : (s : List ℕ) (p q : ℕ) → StopsAt s p → StopsAt s q → p ≡ q
stops-only s p q a b =
    elim (dec_lt p q) [
      | yes l ↦ absurd (not-before s p q a b l)
      | no l ↦ elim (dec_lt q p) [ yes m ↦ absurd (not-before s q p b a m) | no m ↦ omega arith ]
    ]

-- A byte string is a text, or is none and has a place.
pub text-or-place : (s : List ℕ) → Text s ⊎ ((Text s → ⊥) × ((p : ℕ) × StopsAt s p))
text-or-place s = go (run false (test ∷ []) s) refl where
  go : (o : Outcome) → run false (test ∷ []) s ≡ o → Text s ⊎ ((Text s → ⊥) × ((p : ℕ) × StopsAt s p))
  go whole e = inl ((text-iff s).0 e)
  go (stopped left) e =
      let r = halts-stops s left (run-halts s false (test ∷ []) left e) in
      inr (λ x. let u = (text-iff s).1 x in let z : ◌≡◌ {A = ℕ} 0 1 = cc in omega arith, (r.0, r.1))
