-- What the machine reads whole is a text: each step of it, taken back, keeps what the stack stands for. Assumes nothing.
use Prim.Native.Nat.{ℕ, ◌+◌, ◌*◌, ◌-◌, ◌/◌, ◌%◌, ◌≤◌, ◌<◌}
use native.Mathlib.Omega.{arith}
use mathlib.Core.Path.{◌≡◌, refl, ap, ◌∙◌}
use mathlib.Core.Bool.{Bool, true, false, cond, ◌&&◌}
use mathlib.Core.List.{List, [], ◌∷◌, ◌++◌, append_assoc}
use mathlib.Core.Option.{Option, none, some}
use lib.Dec.{leb, eqb}
use borrow.Author.Tests.{leb-true, eqb-true}
use Rattle.text.specs.Text.{ascii}
use Rattle.text.specs.Decimal.{digit, decimal}
use Rattle.text.proofs.DecimalLaws.{decimal-one, decimal-more}
use Rattle.terms.specs.declared.kind.Axis.{Axis}
use Rattle.terms.specs.declared.kind.Axis.TheVariants.{Child as child, Parent as parent, Next as right, Previous as left}
use Rattle.numbers.proofs.Tells.{and-true}
use Rattle.paths.specs.Syntax.{Test, everywhere, labelled, except, either, begins, Path, only, ◌then◌, Step, along, along*, passing, while, GoodT, GoodP, GoodS}
use Rattle.paths.specs.Spelling.{closing, greater, slash, star, word, sign, axis_word, or_word, pieces_t, pieces_p, pieces_s, sign_byte, gap, text_of, Text}
use Rattle.paths.proofs.Machine.{Expected, byte, test, lettered, alternative, number, two_digits, one_digit, path, axis, after_axis, after_step, is_digit, is_word, Choice, letters, axes, going_on, choices, pick, next, ended, whole, stopped, onward, run}
use Rattle.paths.proofs.Ahead.{wordy_t, ahead, spell-ahead, ahead-test, ahead_step}
use Rattle.terms.specs.Limits.{label_most}

-- ---- what a stack stands for

abbrev Label : ℕ → Type 0
Label n = (1 ≤ n) × (n ≤ label_most)

-- The bytes are a path's, with its `>`, and then r.
abbrev Way : Path → (s r : List ℕ) → Type 0
Way p s r = GoodP p × (s ≡ ahead false (pieces_p p (sign greater ∷ [])) r)

-- The bytes s are what the stack expects, where a word stands just before them or not. Behind digits: for every number that leaves
-- room for them. Behind an axis or a step: for every one.
unfoldable Fits : List Expected → (after : Bool) → List ℕ → Type 0
Fits [] w s = s ≡ []
Fits (byte c ∷ K) w s = (r : List ℕ) × (s ≡ c ∷ r) × Fits K (is_word c) r
Fits (test ∷ K) w s = (t : Test) × (r : List ℕ) × GoodT t × (s ≡ ahead w (pieces_t t []) r) × Fits K (wordy_t t) r
Fits (lettered ∷ K) w s =
    (t : Test) × (r : List ℕ) × GoodT t × ((s ≡ ahead false (pieces_t t []) r) × (32 ∷ s ≡ ahead true (pieces_t t []) r)) × Fits K (wordy_t t) r
Fits (alternative ∷ K) w s = (r : List ℕ) × (s ≡ gap w ++ (or_word ++ r)) × Fits K true r
Fits (number ∷ K) w s = (n : ℕ) × (r : List ℕ) × Label n × (s ≡ decimal n ++ r) × Fits K true r
Fits (two_digits ∷ K) w s = (v : ℕ) → 1 ≤ v → v ≤ 9 → (n : ℕ) × (r : List ℕ) × Label n × (decimal v ++ s ≡ decimal n ++ r) × Fits K true r
Fits (one_digit ∷ K) w s = (v : ℕ) → 1 ≤ v → v ≤ 99 → (n : ℕ) × (r : List ℕ) × Label n × (decimal v ++ s ≡ decimal n ++ r) × Fits K true r
Fits (axis ∷ K) w s = (a : Axis) × (r : List ℕ) × (s ≡ axis_word a ++ r) × Fits K true r
Fits (path ∷ K) w s = (p : Path) × (r : List ℕ) × Way p s r × Fits K false r
Fits (after_axis ∷ K) w s = (a : Axis) → (p : Path) × (r : List ℕ) × Way p (axis_word a ++ s) r × Fits K false r
Fits (after_step ∷ K) w s = (st : Step) → GoodS st → (p : Path) × (r : List ℕ) × Way p (ahead false (pieces_s st []) s) r × Fits K false r

-- ---- each choice, taken back

unfoldable All : (Choice → Type 0) → List Choice → Type 0
All P [] = Unit {0}
All P (c ∷ cs) = P c × All P cs

all_map : {P Q : Choice → Type 0} → ((c : Choice) → P c → Q c) → (cs : List Choice) → All P cs → All Q cs
unfolding All
all_map f [] h = tt
all_map f (c ∷ cs) h = (f c h.0, all_map f cs h.1)

-- What fits behind a choice makes the expectation fit with the choice's byte in front.
abbrev Back : (w : Bool) (e : Expected) (K : List Expected) → Choice → Type 0
Back w e K c = (s : List ℕ) → Fits (c.rest ++ K) (is_word c.first) s → Fits (e ∷ K) w (c.first ∷ s)

module _ (w : Bool) (K : List Expected) where
  pick-back : (e : Expected) (cs : List Choice) → All (Back w e K) cs → (b : ℕ) (L : List Expected) → pick cs b K ≡ some L
      → (s : List ℕ) → Fits L (is_word b) s → Fits (e ∷ K) w (b ∷ s)
  unfolding All pick
  pick-back e [] h b L q s f = let z : ◌≡◌ {A = ℕ} 0 1 = cc in absurd (omega arith)
  pick-back e (c ∷ cs) h b L q s f = go (eqb b c.first) refl q (pick-back e cs h.1 b L)
    where
      go : (t : Bool) → eqb b c.first ≡ t → cond t (some (c.rest ++ K)) (pick cs b K) ≡ some L
          → (pick cs b K ≡ some L → (s : List ℕ) → Fits L (is_word b) s → Fits (e ∷ K) w (b ∷ s)) → Fits (e ∷ K) w (b ∷ s)
      go true d q k =
          let x : b ≡ c.first = eqb-true b c.first d in
          let y : L ≡ c.rest ++ K = cc in
          rw x (h.0 s (rw (x, y) at f))
      go false d q k = k q s f

  byte-back : (c : ℕ) → All (Back w (byte c) K) (choices w (byte c))
  unfolding All choices Fits
  byte-back c = (λ s f. (s, refl, f), tt)

  letters-back : All (Back w lettered K) letters
  unfolding All Fits is_word is_digit ahead pieces_t GoodT wordy_t ascii
  letters-back = (
    λ s (a, p, (b, q, (c, r, f))). (everywhere, c, tt, (rw (p, q, r), rw (p, q, r)), f),
    (
      λ s (a, p, (b, q, (c, r, (d, x, (e, y, (n, z, l, k, f)))))). (labelled n, z, l, (rw (p, q, r, x, y, k), rw (p, q, r, x, y, k)), f),
      (λ s (a, p, (b, q, (t, r, g, k, f))). (except t, r, g, (rw (p, q, k), rw (p, q, k)), f), tt),
    ),
  )

  alternative-back : All (Back w alternative K) (choices w alternative)
  unfolding All choices Fits is_word is_digit ascii
  alternative-back = go w where
    go : (w : Bool) → All (Back w alternative K) (choices w alternative)
    go true = (λ s (a, p, (b, q, f)). (b, rw (p, q), f), tt)
    go false = (λ s (a, p, f). (a, rw p, f), tt)

  axis-back : All (Back w axis K) (axes [])
  unfolding All Fits is_word is_digit axis_word ascii
  axis-back = (
    λ s (a, p, (b, q, (c, x, (d, y, f)))). (child, d, rw (p, q, x, y), f),
    (
      λ s (a, p, (b, q, (c, x, (d, y, (e, z, f))))). (parent, e, rw (p, q, x, y, z), f),
      (
        λ s (a, p, (b, q, (c, x, (d, y, f)))). (right, d, rw (p, q, x, y), f),
        (λ s (a, p, (b, q, (c, x, f))). (left, c, rw (p, q, x), f), tt),
      ),
    ),
  )

  -- A path goes on behind a step, or ends.
  step-on : (st : Step) → GoodS st → (s : List ℕ) → Fits (path ∷ K) false s
      → (p : Path) × (r : List ℕ) × Way p (ahead false (pieces_s st []) (47 ∷ s)) r × Fits K false r
  unfolding Fits GoodT pieces_t ahead sign_byte
  step-on st g s (p, r, (h, e), f) =
      (◌then◌ st p, r, ((g, h), rw (ahead_step st false (sign slash ∷ pieces_p p (sign greater ∷ [])) r, e)), f)

  step_end : (st : Step) → GoodS st → (s : List ℕ) → Fits K false s
      → (p : Path) × (r : List ℕ) × Way p (ahead false (pieces_s st []) (62 ∷ s)) r × Fits K false r
  unfolding Fits GoodT pieces_t ahead sign_byte
  step_end st g s f = (only st, s, (g, rw (ahead_step st false (sign greater ∷ []) s)), f)

  after_step-back : All (Back w after_step K) going_on
  unfolding All Fits is_word is_digit
  after_step-back = (λ s f st g. step-on st g s f, (λ s f st g. step_end st g s f, tt))

  after_axis-back : All (Back w after_axis K) (choices w after_axis)
  unfolding All choices Fits GoodT is_word is_digit ahead pieces_t sign_byte
  after_axis-back = (λ s f a. f (along* a) tt, (λ s f a. step-on (along a) tt s f, (λ s f a. step_end (along a) tt s f, tt)))

  path-back : All (Back w path K) (choices w path)
  unfolding All choices Fits is_word is_digit ahead pieces_t sign_byte axis_word GoodT ascii
  path-back = (
    λ s (t, r, g, e, f). rw e (f (passing t) g),
    (
      λ s (a, r, e, (r1, e1, (t, r2, g, e2, (r3, e3, (r4, e4, f))))).
          let h = f (while a t) g in
          rw (e, e1, e2, e3, e4) (rw (ahead-test t false (sign closing ∷ sign star ∷ []) r4) at h),
      (
        λ s (a, p, (b, q, (c, x, (d, y, f)))). rw (p, q, x, y) (f child),
        (
          λ s (a, p, (b, q, (c, x, (d, y, (e, z, f))))). rw (p, q, x, y, z) (f parent),
          (
            λ s (a, p, (b, q, (c, x, (d, y, f)))). rw (p, q, x, y) (f right),
            (λ s (a, p, (b, q, (c, x, f))). rw (p, q, x) (f left), tt),
          ),
        ),
      ),
    ),
  )

test_back : (w : Bool) (K : List Expected) → All (Back w test K) (choices w test)
unfolding All choices Fits is_word is_digit ahead pieces_t sign_byte GoodT wordy_t
test_back w K = (
  λ s (t, r, g, e, (r1, e1, (u, r2, h, e2, (r3, e3, f)))). (
    either t u,
    r3,
    (g, h),
    rw (e, e1, e2, e3, ahead-test t false (word or_word ∷ pieces_t u (sign closing ∷ [])) r3, ahead-test u true (sign closing ∷ []) r3),
    f,
  ),
  (λ s (p, r, (g, e), f). (begins p, r, g, rw e, f), go w),
)
  where
    go : (w : Bool) → All (Back w test K) (cond w (record { first = 32; rest = lettered ∷ [] } ∷ []) letters)
    go true = (λ s (t, r, g, e, f). (t, r, g, e.1, f), tt)
    go false = all_map {P = Back false lettered K} {Q = Back false test K} (λ c h s f. let (t, r, g, e, k) = h s f in (t, r, g, e.0, k)) letters (letters-back false K)

-- ---- digits

-- A byte that passes for a digit is the digit of a number below ten.
digit-of : (b : ℕ) → is_digit b ≡ true → (d : ℕ) × (d < 10) × (b ≡ digit d)
unfolding is_digit
digit-of b e =
    let h = and-true (leb 48 b) (leb b 57) e in
    let l = leb-true 48 b h.0 in
    let m = leb-true b 57 h.1 in
    (b - 48, omega arith, omega arith)

-- One digit behind a number.
pub decimal-behind : (v d : ℕ) (s : List ℕ) → 1 ≤ v → d < 10 → decimal v ++ (digit d ∷ s) ≡ decimal (10 * v + d) ++ s
decimal-behind v d s l m =
    let q : (10 * v + d) / 10 ≡ v = omega arith in
    let r : (10 * v + d) % 10 ≡ d = omega arith in
    rw (decimal-more (10 * v + d) (omega arith), q, r, append_assoc (decimal v) (digit d ∷ []) s)

digit-behind : (b v : ℕ) (s : List ℕ) → is_digit b ≡ true → 1 ≤ v
    → (m : ℕ) × (10 * v ≤ m) × (m ≤ 10 * v + 9) × (decimal v ++ (b ∷ s) ≡ decimal m ++ s)
digit-behind b v s e l =
    let (d, i, q) = digit-of b e in
    (10 * v + d, omega arith, omega arith, ap (λ (x : ℕ). decimal v ++ (x ∷ s)) q ∙ decimal-behind v d s l i)

module _ (K : List Expected) where
  number-back : (w : Bool) (b : ℕ) (s : List ℕ) → (leb 49 b && leb b 57) ≡ true → Fits (two_digits ∷ K) (is_word b) s → Fits (number ∷ K) w (b ∷ s)
  unfolding Fits
  number-back w b s e f =
      let h = and-true (leb 49 b) (leb b 57) e in
      let l = leb-true 49 b h.0 in
      let m = leb-true b 57 h.1 in
      let (n, r, g, k, x) = f (b - 48) (omega arith) (omega arith) in
      let d : digit (b - 48) ≡ b = omega arith in
      (n, r, g, rw (decimal-one (b - 48) (omega arith), d) at k, x)

  two_back : (w : Bool) (b : ℕ) (s : List ℕ) → is_digit b ≡ true → Fits (one_digit ∷ K) (is_word b) s → Fits (two_digits ∷ K) w (b ∷ s)
  unfolding Fits
  two_back w b s e f v l m =
      let (u, x, y, q) = digit-behind b v s e l in
      let (n, r, g, k, z) = f u (omega arith) (omega arith) in
      (n, r, g, q ∙ k, z)

  one-back : (w : Bool) (b : ℕ) (s : List ℕ) → is_digit b ≡ true → Fits K true s → Fits (one_digit ∷ K) w (b ∷ s)
  unfolding Fits
  one-back w b s e f v l m = let (u, x, y, q) = digit-behind b v s e l in (u, s, (omega arith, omega arith), q, f)

-- No digit more.
over-two : (K : List Expected) (w : Bool) (s : List ℕ) → Fits K true s → Fits (two_digits ∷ K) w s
unfolding Fits
over-two K w s f v l m = (v, s, (l, omega arith), refl, f)

over-one : (K : List Expected) (w : Bool) (s : List ℕ) → Fits K true s → Fits (one_digit ∷ K) w s
unfolding Fits
over-one K w s f v l m = (v, s, (l, omega arith), refl, f)

fits-end : (w : Bool) → Fits [] w []
unfolding Fits
fits-end w = refl

digit-word : (b : ℕ) → is_digit b ≡ true → is_word b ≡ true
unfolding is_word
digit-word b e = rw e

-- ---- the machine

-- A step of the machine, taken back.
next-back : (K : List Expected) (w : Bool) (b : ℕ) (L : List Expected) → next w K b ≡ some L
    → (s : List ℕ) → Fits L (is_word b) s → Fits K w (b ∷ s)
unfolding next choices
next-back [] w b L q s f = let z : ◌≡◌ {A = ℕ} 0 1 = cc in absurd (omega arith)
next-back (byte c ∷ K) w b L q s f = pick-back w K (byte c) _ (byte-back w K c) b L q s f
next-back (test ∷ K) w b L q s f = pick-back w K test _ (test_back w K) b L q s f
next-back (lettered ∷ K) w b L q s f = pick-back w K lettered _ (letters-back w K) b L q s f
next-back (alternative ∷ K) w b L q s f = pick-back w K alternative _ (alternative-back w K) b L q s f
next-back (axis ∷ K) w b L q s f = pick-back w K axis _ (axis-back w K) b L q s f
next-back (path ∷ K) w b L q s f = pick-back w K path _ (path-back w K) b L q s f
next-back (after_axis ∷ K) w b L q s f = pick-back w K after_axis _ (after_axis-back w K) b L q s f
next-back (after_step ∷ K) w b L q s f = pick-back w K after_step _ (after_step-back w K) b L q s f
next-back (number ∷ K) w b L q s f = go (leb 49 b && leb b 57) refl q where
  go : (t : Bool) → (leb 49 b && leb b 57) ≡ t → cond t (some (two_digits ∷ K)) none ≡ some L → Fits (number ∷ K) w (b ∷ s)
  go true e q = let y : L ≡ two_digits ∷ K = cc in number-back K w b s e (rw y at f)
  go false e q = let z : ◌≡◌ {A = ℕ} 0 1 = cc in absurd (omega arith)
next-back (two_digits ∷ K) w b L q s f = go (is_digit b) refl q (next-back K true b L) where
  go : (t : Bool) → is_digit b ≡ t → cond t (some (one_digit ∷ K)) (next true K b) ≡ some L
      → (next true K b ≡ some L → (s : List ℕ) → Fits L (is_word b) s → Fits K true (b ∷ s)) → Fits (two_digits ∷ K) w (b ∷ s)
  go true e q k = let y : L ≡ one_digit ∷ K = cc in two_back K w b s e (rw y at f)
  go false e q k = over-two K w (b ∷ s) (k q s f)
next-back (one_digit ∷ K) w b L q s f = go (is_digit b) refl q (next-back K true b L) where
  go : (t : Bool) → is_digit b ≡ t → cond t (some K) (next true K b) ≡ some L
      → (next true K b ≡ some L → (s : List ℕ) → Fits L (is_word b) s → Fits K true (b ∷ s)) → Fits (one_digit ∷ K) w (b ∷ s)
  go true e q k = let y : L ≡ K = cc in one-back K w b s e (rw (y, digit-word b e) at f)
  go false e q k = over-one K w (b ∷ s) (k q s f)

-- Where nothing more has to come, nothing fits.
ended-fits : (K : List Expected) (w : Bool) → ended K ≡ true → Fits K w []
unfolding ended
ended-fits [] w e = fits-end w
ended-fits (two_digits ∷ K) w e = over-two K w [] (ended-fits K true e)
ended-fits (one_digit ∷ K) w e = over-one K w [] (ended-fits K true e)
ended-fits (number ∷ K) w e = let z : ◌≡◌ {A = ℕ} 0 1 = cc in absurd (omega arith)
ended-fits (byte c ∷ K) w e = let z : ◌≡◌ {A = ℕ} 0 1 = cc in absurd (omega arith)
ended-fits (test ∷ K) w e = let z : ◌≡◌ {A = ℕ} 0 1 = cc in absurd (omega arith)
ended-fits (lettered ∷ K) w e = let z : ◌≡◌ {A = ℕ} 0 1 = cc in absurd (omega arith)
ended-fits (alternative ∷ K) w e = let z : ◌≡◌ {A = ℕ} 0 1 = cc in absurd (omega arith)
ended-fits (path ∷ K) w e = let z : ◌≡◌ {A = ℕ} 0 1 = cc in absurd (omega arith)
ended-fits (axis ∷ K) w e = let z : ◌≡◌ {A = ℕ} 0 1 = cc in absurd (omega arith)
ended-fits (after_axis ∷ K) w e = let z : ◌≡◌ {A = ℕ} 0 1 = cc in absurd (omega arith)
ended-fits (after_step ∷ K) w e = let z : ◌≡◌ {A = ℕ} 0 1 = cc in absurd (omega arith)

-- What is read whole fits.
run_fits : (s : List ℕ) (w : Bool) (K : List Expected) → run w K s ≡ whole → Fits K w s
unfolding run
run_fits [] w K e = go (ended K) refl e where
  go : (t : Bool) → ended K ≡ t → cond t whole (stopped []) ≡ whole → Fits K w []
  go true d e = ended-fits K w d
  go false d e = let z : ◌≡◌ {A = ℕ} 0 1 = cc in absurd (omega arith)
run_fits (b ∷ s) w K e = go (next w K b) refl e (λ L. run_fits s (is_word b) L) where
  go : (o : Option (List Expected)) → next w K b ≡ o → onward o (b ∷ s) (λ L. run (is_word b) L s) ≡ whole
      → ((L : List Expected) → run (is_word b) L s ≡ whole → Fits L (is_word b) s) → Fits K w (b ∷ s)
  go none d e k = let z : ◌≡◌ {A = ℕ} 0 1 = cc in absurd (omega arith)
  go (some L) d e k = next-back K w b L d s (k L e)

-- A byte string that is read whole is a text.
pub whole-text : (s : List ℕ) → run false (test ∷ []) s ≡ whole → Text s
unfolding Fits text_of
whole-text s e =
    let (t, r, g, q, z) = run_fits s false (test ∷ []) e in (t, g, q ∙ rw (z, spell-ahead false (pieces_t t [])))
