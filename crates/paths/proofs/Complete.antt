-- The machine reads every text whole: a tree's text is read as its expectation, and what follows it as what was expected below.
-- Assumes nothing.
use Prim.Native.Nat.{ℕ, ◌+◌, ◌/◌, ◌%◌, ◌≤◌, ◌<◌}
use native.Mathlib.Decide.{dec_lt}
use native.Mathlib.Omega.{arith}
use mathlib.Core.Path.{◌≡◌, refl, ◌∙◌}
use mathlib.Core.Bool.{Bool, true, false}
use mathlib.Core.List.{List, [], ◌∷◌, ◌++◌}
use borrow.Author.Tests.{le-leb}
use Rattle.text.specs.Text.{ascii}
use Rattle.text.specs.Decimal.{digit, decimal}
use Rattle.text.proofs.DecimalLaws.{decimal-one, decimal-more}
use Rattle.terms.specs.declared.kind.Axis.{Axis}
use Rattle.terms.specs.declared.kind.Axis.TheVariants.{Child as child, Parent as parent, Next as right, Previous as left}
use Rattle.paths.specs.Syntax.{Test, everywhere, labelled, except, either, begins, Path, only, ◌then◌, Step, along, along*, passing, while, GoodT, GoodP, GoodS}
use Rattle.paths.specs.Spelling.{Sign, opening, closing, less, greater, slash, question, star, Piece, word, sign, axis_word, true_word, label_word, not_word, or_word, pieces_t, pieces_p, pieces_s, sign_byte, gap, text_of}
use Rattle.paths.proofs.Ahead.{wordy_t, wordy_s, ahead, spell-ahead}
use Rattle.paths.proofs.Machine.{Expected, byte, test, alternative, number, two_digits, one_digit, path, axis, after_axis, after_step, is_digit, is_word, choices, pick, next, ended, whole, run}
use Rattle.terms.specs.Limits.{label_most}

-- The bytes begin with no digit.
unfoldable pub NoDigit : List ℕ → Type 0
NoDigit [] = Unit {0}
NoDigit (b ∷ s) = is_digit b ≡ false

-- A sign is no digit.
sign-no-digit : (c : Sign) → is_digit (sign_byte c) ≡ false
unfolding is_digit sign_byte
sign-no-digit opening = refl
sign-no-digit closing = refl
sign-no-digit less = refl
sign-no-digit greater = refl
sign-no-digit slash = refl
sign-no-digit question = refl
sign-no-digit star = refl

module _ (K : List Expected) where
  -- ---- numbers

  -- No digit more has to come.
  pub one-over : (s : List ℕ) → NoDigit s → run true (one_digit ∷ K) s ≡ run true K s
  unfolding NoDigit run next ended
  one-over [] h = refl
  one-over (b ∷ s) h = rw h

  pub two-over : (s : List ℕ) → NoDigit s → run true (two_digits ∷ K) s ≡ run true K s
  unfolding NoDigit run next ended
  two-over [] h = refl
  two-over (b ∷ s) h = rw h

  -- A digit, as the machine sees it.
  digit-is : (d : ℕ) → d < 10 → is_digit (digit d) ≡ true
  unfolding is_digit
  digit-is d l = rw (le-leb 48 (48 + d) (omega arith), le-leb (48 + d) 57 (omega arith))

  digit-word : (d : ℕ) → d < 10 → is_word (digit d) ≡ true
  unfolding is_word
  digit-word d l = rw (digit-is d l)

  pub first-digit : (d : ℕ) (s : List ℕ) → 1 ≤ d → d < 10 → run false (number ∷ K) (digit d ∷ s) ≡ run true (two_digits ∷ K) s
  unfolding run next
  first-digit d s m l = rw (le-leb 49 (48 + d) (omega arith), le-leb (48 + d) 57 (omega arith), digit-word d l)

  pub second-digit : (d : ℕ) (s : List ℕ) → d < 10 → run true (two_digits ∷ K) (digit d ∷ s) ≡ run true (one_digit ∷ K) s
  unfolding run next
  second-digit d s l = rw (digit-is d l, digit-word d l)

  pub third-digit : (d : ℕ) (s : List ℕ) → d < 10 → run true (one_digit ∷ K) (digit d ∷ s) ≡ run true K s
  unfolding run next
  third-digit d s l = rw (digit-is d l, digit-word d l)

  -- A number in 1..999 in front of what is no digit.
  run-number : (n : ℕ) (s : List ℕ) → NoDigit s → 1 ≤ n → n ≤ label_most → run false (number ∷ K) (decimal n ++ s) ≡ run true K s
  run-number n s h m l =
      elim (dec_lt n 10) [
        | yes a ↦ rw (decimal-one n a) (first-digit n s m a ∙ two-over s h)
        | no a ↦ elim (dec_lt n 100) [
          | yes b ↦
              rw (decimal-more n (omega arith), decimal-one (n / 10) (omega arith))
              (first-digit (n / 10) _ (omega arith) (omega arith) ∙ second-digit (n % 10) _ (omega arith) ∙ one-over s h)
          | no b ↦
              rw (decimal-more n (omega arith), decimal-more (n / 10) (omega arith), decimal-one (n / 10 / 10) (omega arith))
              (first-digit (n / 10 / 10) _ (omega arith) (omega arith)
              ∙ second-digit (n / 10 % 10) _ (omega arith) ∙ third-digit (n % 10) _ (omega arith))
        ]
      ]

  -- ---- words

  pub run-or : (w : Bool) (s : List ℕ) → run w (alternative ∷ K) (gap w ++ (or_word ++ s)) ≡ run true K s
  unfolding run next pick choices is_word is_digit ascii
  run-or true s = refl
  run-or false s = refl

  run-true : (w : Bool) (s : List ℕ) → run w (test ∷ K) (gap w ++ (true_word ++ s)) ≡ run true K s
  unfolding run next pick choices is_word is_digit ascii
  run-true true s = refl
  run-true false s = refl

  run-label : (w : Bool) (s : List ℕ) → run w (test ∷ K) (gap w ++ (label_word ++ (32 ∷ s))) ≡ run false (number ∷ K) s
  unfolding run next pick choices is_word is_digit ascii
  run-label true s = refl
  run-label false s = refl

  run-not : (w : Bool) (s : List ℕ) → run w (test ∷ K) (gap w ++ (not_word ++ s)) ≡ run true (test ∷ K) s
  unfolding run next pick choices is_word is_digit ascii
  run-not true s = refl
  run-not false s = refl

  pub run-axis : (a : Axis) (s : List ℕ) → run false (axis ∷ K) (axis_word a ++ s) ≡ run true K s
  unfolding run next pick choices is_word is_digit axis_word ascii
  run-axis child s = refl
  run-axis parent s = refl
  run-axis right s = refl
  run-axis left s = refl

  run_along : (a : Axis) (s : List ℕ) → run false (path ∷ K) (axis_word a ++ s) ≡ run true (after_axis ∷ K) s
  unfolding run next pick choices is_word is_digit axis_word ascii
  run_along child s = refl
  run_along parent s = refl
  run_along right s = refl
  run_along left s = refl

  -- What follows an axis follows a step, unless it is `*`.
  run-after : (c : Sign) (s : List ℕ) → (c ≡ star → ⊥) → run true (after_axis ∷ K) (sign_byte c ∷ s) ≡ run true (after_step ∷ K) (sign_byte c ∷ s)
  unfolding run next pick choices sign_byte
  run-after opening s n = refl
  run-after closing s n = refl
  run-after less s n = refl
  run-after greater s n = refl
  run-after slash s n = refl
  run-after question s n = refl
  run-after star s n = absurd (n refl)

-- ---- trees

mutual
  unfolding pieces_t wordy_t ahead GoodT NoDigit run next pick choices is_word is_digit sign_byte

  -- A test in front of pieces and bytes, where no digit follows a number.
  run-test : (t : Test) (w : Bool) (K : List Expected) (ps : List Piece) (r : List ℕ) → GoodT t → NoDigit (ahead true ps r)
      → run w (test ∷ K) (ahead w (pieces_t t ps) r) ≡ run (wordy_t t) K (ahead (wordy_t t) ps r)
  run-test everywhere w K ps r g h = run-true K w (ahead true ps r)
  run-test (labelled n) w K ps r g h = run-label K w (decimal n ++ ahead true ps r) ∙ run-number K n (ahead true ps r) h g.0 g.1
  run-test (except t) w K ps r g h = run-not K w (ahead true (pieces_t t ps) r) ∙ run-test t true K ps r g h
  run-test (either t u) w K ps r g h =
      run-test t false (alternative ∷ test ∷ byte 41 ∷ K) (word or_word ∷ pieces_t u (sign closing ∷ ps)) r g.0 refl
      ∙ run-or (test ∷ byte 41 ∷ K) (wordy_t t) (ahead true (pieces_t u (sign closing ∷ ps)) r)
      ∙ run-test u true (byte 41 ∷ K) (sign closing ∷ ps) r g.1 refl
  run-test (begins p) w K ps r g h = run-path p K ps r g

  run-path : (p : Path) (K : List Expected) (ps : List Piece) (r : List ℕ) → GoodP p
      → run false (path ∷ K) (ahead false (pieces_p p (sign greater ∷ ps)) r) ≡ run false K (ahead false ps r)
  run-path (only st) K ps r g = run_step st K greater ps r (λ e. let z : ◌≡◌ {A = ℕ} 0 1 = cc in omega arith) g
  run-path (◌then◌ st p) K ps r g =
      run_step st K slash (pieces_p p (sign greater ∷ ps)) r (λ e. let z : ◌≡◌ {A = ℕ} 0 1 = cc in omega arith) g.0
      ∙ run-path p K ps r g.1

  run_step : (st : Step) (K : List Expected) (c : Sign) (ps : List Piece) (r : List ℕ) → (c ≡ star → ⊥) → GoodS st
      → run false (path ∷ K) (ahead false (pieces_s st (sign c ∷ ps)) r) ≡ run (wordy_s st) (after_step ∷ K) (sign_byte c ∷ ahead false ps r)
  run_step (along a) K c ps r n g = run_along K a _ ∙ run-after K c (ahead false ps r) n
  run_step (along* a) K c ps r n g = run_along K a _
  run_step (passing t) K c ps r n g = run-test t false (after_step ∷ K) (sign c ∷ ps) r g (sign-no-digit c)
  run_step (while a t) K c ps r n g =
      run-axis (byte 63 ∷ test ∷ byte 41 ∷ byte 42 ∷ after_step ∷ K) a _
      ∙ run-test t false (byte 41 ∷ byte 42 ∷ after_step ∷ K) (sign closing ∷ sign star ∷ sign c ∷ ps) r g refl

-- Every text is read whole.
pub text-whole : (t : Test) → GoodT t → run false (test ∷ []) (text_of t) ≡ whole
unfolding text_of ahead NoDigit run ended
text-whole t g = rw (spell-ahead false (pieces_t t [])) (run-test t false [] [] [] g tt)
