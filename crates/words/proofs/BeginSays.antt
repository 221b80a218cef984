-- What an answer says of reading, of `or`, of what a test begins with and of what a step begins with, where the cursor is not past the
-- end: what was read, over every stack of expectations below; or where reading stops. Assumes nothing.
use mir.Val.{bool_byte}
use Prim.Native.Nat.{ℕ, zero, suc, ◌+◌, ◌≤◌}
use native.Mathlib.Omega.{arith}
use mathlib.Core.Path.{◌≡◌, refl, ap, ◌∙◌}
use mathlib.Core.Bool.{Bool, true, false, cond}
use mathlib.Core.List.{List, [], ◌∷◌, ◌++◌}
use borrow.Author.Tests.{ne_eqb, eqb-true, eqb-false}
use lib.Dec.{eqb}
use lib.ListN.{length, drop}
use Rattle.text.specs.Text.{ascii}
use Rattle.text.specs.Decimal.{decimal}
use Rattle.terms.specs.declared.kind.Axis.{Axis}
use Rattle.terms.specs.declared.kind.Axis.TheVariants.{Child as child, Parent as parent, Next as right, Previous as left}
use Rattle.paths.specs.Syntax.{GoodT}
use Rattle.paths.specs.Spelling.{axis_word, true_word, not_word, or_word, gap, pieces_t, sign_byte}
use Rattle.paths.specs.Translation.{neighbour_kind, until_kind}
use Rattle.paths.proofs.Machine.{Expected, byte, test, lettered, alternative, number, path, axis, after_axis, after_step, run, next, choices, pick, ended, is_word, is_digit, stopped}
use Rattle.paths.proofs.Ahead.{ahead}
use Rattle.paths.proofs.Complete.{run-axis}
use Rattle.paths.proofs.Descent.{Reads, Stops, spelt, test-space, step-while}
use Rattle.std.specs.Prelude.{Option, Result, Ok, Err}
use Rattle.words.specs.declared.words.Stray.{Stray}
use Rattle.words.specs.declared.words.Number.{Number}
use Rattle.words.specs.declared.begins.Named.{Named}
use Rattle.words.specs.declared.begins.Begin.{Begin}
use Rattle.words.specs.declared.begins.Begin.TheVariants as B
use Rattle.words.specs.declared.begins.Start.{Start}
use Rattle.words.specs.declared.begins.Start.TheVariants as S
use Rattle.words.specs.Words.{head_of, stray, fixed_at, digits_of, number_at}
use Rattle.words.specs.Begins.{leaf_tree, true_of, leaf_of, label_of, not_of, letters_at, begin_at, named_of, named_at, axis_at, step_of, step_at, start_at}
use Rattle.words.proofs.Reading.{WordAt, OrAt, NumberAt, Lettered, LettersAt, BeginsAt, AxisAt, StartAt}
use Rattle.words.proofs.WordLaws.{by-test, front, word-law, word-says, number-law}
use Rattle.terms.specs.Limits.{label_most}

-- ---- what an answer says of reading: `or`

or-words : (w : Bool) (K : List Expected) (s : List ℕ) → run w (alternative ∷ K) s ≡ run w (spelt (gap w ++ or_word) K) s
unfolding run next choices pick ended spelt ascii
or-words true K [] = refl
or-words true K (b ∷ s) = refl
or-words false K [] = refl
or-words false K (b ∷ s) = refl

or-law : (w : Bool) (s : List ℕ) (at : ℕ) (r : Result ℕ Stray) → WordAt (gap w ++ or_word) s at r → OrAt w s at r
unfolding ascii
or-law true s at (Ok e) (a, b, q) = (omega arith, b, q)
or-law false s at (Ok e) (a, b, q) = (omega arith, b, q)
or-law w s at (Err p) (b, k) = (b, λ K. or-words w K (drop at s) ∙ k w K)

pub or-says : (w : Bool) (s : List ℕ) (at : ℕ) {r q : Result ℕ Stray} → at ≤ length s → r ≡ fixed_at (gap w ++ or_word) s at → r ≡ q → OrAt w s at q
or-says w s at {q = q} m e h = or-law w s at q (word-says _ s at m e h)

-- ---- a test that begins with a letter

-- The word that the first letter asks for, and what is expected behind it.
letters-ask : (l : List ℕ) (K : List Expected)
    → (run false (lettered ∷ K) (116 ∷ l) ≡ run false (spelt true_word K) (116 ∷ l))
    × (run false (lettered ∷ K) (110 ∷ l) ≡ run false (spelt not_word (test ∷ K)) (110 ∷ l))
    × (run false (lettered ∷ K) (108 ∷ l) ≡ run false (spelt (ascii "label ") (number ∷ K)) (108 ∷ l))
unfolding run next choices pick is_word is_digit spelt ascii
letters-ask l K = (refl, refl, refl)

module _ (s : List ℕ) (at : ℕ) where
  -- A word that is looked for is there, or it is missing.
  by_word : at ≤ length s → {A : Type 0} (P : A → Type 0) (x : List ℕ) (f : Result ℕ Stray → A) → ((e : ℕ) → WordAt x s at (Ok e) → P (f (Ok e)))
      → ((p : Stray) → WordAt x s at (Err p) → P (f (Err p))) → P (f (fixed_at x s at))
  by_word m P x f there missing = go (fixed_at x s at) (word-law x s at m) where
    go : (r : Result ℕ Stray) → WordAt x s at r → P (f r)
    go (Ok e) w = there e w
    go (Err p) w = missing p w

  -- A test stops where the word stops that its first letter asks for, whatever is expected behind the word.
  letters-missing : (x : List ℕ) (b : ℕ) (behind : List Expected → List Expected)
      → ((l : List ℕ) (K : List Expected) → run false (lettered ∷ K) (b ∷ l) ≡ run false (spelt x (behind K)) (b ∷ l))
      → head_of (drop at s) ≡ b → 1 ≤ b → (p : Stray) → WordAt x s at (Err p) → LettersAt s at (Err p)
  letters-missing x b behind asks h some p (m, k) = (m, λ K. go (drop (at + 1) s) K (front s at b h some).1 ∙ k false (behind K)) where
    go : (l : List ℕ) (K : List Expected) → drop at s ≡ b ∷ l → run false (lettered ∷ K) (drop at s) ≡ run false (spelt x (behind K)) (drop at s)
    go l K q = rw q (asks l K)

  true-leaf : (r : List ℕ) → Lettered (116 ∷ 114 ∷ 117 ∷ 101 ∷ r) r 0
  unfolding run next choices pick is_word is_digit ascii ahead pieces_t GoodT leaf_tree
  true-leaf r = record { goes = λ K. refl; good = tt; is = λ w. refl }

  true-there : (e : ℕ) → WordAt (ascii "true") s at (Ok e) → LettersAt s at (Ok (B.Leaf e 0))
  unfolding ascii
  true-there e (a, b, q) = (omega arith, b, rw q (true-leaf (drop e s)))

  not_there : (e : ℕ) → WordAt (ascii "not") s at (Ok e) → LettersAt s at (Ok (B.Not e))
  unfolding ascii run next choices pick is_word is_digit
  not_there e (a, b, q) = (omega arith, b, q, λ K. rw q (go (drop e s) K)) where
    go : (r : List ℕ) (K : List Expected) → run false (lettered ∷ K) (110 ∷ 111 ∷ 116 ∷ r) ≡ run true (test ∷ K) r
    go r K = refl

  label-goes : (r : List ℕ) (K : List Expected) → run false (lettered ∷ K) (ascii "label " ++ r) ≡ run false (number ∷ K) r
  unfolding run next choices pick is_word is_digit ascii
  label-goes r K = refl

  label-leaf : (n : ℕ) (r t : List ℕ) → 1 ≤ n → n ≤ label_most → Reads false number r true t → r ≡ decimal n ++ t → Lettered (ascii "label " ++ r) t n
  unfolding ascii ahead pieces_t GoodT leaf_tree
  label-leaf zero r t l m k q = absurd (omega arith)
  label-leaf (suc n) r t l m k q = record { goes = λ K. label-goes r K ∙ k K; good = (l, m); is = λ w. rw q }

  label-none : (e k v : ℕ) → WordAt (ascii "label ") s at (Ok e) → k ≡ 0 → NumberAt s e k v → LettersAt s at (stray e)
  label-none e zero v (a, b, q) f n = (b, λ K. rw q (label-goes (drop e s) K) ∙ n K)
  label-none e (suc k) v w f n = absurd (omega arith)

  label-there : (e k v : ℕ) → WordAt (ascii "label ") s at (Ok e) → (k ≡ 0 → ⊥) → NumberAt s e k v → LettersAt s at (Ok (B.Leaf (e + k) v))
  label-there e zero v w f n = absurd (f refl)
  label-there e (suc k) v (a, b, q) f (l, g, i, j, d) =
      (omega arith, l, rw q (label-leaf v (drop e s) (drop (e + suc k) s) i j g d))

  letters-none : at ≤ length s → (head_of (drop at s) ≡ 116 → ⊥) → (head_of (drop at s) ≡ 108 → ⊥) → (head_of (drop at s) ≡ 110 → ⊥) → LettersAt s at (stray at)
  unfolding head_of run next choices pick ended
  letters-none m h1 h2 h3 = (m, go (drop at s) h1 h2 h3) where
    go : (l : List ℕ) → (head_of l ≡ 116 → ⊥) → (head_of l ≡ 108 → ⊥) → (head_of l ≡ 110 → ⊥) → Stops false lettered l l
    go [] h1 h2 h3 K = refl
    go (b ∷ l) h1 h2 h3 K = rw (ne_eqb b 116 h1, ne_eqb b 108 h2, ne_eqb b 110 h3)

  module _ (m : at ≤ length s) where
    true-law : head_of (drop at s) ≡ 116 → LettersAt s at (true_of (fixed_at true_word s at))
    true-law h =
        by_word m (LettersAt s at) true_word true_of true-there (letters-missing true_word 116 (λ K. K) (λ l K. (letters-ask l K).0) h (omega arith))

    not-law : head_of (drop at s) ≡ 110 → LettersAt s at (not_of (fixed_at not_word s at))
    not-law h =
        by_word m (LettersAt s at) not_word not_of not_there (letters-missing not_word 110 (λ K. test ∷ K) (λ l K. (letters-ask l K).1) h (omega arith))

    label-law : head_of (drop at s) ≡ 108 → LettersAt s at (label_of s (fixed_at (ascii "label ") s at))
    unfolding number_at
    label-law h =
        by_word m (LettersAt s at) (ascii "label ") (label_of s) there
        (letters-missing (ascii "label ") 108 (λ K. number ∷ K) (λ l K. (letters-ask l K).2) h (omega arith)) where
          there : (e : ℕ) → WordAt (ascii "label ") s at (Ok e) → LettersAt s at (label_of s (Ok e))
          there e x =
              let n = digits_of (drop e s) in
              by-test (λ (o : Option Number). LettersAt s at (leaf_of e o)) (eqb n 0) (λ t. label-none e n _ x (eqb-true n 0 t) (number-law s e))
              (λ t. label-there e n _ x (eqb-false n 0 t) (number-law s e))

    letters-law : LettersAt s at (letters_at s at)
    unfolding letters_at
    letters-law =
        let b = head_of (drop at s) in
        by-test (LettersAt s at) (eqb b 116) (λ t. true-law (eqb-true b 116 t))
        (λ f1. by-test (LettersAt s at) (eqb b 108) (λ t. label-law (eqb-true b 108 t))
        (λ f2. by-test (LettersAt s at) (eqb b 110) (λ t. not-law (eqb-true b 110 t))
        (λ f3. letters-none m (eqb-false b 116 f1) (eqb-false b 108 f2) (eqb-false b 110 f3))))

-- ---- a test

test-lettered : (l : List ℕ) (K : List Expected) → (head_of l ≡ 40 → ⊥) → (head_of l ≡ 60 → ⊥) → run false (test ∷ K) l ≡ run false (lettered ∷ K) l
unfolding head_of run next choices pick ended
test-lettered [] K h1 h2 = refl
test-lettered (b ∷ l) K h1 h2 = rw (ne_eqb b 40 h1, ne_eqb b 60 h2)

module _ (s : List ℕ) (at : ℕ) where
  begins-plain : (r : Result Begin Stray) → (head_of (drop at s) ≡ 40 → ⊥) → (head_of (drop at s) ≡ 60 → ⊥) → LettersAt s at r → BeginsAt false s at r
  begins-plain (Ok (B.Leaf e n)) h1 h2 (l, m, t) =
      record { on = l; within = m; goes = λ K. test-lettered (drop at s) K h1 h2 ∙ t.goes K; good = t.good; reads = t.is false }
  begins-plain (Ok (B.Not e)) h1 h2 (l, m, q, k) = (l, m, q, λ K. test-lettered (drop at s) K h1 h2 ∙ k K)
  begins-plain (Ok B.Either) h1 h2 x = absurd x
  begins-plain (Ok B.Path) h1 h2 x = absurd x
  begins-plain (Err p) h1 h2 (m, k) = (m, λ K. test-lettered (drop at s) K h1 h2 ∙ k K)

  spaced : head_of (drop at s) ≡ 32 → (K : List Expected) → run true (test ∷ K) (drop at s) ≡ run false (lettered ∷ K) (drop (at + 1) s)
  spaced h K = let q = (front s at 32 h (omega arith)).1 in rw q (test-space true K (drop (at + 1) s))

  begins-spaced : (r : Result Begin Stray) → head_of (drop at s) ≡ 32 → LettersAt s (at + 1) r → BeginsAt true s at r
  begins-spaced (Ok (B.Leaf e n)) h (l, m, t) =
      record {
        on = omega arith;
        within = m;
        goes = λ K. spaced h K ∙ t.goes K;
        good = t.good;
        reads = (front s at 32 h (omega arith)).1 ∙ t.is true;
      }
  begins-spaced (Ok (B.Not e)) h (l, m, q, k) =
      (omega arith, m, ((front s at 32 h (omega arith)).1 ∙ ap (◌∷◌ 32) q), λ K. spaced h K ∙ k K)
  begins-spaced (Ok B.Either) h x = absurd x
  begins-spaced (Ok B.Path) h x = absurd x
  begins-spaced (Err p) h (m, k) = (m, λ K. spaced h K ∙ k K)

  begins-none : at ≤ length s → (head_of (drop at s) ≡ 40 → ⊥) → (head_of (drop at s) ≡ 60 → ⊥) → (head_of (drop at s) ≡ 32 → ⊥) → BeginsAt true s at (stray at)
  unfolding head_of run next choices pick ended
  begins-none m h1 h2 h3 = (m, go (drop at s) h1 h2 h3) where
    go : (l : List ℕ) → (head_of l ≡ 40 → ⊥) → (head_of l ≡ 60 → ⊥) → (head_of l ≡ 32 → ⊥) → Stops true test l l
    go [] h1 h2 h3 K = refl
    go (b ∷ l) h1 h2 h3 K = rw (ne_eqb b 40 h1, ne_eqb b 60 h2, ne_eqb b 32 h3)

module _ (s : List ℕ) (at : ℕ) (m : at ≤ length s) where
  begin-law : (w : Bool) → BeginsAt w s at (begin_at w s at)
  unfolding begin_at
  begin-law w =
      let b = head_of (drop at s) in
      by-test (BeginsAt w s at) (eqb b 40) (λ t. eqb-true b 40 t)
      (λ f1. by-test (BeginsAt w s at) (eqb b 60) (λ t. eqb-true b 60 t) (λ f2. go w (eqb-false b 40 f1) (eqb-false b 60 f2))) where
        go : (w : Bool) → (head_of (drop at s) ≡ 40 → ⊥) → (head_of (drop at s) ≡ 60 → ⊥)
            → BeginsAt w s at (cond w (cond (eqb (head_of (drop at s)) 32) (letters_at s (at + 1)) (stray at)) (letters_at s at))
        go false h1 h2 = begins-plain s at (letters_at s at) h1 h2 (letters-law s at m)
        go true h1 h2 =
            let b = head_of (drop at s) in
            by-test (BeginsAt true s at) (eqb b 32)
            (λ t. let h = eqb-true b 32 t in begins-spaced s at (letters_at s (at + 1)) h (letters-law s (at + 1) (omega (arith, (front s at 32 h (omega arith)).0))))
            (λ f. begins-none s at m h1 h2 (eqb-false b 32 f))

-- What a test begins with.
pub begins-says : (w : Bool) (s : List ℕ) (at : ℕ) {r q : Result Begin Stray} → at ≤ length s → r ≡ begin_at w s at → r ≡ q → BeginsAt w s at q
begins-says w s at m e h = rw (← h, e) (begin-law s at m w)

-- ---- axes

axis-stops : (a : Axis) (l : List ℕ) (K : List Expected) → head_of l ≡ head_of (axis_word a) → run false (axis ∷ K) l ≡ run false (spelt (axis_word a) K) l
unfolding head_of axis_word ascii run next choices pick ended spelt is_word is_digit
axis-stops child [] K h = refl
axis-stops parent [] K h = refl
axis-stops right [] K h = refl
axis-stops left [] K h = refl
axis-stops child (b ∷ l) K h = rw h
axis-stops parent (b ∷ l) K h = rw h
axis-stops right (b ∷ l) K h = rw h
axis-stops left (b ∷ l) K h = rw h

-- The first letter of each axis.
abbrev letter_of : Axis → ℕ
letter_of child = 99
letter_of parent = 112
letter_of right = 114
letter_of left = 108

first_of : (a : Axis) → letter_of a ≡ head_of (axis_word a)
unfolding head_of axis_word ascii
first_of child = refl
first_of parent = refl
first_of right = refl
first_of left = refl

axis-long : (a : Axis) → 4 ≤ length (axis_word a)
unfolding axis_word ascii
axis-long child = omega arith
axis-long parent = omega arith
axis-long right = omega arith
axis-long left = omega arith

module _ (s : List ℕ) (at : ℕ) where
  axis-word : at ≤ length s → (a : Axis) → head_of (drop at s) ≡ head_of (axis_word a) → AxisAt s at (named_at a s at)
  axis-word m a h =
      by_word s at m (AxisAt s at) (axis_word a) (named_of (neighbour_kind a)) (λ e (f, l, q). (omega (arith, axis-long a), l, (a, refl, q)))
      (λ p (l, k). (l, λ K. axis-stops a (drop at s) K h ∙ k false K))

  axis-none : at ≤ length s → (head_of (drop at s) ≡ 99 → ⊥) → (head_of (drop at s) ≡ 112 → ⊥) → (head_of (drop at s) ≡ 114 → ⊥) → (head_of (drop at s) ≡ 108 → ⊥) → AxisAt s at (stray at)
  unfolding head_of run next choices pick ended
  axis-none m h1 h2 h3 h4 = (m, go (drop at s) h1 h2 h3 h4) where
    go : (l : List ℕ) → (head_of l ≡ 99 → ⊥) → (head_of l ≡ 112 → ⊥) → (head_of l ≡ 114 → ⊥) → (head_of l ≡ 108 → ⊥) → Stops false axis l l
    go [] h1 h2 h3 h4 K = refl
    go (b ∷ l) h1 h2 h3 h4 K = rw (ne_eqb b 99 h1, ne_eqb b 112 h2, ne_eqb b 114 h3, ne_eqb b 108 h4)

  axis-law : at ≤ length s → AxisAt s at (axis_at s at)
  unfolding axis_at
  axis-law m =
      let b = head_of (drop at s) in
      by-test (AxisAt s at) (eqb b 99) (λ t. of child t)
      (λ f1. by-test (AxisAt s at) (eqb b 112) (λ t. of parent t)
      (λ f2. by-test (AxisAt s at) (eqb b 114) (λ t. of right t)
      (λ f3. by-test (AxisAt s at) (eqb b 108) (λ t. of left t)
      (λ f4. axis-none m (eqb-false b 99 f1) (eqb-false b 112 f2) (eqb-false b 114 f3) (eqb-false b 108 f4))))) where
        of : (a : Axis) → eqb (head_of (drop at s)) (letter_of a) ≡ true → AxisAt s at (named_at a s at)
        of a t = axis-word m a (eqb-true (head_of (drop at s)) (letter_of a) t ∙ first_of a)

-- ---- steps

path-axis : (l : List ℕ) (K : List Expected) → (head_of l ≡ 63 → ⊥) → (head_of l ≡ 40 → ⊥) → run false (path ∷ K) l ≡ run false (axis ∷ after_axis ∷ K) l
unfolding head_of run next choices pick ended
path-axis [] K h1 h2 = refl
path-axis (b ∷ l) K h1 h2 = rw (ne_eqb b 63 h1, ne_eqb b 40 h2)

after-axis : (l : List ℕ) (K : List Expected) → (head_of l ≡ 42 → ⊥) → run true (after_axis ∷ K) l ≡ run true (after_step ∷ K) l
unfolding head_of run next choices pick ended
after-axis [] K h = refl
after-axis (b ∷ l) K h = rw (ne_eqb b 42 h)

after-star : (l : List ℕ) (K : List Expected) → run true (after_axis ∷ K) (42 ∷ l) ≡ run false (after_step ∷ K) l
unfolding run next choices pick is_word is_digit
after-star l K = refl

until-form : (a : Axis) → neighbour_kind a + 4 ≡ until_kind a
unfolding neighbour_kind until_kind
until-form child = refl
until-form parent = refl
until-form right = refl
until-form left = refl

module _ (s : List ℕ) (at : ℕ) (h1 : head_of (drop at s) ≡ 63 → ⊥) (h2 : head_of (drop at s) ≡ 40 → ⊥) where
  plain-missing : (p : Stray) → AxisAt s at (Err p) → StartAt s at (Err p)
  plain-missing p (m, k) = (m, λ K. path-axis (drop at s) K h1 h2 ∙ k (after_axis ∷ K))

  goes-along : (a : Axis) (e : ℕ) → drop at s ≡ axis_word a ++ drop e s → (K : List Expected) → run false (path ∷ K) (drop at s) ≡ run true (after_axis ∷ K) (drop e s)
  goes-along a e q K = path-axis (drop at s) K h1 h2 ∙ rw q (run-axis (after_axis ∷ K) a (drop e s))

  plain-star : (n : Named) → AxisAt s at (Ok n) → head_of (drop n.end s) ≡ 42 → StartAt s at (Ok (S.Plain (n.end + 1) false (n.kind + 4)))
  unfolding ahead pieces_t sign_byte
  plain-star n (l, m, (a, i, q)) h =
      let (j, r) = front s n.end 42 h (omega arith) in (
        omega arith,
        omega arith,
        λ K. goes-along a n.end q K ∙ rw r (after-star (drop (n.end + 1) s) K),
        record { named = a; reads = q ∙ rw r; is_form = rw i (until-form a) },
      )

  plain-there : (n : Named) → AxisAt s at (Ok n) → (head_of (drop n.end s) ≡ 42 → ⊥) → StartAt s at (Ok (S.Plain n.end true n.kind))
  unfolding ahead pieces_t
  plain-there n (l, m, (a, i, q)) h =
      (l, m, λ K. goes-along a n.end q K ∙ after-axis (drop n.end s) K h, record { named = a; reads = q; is_form = i })

  plain-law : (r : Result Named Stray) → AxisAt s at r → StartAt s at (step_of s r false)
  plain-law (Err p) x = plain-missing p x
  plain-law (Ok n) x =
      let b = head_of (drop n.end s) in
      by-test (StartAt s at) (eqb b 42) (λ t. plain-star n x (eqb-true b 42 t)) (λ f. plain-there n x (eqb-false b 42 f))

-- (AXIS?
question-goes : (l : List ℕ) (K : List Expected) → run true (byte 63 ∷ K) (63 ∷ l) ≡ run false K l
unfolding run next choices pick is_word is_digit
question-goes l K = refl

question-stops : (l : List ℕ) (K : List Expected) → (head_of l ≡ 63 → ⊥) → run true (byte 63 ∷ K) l ≡ stopped l
unfolding head_of run next choices pick ended
question-stops [] K h = refl
question-stops (b ∷ l) K h = rw (ne_eqb b 63 h)

module _ (s : List ℕ) (at : ℕ) (h : head_of (drop at s) ≡ 40) where
  opened : (K : List Expected) → run false (path ∷ K) (drop at s) ≡ run false (axis ∷ byte 63 ∷ test ∷ byte 41 ∷ byte 42 ∷ after_step ∷ K) (drop (at + 1) s)
  opened K = let q = (front s at 40 h (omega arith)).1 in rw q (step-while false K (drop (at + 1) s))

  axis-read : (a : Axis) (e : ℕ) → drop (at + 1) s ≡ axis_word a ++ drop e s → (K : List Expected) → run false (axis ∷ K) (drop (at + 1) s) ≡ run true K (drop e s)
  axis-read a e q K = rw q (run-axis K a (drop e s))

  asked : (e : ℕ) → head_of (drop e s) ≡ 63 → (K : List Expected) → run true (byte 63 ∷ K) (drop e s) ≡ run false K (drop (e + 1) s)
  asked e g K = let r = (front s e 63 g (omega arith)).1 in rw r (question-goes (drop (e + 1) s) K)

  while-missing : (p : Stray) → AxisAt s (at + 1) (Err p) → StartAt s at (Err p)
  while-missing p (m, k) = (m, λ K. opened K ∙ k _)

  while-stray : (n : Named) → AxisAt s (at + 1) (Ok n) → (head_of (drop n.end s) ≡ 63 → ⊥) → StartAt s at (stray n.end)
  while-stray n (l, m, (a, i, q)) g = (m, λ K. opened K ∙ axis-read a n.end q _ ∙ question-stops (drop n.end s) _ g)

  while-there : (n : Named) → AxisAt s (at + 1) (Ok n) → head_of (drop n.end s) ≡ 63 → StartAt s at (Ok (S.While (n.end + 1) (n.kind + 8)))
  while-there n (l, m, (a, i, q)) g =
      let (j, r) = front s n.end 63 g (omega arith) in (
        omega arith,
        omega arith,
        record {
          along = a;
          goes = λ K. opened K ∙ axis-read a n.end q _ ∙ asked n.end g _;
          reads = (front s at 40 h (omega arith)).1 ∙ ap (◌∷◌ 40) (q ∙ ap (λ (x : List ℕ). axis_word a ++ x) r);
          is_form = omega (arith, i);
        },
      )

  while-law : (r : Result Named Stray) → AxisAt s (at + 1) r → StartAt s at (step_of s r true)
  while-law (Err p) x = while-missing p x
  while-law (Ok n) x =
      let b = head_of (drop n.end s) in
      by-test (StartAt s at) (eqb b 63) (λ t. while-there n x (eqb-true b 63 t)) (λ f. while-stray n x (eqb-false b 63 f))

module _ (s : List ℕ) (at : ℕ) (m : at ≤ length s) where
  start-law : StartAt s at (start_at s at)
  unfolding start_at step_at
  start-law =
      by-test (StartAt s at) (eqb (head_of (drop at s)) 63) (λ t. eqb-true (head_of (drop at s)) 63 t)
      (λ f. go (eqb (head_of (drop at s)) 40) refl (eqb-false (head_of (drop at s)) 63 f)) where
        go : (w : Bool) → eqb (head_of (drop at s)) 40 ≡ w → (head_of (drop at s) ≡ 63 → ⊥) → StartAt s at (step_of s (axis_at s (at + bool_byte w)) w)
        go true i h =
            let g = eqb-true (head_of (drop at s)) 40 i in while-law s at g (axis_at s (at + 1)) (axis-law s (at + 1) (omega (arith, (front s at 40 g (omega arith)).0)))
        go false i h =
            let z : at + 0 ≡ at = omega arith in rw z (plain-law s at h (eqb-false (head_of (drop at s)) 40 i) (axis_at s at) (axis-law s at m))

-- What a step begins with.
pub start-says : (s : List ℕ) (at : ℕ) {r q : Result Start Stray} → at ≤ length s → r ≡ start_at s at → r ≡ q → StartAt s at q
start-says s at m e h = rw (← h, e) (start-law s at m)
