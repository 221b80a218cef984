-- A text is the text of one tree only: the pieces are found in the bytes, and the tree in the pieces. Whatever the labels.
-- Assumes nothing.
use Prim.Native.Nat.{ℕ, zero, suc, ◌+◌, ◌≤◌}
use native.Mathlib.Omega.{arith}
use mathlib.Core.Path.{◌≡◌, refl, sym, ap, ap₂, ◌∙◌}
use mathlib.Core.Bool.{Bool, true, false, cond, ◌||◌}
use mathlib.Core.List.{List, [], ◌∷◌, ◌++◌}
use mathlib.Core.Option.{Option, none, some}
use borrow.Author.Tests.{le-leb}
use lib.Dec.{eqb}
use lib.ListN.{length, length-append}
use Rattle.meaning.specs.Cases.{same}
use Rattle.text.specs.Text.{ascii}
use Rattle.text.specs.Decimal.{decimal, value_of}
use Rattle.text.proofs.DecimalLaws.{Every, Digit, decimal-back, decimal-digits, decimal-some}
use Rattle.text.proofs.TextLaws.{every-weaken}
use Rattle.terms.specs.declared.kind.Axis.{Axis}
use Rattle.terms.specs.declared.kind.Axis.TheVariants.{Child as child, Parent as parent, Next as right, Previous as left}
use Rattle.paths.specs.Syntax.{Test, everywhere, labelled, except, either, begins, Path, only, ◌then◌, Step, along, along*, passing, while}
use Rattle.paths.specs.Spelling.{Sign, opening, closing, less, greater, slash, question, star, Piece, word, sign, axis_word, true_word, label_word, not_word, or_word, pieces_t, pieces_p, pieces_s, sign_byte, gap, spell, text_of}
use Rattle.paths.proofs.Machine.{is_digit, is_word}

-- ---- pieces in bytes

abbrev WordByte : ℕ → Type 0
WordByte b = is_word b ≡ true

-- The bytes begin with no letter and no digit.
abbrev Ends : List ℕ → Type 0
Ends [] = Unit {0}
Ends (b ∷ s) = is_word b ≡ false

-- The words have bytes, all letters and digits.
unfoldable Fine : List Piece → Type 0
Fine [] = Unit {0}
Fine (word x ∷ ps) = (1 ≤ length x) × Every WordByte x × Fine ps
Fine (sign c ∷ ps) = Fine ps

-- Two words in front of what is none are one, and so is what follows them.
word-only : (x y u v : List ℕ) → Every WordByte x → Every WordByte y → Ends u → Ends v → x ++ u ≡ y ++ v → (x ≡ y) × (u ≡ v)
unfolding Every
word-only [] [] u v f g h k e = (refl, e)
word-only [] (b ∷ y) [] v f g h k e = let z : ◌≡◌ {A = ℕ} 0 1 = cc in absurd (omega arith)
word-only [] (b ∷ y) (a ∷ u) v f g h k e =
    let q : a ≡ b = cc in let d : true ≡ false = sym g.0 ∙ rw q at h in let z : ◌≡◌ {A = ℕ} 0 1 = cc in absurd (omega arith)
word-only (a ∷ x) [] u [] f g h k e = let z : ◌≡◌ {A = ℕ} 0 1 = cc in absurd (omega arith)
word-only (a ∷ x) [] u (b ∷ v) f g h k e =
    let q : b ≡ a = cc in let d : true ≡ false = sym f.0 ∙ rw q at k in let z : ◌≡◌ {A = ℕ} 0 1 = cc in absurd (omega arith)
word-only (a ∷ x) (b ∷ y) u v f g h k e =
    let q : a ≡ b = cc in let r = word-only x y u v f.1 g.1 h k (cc) in (ap₂ ◌∷◌ q r.0, r.1)

-- The sign of a byte.
unfoldable sign_of : ℕ → Sign
sign_of b =
    cond (eqb b 40) opening (cond (eqb b 41) closing (cond (eqb b 60) less (cond (eqb b 62) greater (cond (eqb b 47) slash (cond (eqb b 63) question star)))))

sign-back : (c : Sign) → sign_of (sign_byte c) ≡ c
unfolding sign_of sign_byte
sign-back opening = refl
sign-back closing = refl
sign-back less = refl
sign-back greater = refl
sign-back slash = refl
sign-back question = refl
sign-back star = refl

-- No sign is a space, a letter or a digit.
unfoldable wordly : ℕ → Bool
wordly b = is_word b || eqb b 32

sign-apart : (c : Sign) → wordly (sign_byte c) ≡ false
unfolding wordly is_word is_digit sign_byte
sign-apart opening = refl
sign-apart closing = refl
sign-apart less = refl
sign-apart greater = refl
sign-apart slash = refl
sign-apart question = refl
sign-apart star = refl

or-false : (a b : Bool) → (a || b) ≡ false → a ≡ false
or-false true b e = e
or-false false b e = refl

sign_word : (c : Sign) → is_word (sign_byte c) ≡ false
unfolding wordly
sign_word c = or-false (is_word (sign_byte c)) _ (sign-apart c)

spell-ends : (ps : List Piece) → Ends (spell true ps)
unfolding spell is_word is_digit
spell-ends [] = tt
spell-ends (word x ∷ ps) = refl
spell-ends (sign c ∷ ps) = sign_word c

-- A word does not begin like a sign.
word-apart : {A : Type 0} (w : Bool) (x u v : List ℕ) (c : Sign) → 1 ≤ length x → Every WordByte x → gap w ++ (x ++ u) ≡ sign_byte c ∷ v → A
unfolding Every wordly is_word is_digit
word-apart w [] u v c l f e = absurd (omega arith)
word-apart true (b ∷ x) u v c l f e =
    let q : 32 ≡ sign_byte c = cc in let d : true ≡ false = rw (← q) at (sign-apart c) in let z : ◌≡◌ {A = ℕ} 0 1 = cc in absurd (omega arith)
word-apart false (b ∷ x) u v c l f e =
    let q : b ≡ sign_byte c = cc in let d : true ≡ false = sym f.0 ∙ rw q (sign_word c) in let z : ◌≡◌ {A = ℕ} 0 1 = cc in absurd (omega arith)

gap-off : (w : Bool) (x y : List ℕ) → gap w ++ x ≡ gap w ++ y → x ≡ y
gap-off true x y e = cc
gap-off false x y e = e

-- Two lists of pieces with the same bytes are equal.
spell-only : (ps qs : List Piece) (w : Bool) → Fine ps → Fine qs → spell w ps ≡ spell w qs → ps ≡ qs
unfolding spell Fine
spell-only [] [] w f g e = refl
spell-only [] (word y ∷ qs) w f g e = absurd (omega (arith, simp length-append at (ap length e)))
spell-only [] (sign d ∷ qs) w f g e = let z : ◌≡◌ {A = ℕ} 0 1 = cc in absurd (omega arith)
spell-only (word x ∷ ps) [] w f g e = absurd (omega (arith, simp length-append at (ap length e)))
spell-only (word x ∷ ps) (word y ∷ qs) w f g e =
    let r = word-only x y _ _ f.1 g.1 (spell-ends ps) (spell-ends qs) (gap-off w _ _ e) in
    ap₂ (λ (z : List ℕ) (rs : List Piece). word z ∷ rs) r.0 (spell-only ps qs true f.2 g.2 r.1)
spell-only (word x ∷ ps) (sign d ∷ qs) w f g e = word-apart w x _ _ d f.0 f.1 e
spell-only (sign c ∷ ps) [] w f g e = let z : ◌≡◌ {A = ℕ} 0 1 = cc in absurd (omega arith)
spell-only (sign c ∷ ps) (word y ∷ qs) w f g e = word-apart w y _ _ c g.0 g.1 (sym e)
spell-only (sign c ∷ ps) (sign d ∷ qs) w f g e =
    let q : sign_byte c ≡ sign_byte d = cc in
    let r : c ≡ d = sym (sign-back c) ∙ ap sign_of q ∙ sign-back d in
    ap₂ (λ (z : Sign) (rs : List Piece). sign z ∷ rs) r (spell-only ps qs false f g (cc))

-- ---- the pieces of a tree are fine

digit-word : (b : ℕ) → Digit b → WordByte b
unfolding is_word is_digit
digit-word b d = rw (le-leb 48 b d.0, le-leb b 57 d.1)

axis-fine : (a : Axis) → (1 ≤ length (axis_word a)) × Every WordByte (axis_word a)
unfolding axis_word Every is_word is_digit ascii
axis-fine child = (omega arith, (refl, (refl, (refl, (refl, (refl, tt))))))
axis-fine parent = (omega arith, (refl, (refl, (refl, (refl, (refl, (refl, tt)))))))
axis-fine right = (omega arith, (refl, (refl, (refl, (refl, (refl, tt))))))
axis-fine left = (omega arith, (refl, (refl, (refl, (refl, tt)))))

mutual
  unfolding pieces_t Fine Every is_word is_digit ascii

  fine-test : (t : Test) (ps : List Piece) → Fine ps → Fine (pieces_t t ps)
  fine-test everywhere ps f = (omega arith, (refl, (refl, (refl, (refl, tt)))), f)
  fine-test (labelled n) ps f = (
    omega arith,
    (refl, (refl, (refl, (refl, (refl, tt))))),
    (decimal-some n, every-weaken Digit WordByte digit-word (decimal n) (decimal-digits n), f),
  )
  fine-test (except t) ps f = (omega arith, (refl, (refl, (refl, tt))), fine-test t ps f)
  fine-test (either t u) ps f = fine-test t _ (omega arith, (refl, (refl, tt)), fine-test u (sign closing ∷ ps) f)
  fine-test (begins p) ps f = fine-path p (sign greater ∷ ps) f

  fine-path : (p : Path) (ps : List Piece) → Fine ps → Fine (pieces_p p ps)
  fine-path (only st) ps f = fine-step st ps f
  fine-path (◌then◌ st p) ps f = fine-step st (sign slash ∷ pieces_p p ps) (fine-path p ps f)

  fine-step : (st : Step) (ps : List Piece) → Fine ps → Fine (pieces_s st ps)
  fine-step (along a) ps f = ((axis-fine a).0, (axis-fine a).1, f)
  fine-step (along* a) ps f = ((axis-fine a).0, (axis-fine a).1, f)
  fine-step (passing t) ps f = fine-test t ps f
  fine-step (while a t) ps f = ((axis-fine a).0, (axis-fine a).1, fine-test t (sign closing ∷ sign star ∷ ps) f)

-- ---- the tree in the pieces

-- Two pieces are the same.
unfoldable is : Piece → Piece → Bool
is (word x) (word y) = same x y
is (word x) (sign d) = false
is (sign c) (word y) = false
is (sign c) (sign d) = eqb (sign_byte c) (sign_byte d)

module _ {A : Type 0} where
  -- On behind the piece p; else the second way.
  behind : Piece → List Piece → (List Piece → Option A) → Option A → Option A
  behind p [] go else = else
  behind p (q ∷ qs) go else = cond (is q p) (go qs) else

  read_axis : List Piece → (Axis → List Piece → Option A) → Option A
  read_axis ps go =
      behind (word (axis_word child)) ps (go child)
      (behind (word (axis_word parent)) ps (go parent)
      (behind (word (axis_word right)) ps (go right)
      (behind (word (axis_word left)) ps (go left) none)))

  read_number : List Piece → (ℕ → List Piece → Option A) → Option A
  read_number [] go = none
  read_number (word x ∷ ps) go = go (value_of x) ps
  read_number (sign c ∷ ps) go = none

  -- The first tree, with at most so many trees inside one another, handed on with what follows it.
  mutual
    read_t : ℕ → List Piece → (Test → List Piece → Option A) → Option A
    read_t zero ps go = none
    read_t (suc n) ps go =
        behind (word true_word) ps (go everywhere)
        (behind (word label_word) ps (λ qs. read_number qs (λ m rs. go (labelled m) rs))
        (behind (word not_word) ps (λ qs. read_t n qs (λ t rs. go (except t) rs))
        (behind (sign opening) ps (λ qs. read_t n qs (λ t rs. behind (word or_word) rs (λ xs. read_t n xs (λ u ys. behind (sign closing) ys (go (either t u)) none)) none))
        (behind (sign less) ps (λ qs. read_p n qs (λ p rs. go (begins p) rs)) none))))

    -- A path with its `>`.
    read_p : ℕ → List Piece → (Path → List Piece → Option A) → Option A
    read_p zero ps go = none
    read_p (suc n) ps go =
        read_s n ps (λ st qs. behind (sign greater) qs (go (only st)) (behind (sign slash) qs (λ rs. read_p n rs (λ p xs. go (◌then◌ st p) xs)) none))

    read_s : ℕ → List Piece → (Step → List Piece → Option A) → Option A
    read_s zero ps go = none
    read_s (suc n) ps go =
        behind (sign question) ps (λ qs. read_t n qs (λ t rs. go (passing t) rs))
        (behind (sign opening) ps (λ qs. read_axis qs (λ a rs. behind (sign question) rs (λ xs. read_t n xs (λ t ys. behind (sign closing) ys (λ zs. behind (sign star) zs (go (while a t)) none) none)) none))
        (read_axis ps (λ a qs. behind (sign star) qs (go (along* a)) (go (along a) qs))))

-- How many trees stand inside one another, at most.
unfoldable mutual
  size_t : Test → ℕ
  size_t everywhere = 1
  size_t (labelled n) = 1
  size_t (except t) = suc (size_t t)
  size_t (either t u) = suc (size_t t + size_t u)
  size_t (begins p) = suc (size_p p)

  size_p : Path → ℕ
  size_p (only st) = suc (size_s st)
  size_p (◌then◌ st p) = suc (size_s st + size_p p)

  size_s : Step → ℕ
  size_s (along a) = 1
  size_s (along* a) = 1
  size_s (passing t) = suc (size_t t)
  size_s (while a t) = suc (size_t t)

module _ {A : Type 0} where
  read-axis : (a : Axis) (ps : List Piece) (go : Axis → List Piece → Option A) → read_axis (word (axis_word a) ∷ ps) go ≡ go a ps
  unfolding read_axis behind is same axis_word ascii
  read-axis child ps go = refl
  read-axis parent ps go = refl
  read-axis right ps go = refl
  read-axis left ps go = refl

  behind-not : (c : Sign) (ps : List Piece) (go : List Piece → Option A) (else : Option A) → is (sign c) (sign star) ≡ false
      → behind (sign star) (sign c ∷ ps) go else ≡ else
  unfolding behind
  behind-not c ps go else e = rw e

  mutual
    unfolding read_t pieces_t size_t behind is same sign_byte read_number ascii

    read-test : (t : Test) (n : ℕ) → size_t t ≤ n → (ps : List Piece) (go : Test → List Piece → Option A) → read_t n (pieces_t t ps) go ≡ go t ps
    read-test everywhere zero l ps go = absurd (omega arith)
    read-test everywhere (suc n) l ps go = refl
    read-test (labelled m) zero l ps go = absurd (omega arith)
    read-test (labelled m) (suc n) l ps go = rw (decimal-back m)
    read-test (except t) zero l ps go = absurd (omega arith)
    read-test (except t) (suc n) l ps go = read-test t n (omega arith) ps _
    read-test (either t u) zero l ps go = absurd (omega arith)
    read-test (either t u) (suc n) l ps go = read-test t n (omega arith) _ _ ∙ read-test u n (omega arith) (sign closing ∷ ps) _
    read-test (begins p) zero l ps go = absurd (omega arith)
    read-test (begins p) (suc n) l ps go = read_path p n (omega arith) ps _

    read_path : (p : Path) (n : ℕ) → size_p p ≤ n → (ps : List Piece) (go : Path → List Piece → Option A)
        → read_p n (pieces_p p (sign greater ∷ ps)) go ≡ go p ps
    read_path (only st) zero l ps go = absurd (omega arith)
    read_path (only st) (suc n) l ps go = read_step st n (omega arith) greater ps refl _
    read_path (◌then◌ st p) zero l ps go = absurd (omega arith)
    read_path (◌then◌ st p) (suc n) l ps go = read_step st n (omega arith) slash _ refl _ ∙ read_path p n (omega arith) ps _

    -- A step in front of a sign that is not `*`.
    read_step : (st : Step) (n : ℕ) → size_s st ≤ n → (c : Sign) (ps : List Piece) → is (sign c) (sign star) ≡ false
        → (go : Step → List Piece → Option A) → read_s n (pieces_s st (sign c ∷ ps)) go ≡ go st (sign c ∷ ps)
    read_step (along a) zero l c ps e go = absurd (omega arith)
    read_step (along a) (suc n) l c ps e go = read-axis a (sign c ∷ ps) _ ∙ behind-not c ps (go (along* a)) _ e
    read_step (along* a) zero l c ps e go = absurd (omega arith)
    read_step (along* a) (suc n) l c ps e go = read-axis a (sign star ∷ sign c ∷ ps) _
    read_step (passing t) zero l c ps e go = absurd (omega arith)
    read_step (passing t) (suc n) l c ps e go = read-test t n (omega arith) (sign c ∷ ps) _
    read_step (while a t) zero l c ps e go = absurd (omega arith)
    read_step (while a t) (suc n) l c ps e go =
        read-axis a _ _ ∙ read-test t n (omega arith) (sign closing ∷ sign star ∷ sign c ∷ ps) _

-- Two trees with the same pieces are equal.
pieces-only : (t u : Test) → pieces_t t [] ≡ pieces_t u [] → t ≡ u
pieces-only t u e =
    let n = size_t t + size_t u in
    let x = read-test t n (omega arith) [] (λ v ps. some v) in
    let y = read-test u n (omega arith) [] (λ v ps. some v) in
    let z : some t ≡ some u = sym x ∙ rw e y in
    cc

-- Two trees with the same text are equal.
pub text-only : (t u : Test) → text_of t ≡ text_of u → t ≡ u
unfolding text_of Fine
text-only t u e = pieces-only t u (spell-only _ _ false (fine-test t [] tt) (fine-test u [] tt) e)
