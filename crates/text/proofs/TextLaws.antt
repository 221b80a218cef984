-- Laws of the text: it is read back by lines as its own lines, one for each element and two more, line k + 1 being element k's; and
-- the promises determine what they promise.
-- Assumes nothing.
use Prim.Native.Nat.{ℕ, zero, suc, ◌+◌, ◌<◌}
use native.Mathlib.Omega.{arith}
use native.Mathlib.Numerals.{add-one}
use borrow.Author.Tests.{ne_eqb, eqb-false}
use mathlib.Core.Path.{◌≡◌, refl, sym, ap, ◌∙◌}
use mathlib.Core.Bool.{Bool, true, false, not, ◌&&◌}
use mathlib.Core.List.{List, [], ◌∷◌, ◌++◌, flatten, append_assoc, append-nil}
use lib.Dec.{eqb}
use lib.ListN.{length, get_or, length-append, get_or-append}
use lib.Seq.{append_snoc, get_or_at}
use Rattle.text.specs.Decimal.{decimal}
use Rattle.text.specs.Text.{ascii, space, line_feed, field, phrase, refused_line, header_line, element_line, closing_line}
use Rattle.text.specs.Text.{line_of, element_lines, accepted_lines, accepted_text}
use Rattle.text.specs.Lines.{lines_from, lines_in}
use Rattle.text.proofs.DecimalLaws.{Every, every_append, every_one, Digit, decimal-digits}
use Rattle.numbers.specs.Bits.{bit}
use Rattle.numbers.specs.Lists.{listed}
use Rattle.numbers.proofs.Lists.{listed-length, listed_at}

-- ---- bytes that are no line feed

-- A byte that does not end a line.
abbrev pub Within : ℕ → Type 0
Within b = b ≡ line_feed → ⊥

-- A line: bytes that do not end it, and the line feed that does.
pub record Line (l : List ℕ) : Type 0 where
  pub body : List ℕ
  pub within : Every Within body
  pub ends : l ≡ body ++ (line_feed ∷ [])

-- What holds of every byte holds of them in any weaker form.
pub every-weaken : (P Q : ℕ → Type 0) → ((b : ℕ) → P b → Q b) → (bs : List ℕ) → Every P bs → Every Q bs
unfolding Every
every-weaken P Q f [] h = tt
every-weaken P Q f (b ∷ bs) h = (f b h.0, every-weaken P Q f bs h.1)

decimal-within : (n : ℕ) → Every Within (decimal n)
decimal-within n = every-weaken Digit Within (λ b h e. omega arith) (decimal n) (decimal-digits n)

field-within : (n : ℕ) → Every Within (field n space)
unfolding field
field-within n = every_append Within (decimal n) (space ∷ []) (decimal-within n) (every_one Within space (λ e. omega arith))

-- A number that ends a line.
field-line : (n : ℕ) → Line (field n line_feed)
unfolding field
field-line n = record { body = decimal n; within = decimal-within n; ends = refl }

-- Bytes in front of a line.
line_after : (bs l : List ℕ) → Every Within bs → Line l → Line (bs ++ l)
line_after bs l h r =
    record {
      body = bs ++ r.body;
      within = every_append Within bs r.body h r.within;
      ends = ap (λ (m : List ℕ). bs ++ m) r.ends ∙ sym (append_assoc bs r.body (line_feed ∷ []));
    }

-- Whether no byte is a line feed, as a test that computes on a text that is written out.
unbroken : List ℕ → Bool
unbroken [] = true
unbroken (b ∷ bs) = not (eqb b line_feed) && unbroken bs

unbroken-within : (bs : List ℕ) → unbroken bs ≡ true → Every Within bs
unfolding Every unbroken
unbroken-within [] e = tt
unbroken-within (b ∷ bs) e = go (eqb b line_feed) refl e (unbroken-within bs)
  where
    go : (c : Bool) → eqb b line_feed ≡ c → not c && unbroken bs ≡ true → (unbroken bs ≡ true → Every Within bs) → Within b × Every Within bs
    go true p q h = absurd (let z : ◌≡◌ {A = ℕ} 0 1 = cc in omega arith)
    go false p q h = (eqb-false b line_feed p, h q)

-- ---- the lines of the text are lines

-- Two words with a number behind each.
phrase-line : (first second : List ℕ) (x y : ℕ) → unbroken first ≡ true → unbroken second ≡ true → Line (phrase first x second y)
unfolding phrase
phrase-line first second x y p q =
    line_after first _ (unbroken-within first p)
    (line_after (field x space) _ (field-within x) (line_after second _ (unbroken-within second q) (field-line y)))

-- The line of a refusal.
refused-line : (number place : ℕ) → Line (refused_line number place)
unfolding refused_line ascii unbroken
refused-line number place = phrase-line (ascii "refused ") (ascii "at ") number place refl refl

-- The header.
header-line : Line header_line
unfolding header_line ascii unbroken
header-line = record { body = ascii "element label level selected"; within = unbroken-within _ refl; ends = refl }

-- The line of an element.
element-line : (element label level : ℕ) (verdict : Bool) → Line (element_line element label level verdict)
unfolding element_line
element-line element label level verdict =
    line_after (field element space) _ (field-within element)
    (line_after (field label space) _ (field-within label) (line_after (field level space) _ (field-within level) (field-line (bit verdict))))

-- The closing line.
closing-line : (selected elements : ℕ) → Line (closing_line selected elements)
unfolding closing_line ascii unbroken
closing-line selected elements = phrase-line (ascii "selected ") (ascii "of ") selected elements refl refl

-- ---- a text of lines is read back as these lines

-- Each of the lists is a line.
unfoldable AllLines : List (List ℕ) → Type 0
AllLines [] = Unit
AllLines (l ∷ ls) = Line l × AllLines ls

lines-append : (ls ms : List (List ℕ)) → AllLines ls → AllLines ms → AllLines (ls ++ ms)
unfolding AllLines
lines-append [] ms h q = q
lines-append (l ∷ ls) ms h q = (h.0, lines-append ls ms h.1 q)

-- A line in front of a text, its first bytes read before.
lines_next : (held bs rest : List ℕ) → Every Within bs
    → lines_from held (bs ++ (line_feed ∷ rest)) ≡ (held ++ (bs ++ (line_feed ∷ []))) ∷ lines_from [] rest
unfolding lines_from Every
lines_next held [] rest h = refl
lines_next held (b ∷ bs) rest h = rw (ne_eqb b line_feed h.0) (lines_next (held ++ (b ∷ [])) bs rest h.1 ∙ rw append_snoc)

-- Reading by lines gives back the lines.
lines-back : (ls : List (List ℕ)) → AllLines ls → lines_in (flatten ls) ≡ ls
unfolding lines_from flatten AllLines
lines-back [] h = refl
lines-back (l ∷ ls) h =
    let r = h.0 in
    ap (λ (m : List ℕ). lines_in (m ++ flatten ls)) r.ends
    ∙ ap lines_in (append_assoc r.body (line_feed ∷ []) (flatten ls))
    ∙ lines_next [] r.body (flatten ls) r.within
    ∙ ap (λ (m : List ℕ). m ∷ lines_in (flatten ls)) (sym r.ends)
    ∙ ap (λ (ms : List (List ℕ)). l ∷ ms) (lines-back ls h.1)

-- ---- the text of an accepted report

flatten-append : (ls ms : List (List ℕ)) → flatten (ls ++ ms) ≡ flatten ls ++ flatten ms
unfolding flatten
flatten-append [] ms = refl
flatten-append (l ∷ ls) ms = ap (λ (r : List ℕ). l ++ r) (flatten-append ls ms) ∙ sym (append_assoc l (flatten ls) (flatten ms))

flatten-last : (ls : List (List ℕ)) (l : List ℕ) → flatten (ls ++ (l ∷ [])) ≡ flatten ls ++ l
unfolding flatten
flatten-last ls l = flatten-append ls (l ∷ []) ∙ ap (λ (r : List ℕ). flatten ls ++ r) (append-nil l)

module _ (labels levels : List ℕ) (verdicts : ℕ → Bool) where
  element-lines : (n : ℕ) → AllLines (element_lines labels levels verdicts n)
  unfolding element_lines listed AllLines
  element-lines zero = tt
  element-lines (suc k) =
      lines-append (element_lines labels levels verdicts k) (line_of labels levels verdicts k ∷ []) (element-lines k)
      (element-line k (get_or labels k 0) (get_or levels k 0) (verdicts k), tt)

  -- Every line of the text is a line: it ends with its only line feed.
  accepted-lines : (n selected : ℕ) → AllLines (accepted_lines labels levels verdicts n selected)
  unfolding accepted_lines AllLines
  accepted-lines n selected =
      (header-line, lines-append (element_lines labels levels verdicts n) (closing_line selected n ∷ []) (element-lines n) (closing-line selected n, tt))

  -- The text, read by lines, is its lines.
  accepted-back : (n selected : ℕ) → lines_in (accepted_text labels levels verdicts n selected) ≡ accepted_lines labels levels verdicts n selected
  unfolding accepted_text
  accepted-back n selected = lines-back (accepted_lines labels levels verdicts n selected) (accepted-lines n selected)

  -- The text of the lines of one element more.
  pub elements-more : (k : ℕ) → flatten (element_lines labels levels verdicts (k + 1))
      ≡ flatten (element_lines labels levels verdicts k) ++ line_of labels levels verdicts k
  unfolding element_lines listed
  elements-more k =
      ap (λ (i : ℕ). flatten (element_lines labels levels verdicts i)) (add-one k)
      ∙ flatten-last (element_lines labels levels verdicts k) (line_of labels levels verdicts k)

  -- The text is the header, the elements' lines and the closing line.
  pub accepted-is : (n selected : ℕ) → accepted_text labels levels verdicts n selected
      ≡ header_line ++ (flatten (element_lines labels levels verdicts n) ++ closing_line selected n)
  unfolding accepted_text accepted_lines flatten
  accepted-is n selected = ap (λ (r : List ℕ). header_line ++ r) (flatten-last (element_lines labels levels verdicts n) (closing_line selected n))

  -- As many lines as elements, and two.
  pub accepted-count : (n selected : ℕ) → length (lines_in (accepted_text labels levels verdicts n selected)) ≡ n + 2
  unfolding accepted_lines element_lines
  accepted-count n selected =
      ap length (accepted-back n selected)
      ∙ omega (arith, length-append (element_lines labels levels verdicts n) (closing_line selected n ∷ []), listed-length n (line_of labels levels verdicts))

  -- Line k + 1 is element k's: none is left out, and they stand in order.
  pub accepted-at : (n selected k : ℕ) → k < n
      → get_or (lines_in (accepted_text labels levels verdicts n selected)) (suc k) [] ≡ line_of labels levels verdicts k
  unfolding accepted_lines element_lines
  accepted-at n selected k h =
      ap (λ (ls : List (List ℕ)). get_or ls (suc k) []) (accepted-back n selected)
      ∙ get_or-append (element_lines labels levels verdicts n) (closing_line selected n ∷ []) [] k (rw listed-length h)
      ∙ listed_at n _ k [] h

  -- The line past the elements' is the closing one.
  pub accepted-last : (n selected : ℕ) → get_or (lines_in (accepted_text labels levels verdicts n selected)) (suc n) [] ≡ closing_line selected n
  unfolding accepted_lines element_lines
  accepted-last n selected =
      ap (λ (ls : List (List ℕ)). get_or ls (suc n) []) (accepted-back n selected)
      ∙ get_or_at (element_lines labels levels verdicts n) (closing_line selected n) [] [] n (listed-length n _)

-- The text of a refusal is one line.
pub refused-back : (number place : ℕ) → lines_in (refused_line number place) ≡ refused_line number place ∷ []
unfolding flatten AllLines
refused-back number place =
    ap lines_in (sym (append-nil (refused_line number place))) ∙ lines-back (refused_line number place ∷ []) (refused-line number place, tt)
