-- How long the lines can be, and that the buffer has room for all of them.
-- Assumes nothing.
use Prim.Native.Nat.{ℕ, zero, suc, ◌+◌, ◌*◌, ◌^◌, ◌≤◌, ◌<◌, min}
use native.Mathlib.Decide.{dec_lt}
use native.Mathlib.Omega.{arith}
use native.Mathlib.Numerals.{add-one}
use borrow.Author.Tests.{lt-ltb, le-ltb}
use mathlib.Core.Path.{◌≡◌, sym, ap, ◌∙◌}
use mathlib.Core.Bool.{Bool, true, false}
use mathlib.Core.List.{List, [], ◌∷◌, ◌++◌, flatten}
use lib.ListN.{length, get_or, length-append}
use Rattle.text.specs.Decimal.{decimal}
use Rattle.text.specs.Rendered.{buffer_size, clamped, Put}
use Rattle.text.specs.Text.{ascii, space, line_feed, field, phrase, header_line, element_line, closing_line, line_of, element_lines, accepted_text}
use Rattle.text.proofs.DecimalLaws.{decimal-short}
use Rattle.terms.specs.Limits.{elements_most}
use Rattle.text.proofs.TextLaws.{elements-more, accepted-is}
use Rattle.numbers.specs.Bits.{bit}
use Rattle.numbers.specs.Lists.{listed}

-- A field is one byte longer than its number.
pub field-length : (x end : ℕ) → length (field x end) ≡ length (decimal x) + 1
unfolding field
field-length x end = length-append (decimal x) (end ∷ [])

-- Four lists in a row.
four-length : (a b c d : List ℕ) → length (a ++ (b ++ (c ++ d))) ≡ length a + (length b + (length c + length d))
four-length a b c d = simp length-append

-- The lengths of the lines.
pub phrase-length : (first second : List ℕ) (x y : ℕ) → length (phrase first x second y)
    ≡ length first + (length (field x space) + (length second + length (field y line_feed)))
unfolding phrase
phrase-length first second x y = four-length first (field x space) second (field y line_feed)

pub element-length : (element label level : ℕ) (verdict : Bool) → length (element_line element label level verdict)
    ≡ length (field element space) + (length (field label space) + (length (field level space) + length (field (bit verdict) line_feed)))
unfolding element_line
element-length element label level verdict = four-length (field element space) (field label space) (field level space) (field (bit verdict) line_feed)

-- A number below ten to the k, k not 0, is a field of k + 1 bytes at most.
field-short : (k x end : ℕ) → x < 10 ^ suc k → length (field x end) ≤ suc k + 1
field-short k x end h = omega (arith, field-length x end, decimal-short k x h)

bit-small : (b : Bool) → bit b < 10
bit-small true = omega arith
bit-small false = omega arith

-- The line of one of 4,096 elements has 19 bytes at most, whatever numbers of 16 bits its label and its level are.
pub element-short : (element label level : ℕ) (verdict : Bool) → element < elements_most → label < 65536 → level < 65536
    → length (element_line element label level verdict) ≤ 19
element-short element label level verdict e l v =
    omega (
      arith,
      element-length element label level verdict,
      field-short 3 element space (omega arith),
      field-short 4 label space (omega arith),
      field-short 4 level space (omega arith),
      field-short 0 (bit verdict) line_feed (bit-small verdict),
    )

-- So it has room where 19 bytes have, and ends 19 bytes on at most.
pub element-room : (at : ℕ) {element label level : ℕ} (verdict : Bool) → at + 19 ≤ buffer_size → element < elements_most → label < 65536 → level < 65536
    → at + length (element_line element label level verdict) ≤ buffer_size
element-room at {element} {label} {level} verdict h e l v = omega (arith, element-short element label level verdict e l v)

pub element-ends : {out after : List ℕ} {at r element label level : ℕ} (verdict : Bool) → Put (element_line element label level verdict) out at r after
    → element < elements_most → label < 65536 → level < 65536 → r ≤ at + 19
element-ends {element = element} {label} {level} verdict p e l v = omega (arith, p.next_is, element-short element label level verdict e l v)

-- Two words with numbers of 64 bits behind them have 42 bytes at most beside the words.
pub phrase-short : (first second : List ℕ) (x y : ℕ) → x < 2 ^ 64 → y < 2 ^ 64 → length (phrase first x second y) ≤ length first + length second + 42
phrase-short first second x y p q =
    omega (arith, phrase-length first second x y, field-short 19 x space (omega arith), field-short 19 y line_feed (omega arith))

-- The buffer has room for it at its front, whatever the numbers are.
pub phrase-fits : (first second : List ℕ) (x y : ℕ) → length first + length second ≤ 100 → x < 2 ^ 64 → y < 2 ^ 64 → 0 + length (phrase first x second y) ≤ buffer_size
phrase-fits first second x y h p q = omega (arith, phrase-short first second x y p q)

-- The least of a number and the limit is the number clamped to it.
pub min-clamped : (n : ℕ) → min n elements_most ≡ clamped n
unfolding clamped
min-clamped n =
    elim (dec_lt elements_most n) [
      | yes l ↦ rw (lt-ltb _ _ l) (omega arith)
      | no g ↦ rw (le-ltb elements_most n (omega arith)) (omega arith)
    ]

-- ---- the whole text

module _ (labels levels : List ℕ) (verdicts : ℕ → Bool) where
  -- The lines of n elements.
  lines-short : (n : ℕ) → n ≤ elements_most → ((k : ℕ) → k < n → (get_or labels k 0 < 65536) × (get_or levels k 0 < 65536))
      → length (flatten (element_lines labels levels verdicts n)) ≤ 19 * n
  unfolding element_lines listed flatten
  lines-short zero few small = omega arith
  lines-short (suc n) few small =
      let more : length (flatten (element_lines labels levels verdicts (suc n))) ≡ length (flatten (element_lines labels levels verdicts n)) + length (line_of labels levels verdicts n) =
      ap (λ (k : ℕ). length (flatten (element_lines labels levels verdicts k))) (sym (add-one n))
      ∙ ap length (elements-more labels levels verdicts n)
      ∙ length-append (flatten (element_lines labels levels verdicts n)) (line_of labels levels verdicts n) in
      let line = small n (omega arith) in
      omega (
        arith,
        more,
        lines-short n (omega arith) (λ k h. small k (omega arith)),
        element-short n (get_or labels n 0) (get_or levels n 0) (verdicts n) (omega arith) line.0 line.1,
      )

  -- The buffer has room for the text of 4,096 elements.
  pub text-short : (n selected : ℕ) → n ≤ elements_most → selected ≤ n → ((k : ℕ) → k < n → (get_or labels k 0 < 65536) × (get_or levels k 0 < 65536))
      → length (accepted_text labels levels verdicts n selected) ≤ buffer_size
  unfolding header_line closing_line ascii
  text-short n selected few chosen small =
      let lines = flatten (element_lines labels levels verdicts n) in
      omega (
        arith,
        ap length (accepted-is labels levels verdicts n selected),
        length-append header_line (lines ++ closing_line selected n),
        length-append lines (closing_line selected n),
        lines-short n few small,
        phrase-short (ascii "selected ") (ascii "of ") selected n (omega arith) (omega arith),
      )
