-- What the program prints: the line of a refusal, or a header, one line for each element in order, and a closing line. Document 01,
-- "The program".
-- Shuts out: an element left out, or told twice; places and numbers exchanged; a line that does not end.
-- Laws: proofs/TextLaws.antt. Assumes nothing.
use Rattle.std.specs.Prelude.{ℕ, Bool, get_or}
use Prim.Native.String.{String, [] as none, ◌∷◌ as ◌then◌}
use Prim.Native.Char.{code}
use mathlib.Core.List.{List, [], ◌∷◌, ◌++◌, flatten}
use Rattle.text.specs.Decimal.{decimal}
use Rattle.numbers.specs.Bits.{bit}
use Rattle.numbers.specs.Lists.{listed}

-- The bytes of a text in ASCII.
unfoldable pub ascii : String → List ℕ
ascii none = []
ascii (c then s) = code c ∷ ascii s

abbrev pub space : ℕ
space = 32

abbrev pub line_feed : ℕ
line_feed = 10

-- A number, and the byte that ends it.
unfoldable pub field : ℕ → ℕ → List ℕ
field x end = decimal x ++ (end ∷ [])

-- A line of two words with a number behind each.
unfoldable pub phrase : (first : List ℕ) (x : ℕ) (second : List ℕ) (y : ℕ) → List ℕ
phrase first x second y = first ++ (field x space ++ (second ++ field y line_feed))

-- `refused N at P`.
unfoldable pub refused_line : (number place : ℕ) → List ℕ
refused_line number place = phrase (ascii "refused ") number (ascii "at ") place

-- The header.
unfoldable pub header_line : List ℕ
header_line = ascii "element label level selected\n"

-- An element's number, its label, its level and its verdict, 1 or 0.
unfoldable pub element_line : (element label level : ℕ) → Bool → List ℕ
element_line element label level verdict =
    field element space ++ (field label space ++ (field level space ++ field (bit verdict) line_feed))

-- `selected S of N`.
unfoldable pub closing_line : (selected elements : ℕ) → List ℕ
closing_line selected elements = phrase (ascii "selected ") selected (ascii "of ") elements

module _ (labels levels : List ℕ) (verdicts : ℕ → Bool) where
  -- The line of element k.
  abbrev pub line_of : ℕ → List ℕ
  line_of k = element_line k (get_or labels k 0) (get_or levels k 0) (verdicts k)

  -- The lines of the first n elements, in order.
  unfoldable pub element_lines : ℕ → List (List ℕ)
  element_lines n = listed n line_of

  -- The lines for n elements, so many of them selected.
  unfoldable pub accepted_lines : (n selected : ℕ) → List (List ℕ)
  accepted_lines n selected = header_line ∷ (element_lines n ++ (closing_line selected n ∷ []))

  -- Their text.
  unfoldable pub accepted_text : (n selected : ℕ) → List ℕ
  accepted_text n selected = flatten (accepted_lines n selected)
