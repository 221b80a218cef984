-- The document's own text, byte for byte: rule A and report R accepted, and a refusal. Document 01, "The program" and "Sample reports and
-- marks". Assumes nothing.
use mathlib.Core.Path.{◌≡◌, refl}
use mathlib.Core.List.{[], ◌∷◌, flatten}
use Rattle.text.specs.Decimal.{digits, decimal}
use Rattle.text.specs.Text.{element_lines, ascii, field, phrase, refused_line, header_line, element_line, closing_line, accepted_lines, accepted_text}
use Rattle.text.specs.Rendered.{verdict_in}
use Rattle.numbers.specs.Lists.{listed}

-- Labels, levels and mark words of report R by rule A, whose last entry is 4.
pub sample-accepted : accepted_text (1 ∷ 10 ∷ 20 ∷ 30 ∷ 10 ∷ 20 ∷ []) (0 ∷ 1 ∷ 2 ∷ 2 ∷ 1 ∷ 2 ∷ []) (verdict_in (1 ∷ 1 ∷ 27 ∷ 13 ∷ 1 ∷ 3 ∷ []) 4) 6 1
    ≡ ascii "element label level selected\n0 1 0 0\n1 10 1 0\n2 20 2 1\n3 30 2 0\n4 10 1 0\n5 20 2 0\nselected 1 of 6\n"
unfolding digits decimal ascii field phrase header_line element_line closing_line element_lines listed accepted_lines accepted_text flatten
sample-accepted = refl

pub sample-refused : refused_line 8 40952 ≡ ascii "refused 8 at 40952\n"
unfolding digits decimal ascii field phrase refused_line
sample-refused = refl
