-- What a text says: two texts that are equal say the same numbers, field by field and line by line.
-- Assumes nothing.
use Prim.Native.Nat.{ℕ, suc, ◌<◌}
use native.Mathlib.Omega.{arith}
use mathlib.Core.Path.{◌≡◌, refl, sym, ap, ◌∙◌}
use mathlib.Core.Bool.{Bool, true, false}
use mathlib.Core.List.{List, [], ◌∷◌, ◌++◌, append_assoc}
use lib.ListN.{length, get_or, drop}
use lib.Seq.{drop-append_seam}
use Rattle.text.specs.Decimal.{decimal}
use Rattle.text.specs.Text.{ascii, space, line_feed, field, phrase, refused_line, element_line, closing_line, accepted_text}
use Rattle.text.specs.Lines.{lines_in}
use Rattle.text.proofs.DecimalLaws.{Every, Digit, decimal-digits, decimal-only}
use Rattle.text.proofs.TextLaws.{accepted-count, accepted-at, accepted-last}
use Rattle.numbers.specs.Bits.{bit}

-- Digits up to the first byte that is none.
cut-only : (xs ys r s : List ℕ) (end : ℕ) → (Digit end → ⊥) → Every Digit xs → Every Digit ys → xs ++ (end ∷ r) ≡ ys ++ (end ∷ s)
    → (xs ≡ ys) × (r ≡ s)
unfolding Every
cut-only [] [] r s end h p q e = (refl, cc)
cut-only [] (y ∷ ys) r s end h p q e = let d : y ≡ end = cc in absurd (h (omega (arith, q.0), omega (arith, q.0)))
cut-only (x ∷ xs) [] r s end h p q e = let d : x ≡ end = cc in absurd (h (omega (arith, p.0), omega (arith, p.0)))
cut-only (x ∷ xs) (y ∷ ys) r s end h p q e =
    let t : xs ++ (end ∷ r) ≡ ys ++ (end ∷ s) = cc in
    let d : x ≡ y = cc in
    let w = cut-only xs ys r s end h p.1 q.1 t in
    (let v = w.0 in cc, w.1)

-- A field says its number, whatever stands behind it.
field-only : (end : ℕ) → (Digit end → ⊥) → (m n : ℕ) (r s : List ℕ) → field m end ++ r ≡ field n end ++ s → (m ≡ n) × (r ≡ s)
unfolding field
field-only end h m n r s e =
    let w = cut-only (decimal m) (decimal n) r s end h (decimal-digits m) (decimal-digits n)
    (sym (append_assoc (decimal m) (end ∷ []) r) ∙ e ∙ append_assoc (decimal n) (end ∷ []) s) in
    (decimal-only m n w.0, w.1)

last-only : (m n : ℕ) → field m line_feed ≡ field n line_feed → m ≡ n
unfolding field
last-only m n e = decimal-only m n (cut-only (decimal m) (decimal n) [] [] line_feed (λ d. omega arith) (decimal-digits m) (decimal-digits n) e).0

bit-only : (b c : Bool) → bit b ≡ bit c → b ≡ c
bit-only true true e = refl
bit-only true false e = absurd (omega arith)
bit-only false true e = absurd (omega arith)
bit-only false false e = refl

-- The line of an element says its number, its label, its level and its verdict.
element-only : {e e' l l' d d' : ℕ} {v v' : Bool} → element_line e l d v ≡ element_line e' l' d' v' → (e ≡ e') × (l ≡ l') × (d ≡ d') × (v ≡ v')
unfolding element_line
element-only {e} {e'} {l} {l'} {d} {d'} {v} {v'} p =
    let a = field-only space (λ w. omega arith) e e' _ _ p in
    let b = field-only space (λ w. omega arith) l l' _ _ a.1 in
    let c = field-only space (λ w. omega arith) d d' _ _ b.1 in
    (a.0, b.0, c.0, bit-only v v' (last-only (bit v) (bit v') c.1))

-- A phrase says its two numbers.
phrase-only : (first second : List ℕ) {x x' y y' : ℕ} → phrase first x second y ≡ phrase first x' second y' → (x ≡ x') × (y ≡ y')
unfolding phrase
phrase-only first second {x} {x'} {y} {y'} p =
    let a = field-only space (λ w. omega arith) x x' _ _ (sym (drop-append_seam first _) ∙ ap (drop (length first)) p ∙ drop-append_seam first _) in
    (a.0, last-only y y' (sym (drop-append_seam second _) ∙ ap (drop (length second)) a.1 ∙ drop-append_seam second _))

-- The line of a refusal says its number and its place.
pub refused-only : {n n' p p' : ℕ} → refused_line n p ≡ refused_line n' p' → (n ≡ n') × (p ≡ p')
unfolding refused_line
refused-only e = phrase-only (ascii "refused ") (ascii "at ") e

-- The closing line says how many are selected, and of how many.
closing-only : {s s' n n' : ℕ} → closing_line s n ≡ closing_line s' n' → (s ≡ s') × (n ≡ n')
unfolding closing_line
closing-only e = phrase-only (ascii "selected ") (ascii "of ") e

-- The text of an accepted report says how many elements there are, how many are selected, and each one's label, level and verdict.
pub accepted-only : (labels levels labels' levels' : List ℕ) (verdicts verdicts' : ℕ → Bool) {n n' s s' : ℕ}
    → accepted_text labels levels verdicts n s ≡ accepted_text labels' levels' verdicts' n' s'
    → (n ≡ n') × (s ≡ s')
    × ((k : ℕ) → k < n → (get_or labels k 0 ≡ get_or labels' k 0) × (get_or levels k 0 ≡ get_or levels' k 0) × (verdicts k ≡ verdicts' k))
accepted-only labels levels labels' levels' verdicts verdicts' {n} {n'} {s} {s'} e = (same, (closing-only last).0, each)
  where
    same : n ≡ n'
    same =
        omega (
          arith,
          sym (accepted-count labels levels verdicts n s)
              ∙ ap (λ (t : List ℕ). length (lines_in t)) e
              ∙ accepted-count labels' levels' verdicts' n' s',
        )

    last : closing_line s n ≡ closing_line s' n'
    last =
        sym (accepted-last labels levels verdicts n s)
        ∙ ap (λ (t : List ℕ). get_or (lines_in t) (suc n) []) e
        ∙ ap (λ (k : ℕ). get_or (lines_in (accepted_text labels' levels' verdicts' n' s')) (suc k) []) same
        ∙ accepted-last labels' levels' verdicts' n' s'

    each : (k : ℕ) → k < n → (get_or labels k 0 ≡ get_or labels' k 0) × (get_or levels k 0 ≡ get_or levels' k 0) × (verdicts k ≡ verdicts' k)
    each k h =
        let w = element-only
        (sym (accepted-at labels levels verdicts n s k h)
        ∙ ap (λ (t : List ℕ). get_or (lines_in t) (suc k) []) e
        ∙ accepted-at labels' levels' verdicts' n' s' k (omega (arith, same))) in
        (w.1, w.2, w.3)
