-- The step table's word grows entry by entry; and on the meaning's words the table gives the meaning's word: an entry's bit is its
-- mark, from the bits of the entries before it, the parent's word and the previous sibling's. Assumes nothing.
use Prim.Native.Nat.{ℕ, zero, suc, ◌+◌, ◌*◌, ◌^◌, ◌≤◌, ◌<◌}
use native.Mathlib.Nat.{zero-div, pow-suc}
use native.Mathlib.Numerals.{add-one}
use native.Mathlib.Decide.{dec_lt}
use native.Mathlib.Omega.{arith}
use mathlib.Core.Path.{◌≡◌, refl, sym, ap, ◌∙◌}
use mathlib.Core.Bool.{Bool, true}
use mathlib.Core.List.{List, [], ◌∷◌, ◌++◌}
use mathlib.Core.Option.{Option, none, some}
use lib.ListN.{length, get_or, get_or-append}
use Rattle.entry.specs.declared.entry.Entry.{Entry}
use Rattle.numbers.proofs.First.{clash}
use Rattle.grammar.specs.Rules.{no_entry, RuleEntries, LooksBack}
use Rattle.grammar.proofs.Entries.{formed-a, formed-b}
use Rattle.terms.specs.declared.kind.Axis.{Axis}
use Rattle.terms.specs.declared.kind.Axis.TheVariants.{Child as child, Parent as to_parent, Next as next, Previous as to_previous}
use Rattle.meaning.specs.Tree.{direction}
use Rattle.meaning.specs.Links.{parent, previous, link}
use Rattle.terms.specs.declared.kind.Shape.{Shape}
use Rattle.terms.specs.declared.kind.Shape.TheVariants.{Nothing as nothing, Here as local, SomeAlong as some_along, UntilAlong as until_along, EveryChild as every_child}
use Rattle.terms.specs.Kinds.{row_of, shape_of, leads_back, shape_looks_back}
use Rattle.meaning.specs.Marks.{at, some_of, means_here, means, mark, word_of}
use Rattle.meaning.specs.OnePass.{word_to, step_bit, step_word}
use Rattle.meaning.proofs.Tests.{until-is}
use Rattle.meaning.proofs.Reflect.{axis-along}
use Rattle.meaning.proofs.OneStep.{mark-rule}
use Rattle.meaning.proofs.Words.{word_of-bit}
use Rattle.numbers.specs.Bits.{bit, bit_at, word}
use Rattle.numbers.proofs.BitLaws.{bit_le, word-bit}

-- ---- the word, entry by entry

-- The word of m entries has m bits.
pub step_small : (es : List Entry) (label p q m : ℕ) → step_word es label p q m < 2 ^ m
unfolding step_word
step_small es label p q zero = omega arith
step_small es label p q (suc m) = omega (
  arith,
  pow-suc 2 m,
  bit_le (step_bit (shape_of (get_or es m no_entry).kind) (get_or es m no_entry).a (get_or es m no_entry).b m label (step_word es label p q m) p q) (2 ^ m),
  step_small es label p q m,
)

-- Entries behind the first m play no part in their word.
step-prefix : (es fs : List Entry) (label p q m : ℕ) → m ≤ length es → step_word (es ++ fs) label p q m ≡ step_word es label p q m
unfolding step_word
step-prefix es fs label p q zero l = refl
step-prefix es fs label p q (suc m) l = rw (step_word, get_or-append es fs no_entry m (omega arith), step-prefix es fs label p q m (omega arith))

-- The entry behind all others is the last one.
last_entry : (es : List Entry) (e : Entry) → get_or (es ++ (e ∷ [])) (length es) no_entry ≡ e
last_entry [] e = refl
last_entry (x ∷ es) e = last_entry es e

-- One entry more: its bit is added above the others.
pub step-last : (es : List Entry) (e : Entry) (label p q n : ℕ) → length es ≡ n → (on : Bool) (w : ℕ) → w ≡ step_word es label p q n
    → on ≡ step_bit (shape_of e.kind) e.a e.b n label w p q → bit on * 2 ^ n + w ≡ step_word (es ++ (e ∷ [])) label p q (n + 1)
unfolding step_word
step-last es e label p q n l on w z f =
    let g : get_or (es ++ (e ∷ [])) n no_entry ≡ e = ap (λ (x : ℕ). get_or (es ++ (e ∷ [])) x no_entry) (sym l) ∙ last_entry es e in
    let h : step_word (es ++ (e ∷ [])) label p q n ≡ w = step-prefix es (e ∷ []) label p q n (omega arith) ∙ sym z in
    rw (add-one n, step_word, g, h, ← f)

-- ---- on the meaning's words

-- The word of an element that is found; 0 where there is none.
abbrev pub found_word : (ℕ → ℕ) → Option ℕ → ℕ
found_word W none = 0
found_word W (some t) = W t

module _ (entries : List Entry) (rule : RuleEntries entries) (back : LooksBack entries) (levels labels : List ℕ) where
  abbrev M : ℕ → ℕ → Bool
  M i s = mark levels labels entries i s

  abbrev W : ℕ → ℕ
  W s = word_of entries levels labels s

  found-bit : (o : Option ℕ) (i : ℕ) → i < length entries → bit_at (found_word W o) i ≡ at o (M i)
  found-bit none i l = rw zero-div
  found-bit (some t) i l = word_of-bit entries levels labels i t l

  -- Bit i of the word that an axis leads back to is the mark there.
  back-bit : (x : Axis) → leads_back x ≡ true → (s i : ℕ) → i < length entries
      → bit_at (word_to x (found_word W (parent levels s)) (found_word W (previous levels s))) i
      ≡ some_of (direction x) (length levels) (link levels x) (M i) s
  unfolding leads_back direction word_to some_of link
  back-bit child e s i l = clash e refl
  back-bit to_parent e s i l = found-bit (parent levels s) i l
  back-bit next e s i l = clash e refl
  back-bit to_previous e s i l = found-bit (previous levels s) i l

  module _ (s i a b : ℕ) (ls : s < length levels) (li : i < length entries) where
    abbrev w : ℕ
    w = word i (λ j. M j s)

    -- The step table's bit of a kind that looks back is what the kind means.
    step-means : (k : Shape) → shape_looks_back k ≡ true → (a < i) × (b < i) → mark levels labels entries i ≡ means levels labels k a (M a) (M b)
        → step_bit k a b i (get_or labels s 0) w (found_word W (parent levels s)) (found_word W (previous levels s))
        ≡ means levels labels k a (M a) (M b) s
    unfolding step_bit means shape_looks_back
    step-means nothing e p is = refl
    step-means (local k) e p is = rw (word-bit i a (λ j. M j s) p.0, word-bit i b (λ j. M j s) p.1)
    step-means (some_along x) e p is = back-bit x e s a (omega arith)
    step-means (until_along x) e p is =
        rw (word-bit i a (λ j. M j s) p.0, word-bit i b (λ j. M j s) p.1, back-bit x e s i li, is)
        (sym (until-is (axis-along levels x) (M a) (M b) s ls))
    step-means every_child e p is = clash e refl

    -- So it is for kinds 1 and 2, whatever a and b are.
    step-plain : (k : ℕ) → k < 3 → step_bit (shape_of k) a b i (get_or labels s 0) w (found_word W (parent levels s)) (found_word W (previous levels s))
        ≡ means levels labels (shape_of k) a (M a) (M b) s
    unfolding row_of step_bit means means_here
    step-plain zero l = refl
    step-plain (suc zero) l = refl
    step-plain (suc (suc zero)) l = refl
    step-plain (suc (suc (suc k))) l = absurd (omega arith)

  step-marks : (s : ℕ) → s < length levels → (m : ℕ) → m ≤ length entries
      → step_word entries (get_or labels s 0) (found_word W (parent levels s)) (found_word W (previous levels s)) m ≡ word m (λ i. M i s)
  unfolding step_word word
  step-marks s ls zero lm = refl
  step-marks s ls (suc m) lm =
      let e = get_or entries m no_entry in
      let is = mark-rule levels labels entries rule m lm in
      let f = rule.formed m lm in
      let one : step_bit (shape_of e.kind) e.a e.b m (get_or labels s 0) (word m (λ i. M i s)) (found_word W (parent levels s)) (found_word W (previous levels s))
      ≡ means levels labels (shape_of e.kind) e.a (M e.a) (M e.b) s =
      elim (dec_lt e.kind 3) [
        | yes l ↦ step-plain s m e.a e.b ls lm e.kind l
        | no l ↦ step-means s m e.a e.b ls lm (shape_of e.kind) (back m lm)
            (formed-a m e f (omega arith), formed-b m e f (omega arith)) is
      ] in rw (step-marks s ls m (omega arith), one, is)

  -- The step table gives the word of element s from its label, its parent's word and its previous sibling's.
  pub step-word : (s : ℕ) → s < length levels
      → step_word entries (get_or labels s 0) (found_word W (parent levels s)) (found_word W (previous levels s)) (length entries) ≡ W s
  unfolding word_of
  step-word s ls = step-marks s ls (length entries) (omega arith)
