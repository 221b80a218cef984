-- Laws of bytes put into a lent list: none, one, those of two in a row, the turns of the loop, and the text at the front.
-- Assumes nothing.
use Prim.Native.Nat.{ℕ, suc, ◌+◌, ◌-◌, ◌≤◌}
use native.Mathlib.Omega.{arith}
use native.Mathlib.Nat.{add-zero, zero-add}
use mathlib.Core.Path.{◌≡◌, refl, sym, ap, subst, ◌∙◌}
use mathlib.Core.Bool.{Bool}
use mathlib.Core.List.{List, [], ◌∷◌, ◌++◌, flatten}
use lib.ListN.{length, get_or, set, take, drop, length-append}
use lib.Seq.{sets, sets-eq}
use borrow.Rule.Slice.PartMut.{put_mid}
use Rattle.std.proofs.Common.{append_assoc}
use Rattle.std.proofs.lemmas.List.{drop-drop}
use Rattle.text.specs.Text.{header_line, element_line, closing_line, element_lines, accepted_text}
use Rattle.text.proofs.TextLaws.{elements-more, accepted-is}
use Rattle.text.specs.Rendered.{buffer_size, Put, Rendered}
use Rattle.text.specs.Writing.{Writes}
use Rattle.text.specs.declared.put.Writer.{Writer}
use Rattle.numbers.specs.Lists.{listed, put_at}

-- Nothing is put.
pub put-none : (out : List ℕ) (at : ℕ) → Put [] out at (at + 0) out
unfolding put_at
put-none out at = record { next_is = refl; bytes_are = refl }

-- One byte.
pub put_one : (b : ℕ) (out : List ℕ) (at : ℕ) → Put (b ∷ []) out at (at + 1) (set out at b)
unfolding put_at
put_one b out at = record { next_is = refl; bytes_are = refl }

-- A word that is copied to its place, between what stands before it and what stands behind it.
pub put_copied : {word out ys : List ℕ} {at : ℕ} → at + length word ≤ length out → ys ≡ word
    → Put word out at (at + length word) (put_mid at (at + length word - at) out ys)
unfolding put_at
put_copied {word} {out} {ys} {at} h e =
    let n : at + (at + length word - at) ≡ at + length word = omega arith in
    record {
      next_is = refl;
      bytes_are = rw e (ap (λ (xs : List ℕ). take at out ++ (word ++ xs)) (drop-drop (at + length word - at) at out ∙ ap (λ (k : ℕ). drop k out) n)
          ∙ sym (append_assoc (take at out) word (drop (at + length word) out)) ∙ sym (sets-eq word out at h));
    }

sets-append : (xs ys out : List ℕ) (at : ℕ) → sets (sets out at xs) (at + length xs) ys ≡ sets out at (xs ++ ys)
sets-append [] ys out at = ap (λ (k : ℕ). sets out k ys) (add-zero at)
sets-append (x ∷ xs) ys out at =
    let e : at + suc (length xs) ≡ suc at + length xs = omega arith in
    ap (λ (k : ℕ). sets (sets (set out at x) (suc at) xs) k ys) e ∙ sets-append xs ys (set out at x) (suc at)

-- Bytes, and then others behind them.
pub put_then : {xs ys out mid after : List ℕ} {at r s : ℕ} → Put xs out at r mid → Put ys mid r s after → Put (xs ++ ys) out at s after
unfolding put_at
put_then {xs} {ys} {out} {mid} {after} {at} {r} {s} p q =
    record {
      next_is = omega (arith, p.next_is, q.next_is, length-append xs ys);
      bytes_are = q.bytes_are
          ∙ ap (λ (l : List ℕ). sets l r ys) p.bytes_are
          ∙ ap (λ (k : ℕ). sets (sets out at xs) k ys) p.next_is
          ∙ sets-append xs ys out at;
    }

-- The same, as other bytes.
pub put_as : {xs ys out after : List ℕ} {at r : ℕ} → xs ≡ ys → Put xs out at r after → Put ys out at r after
put_as {xs} {ys} {out} {after} {at} {r} e p = subst (λ (l : List ℕ). Put l out at r after) e p

-- The writer's bytes, and then others behind them.
pub writes_then : {xs ys : List ℕ} {w mid after : Writer} → Writes xs w mid → Writes ys mid after → Writes (xs ++ ys) w after
writes_then p q = record { put = put_then p.put q.put; same_buffer = q.same_buffer ∙ p.same_buffer }

-- The same, as other bytes.
pub writes_as : {xs ys : List ℕ} {w after : Writer} → xs ≡ ys → Writes xs w after → Writes ys w after
writes_as e p = record { put = put_as e p.put; same_buffer = p.same_buffer }

-- No element's line has been put.
pub elements-none : (labels levels : List ℕ) (verdicts : ℕ → Bool) (w : Writer) → Writes (flatten (element_lines labels levels verdicts 0)) w w
unfolding element_lines listed flatten put_at
elements-none labels levels verdicts w = record { put = record { next_is = sym (add-zero w.at); bytes_are = refl }; same_buffer = refl }

-- One turn of the loop over the elements: the lines of the first k have been put, and element k's is.
pub elements-turn : (labels levels : List ℕ) (verdicts : ℕ → Bool) {w mid after : Writer} {k : ℕ} {verdict : Bool} → verdict ≡ verdicts k
    → Writes (flatten (element_lines labels levels verdicts k)) w mid
    → Writes (element_line k (get_or labels k 0) (get_or levels k 0) verdict) mid after
    → Writes (flatten (element_lines labels levels verdicts (k + 1))) w after
elements-turn labels levels verdicts {k = k} v p q = writes_as (rw v (sym (elements-more labels levels verdicts k))) (writes_then p q)

-- A text that is written from the front of a buffer that has room for it.
pub writes-rendered : {text after : List ℕ} {w end : Writer} → w.at ≡ 0 → length text ≤ buffer_size → Writes text w end → end.out.now ≡ after
    → Rendered text w.out.now end.at after
writes-rendered {text} {w = w} z h p e = record {
  length_is = p.put.next_is ∙ ap (λ (k : ℕ). k + length text) z ∙ zero-add (length text);
  fits = h;
  bytes_are = sym e ∙ p.put.bytes_are ∙ ap (λ (k : ℕ). put_at w.out.now k text) z;
}

-- The header, the elements' lines and the closing line written one behind the other are the text of an accepted report.
pub accepted-rendered : (labels levels : List ℕ) (verdicts : ℕ → Bool) (selected : ℕ) {k n : ℕ} {after : List ℕ} {w a b end : Writer} → k ≡ n → w.at ≡ 0
    → Writes header_line w a → Writes (flatten (element_lines labels levels verdicts k)) a b → Writes (closing_line selected k) b end
    → end.at ≤ buffer_size → end.out.now ≡ after → Rendered (accepted_text labels levels verdicts n selected) w.out.now end.at after
accepted-rendered labels levels verdicts selected {k} {n} {w = w} {end = end} e z p q r h o =
    let all = writes_as
    (sym (accepted-is labels levels verdicts k selected) ∙ ap (λ (i : ℕ). accepted_text labels levels verdicts i selected) e)
    (writes_then p (writes_then q r)) in
    writes-rendered z (omega (arith, all.put.next_is)) all o

-- The promise of a public function determines the length and every byte of the buffer.
pub rendered-only : {text out : List ℕ} {r r' : ℕ} {a a' : List ℕ} → Rendered text out r a → Rendered text out r' a' → (r ≡ r') × (a ≡ a')
rendered-only p q = (p.length_is ∙ sym q.length_is, p.bytes_are ∙ sym q.bytes_are)
