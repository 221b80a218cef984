-- What the split of the input comes to, branch by branch. Assumes nothing.
use Prim.Native.Nat.{ℕ, ◌+◌, ◌*◌, ◌-◌, ◌≤◌, ◌<◌}
use native.Mathlib.Omega.{arith}
use borrow.Author.Tests.{lt-ltb, le-ltb}
use mathlib.Core.Path.{◌≡◌, ap, ◌∙◌}
use mathlib.Core.List.{List}
use lib.ListN.{length, get_or, take, drop}
use Rattle.std.specs.Prelude.{Option, None, Some, MatchOption}
use Rattle.std.specs.Borrow.{Bor}
use Rattle.std.specs.List.{IsSplitAt}
use Rattle.std.proofs.lemmas.List.{get_or-take, drop-drop}
use Rattle.numbers.specs.Bytes.{word_at}
use Rattle.text.specs.Text.{refused_line}
use Rattle.text.specs.Rendered.{Rendered}
use Rattle.judge.specs.Input.{rule_in, report_in, rule_end, split_of, Parted}
use Rattle.judge.specs.Output.{printout_of_both, printout_at, printout_of}

-- An input of less than 2 bytes has no rule, ..
pub split-short : (s : List ℕ) → length s < 2 → split_of s ≡ None
unfolding split_of
split-short s h = rw (lt-ltb (length s) 2 h)

-- .. nor has one that ends before its rule does; ..
pub split-long : (s : List ℕ) → 2 ≤ length s → length s < rule_end s → split_of s ≡ None
unfolding split_of
split-long s h l = rw (le-ltb (length s) 2 h, lt-ltb (length s) (rule_end s) l)

-- .. any other has.
pub split-fits : (s : List ℕ) → 2 ≤ length s → rule_end s ≤ length s → split_of s ≡ Some (rule_end s)
unfolding split_of
split-fits s h l = rw (le-ltb (length s) 2 h, le-ltb (length s) (rule_end s) l)

-- What the two bytes in front say, read from them alone.
length-read : (s : List ℕ) {head : List ℕ} {n : ℕ} → head ≡ take 2 s → n ≡ get_or head 0 0 + 256 * get_or head 1 0 → 2 + n ≡ rule_end s
unfolding rule_end word_at
length-read s {head} {n} h e =
    let low : get_or head 0 0 ≡ get_or s 0 0 = rw h (get_or-take 2 s 0 0 (omega arith)) in
    let high : get_or head 1 0 ≡ get_or s 1 0 = rw h (get_or-take 2 s 1 0 (omega arith)) in
    omega (arith, e, low, high)

-- The input is cut behind its first two bytes, and the rest where they say.
pub parted-short : (s : List ℕ) {r : Option (Bor (List ℕ) × Bor (List ℕ))} → length s < 2 → r ≡ None → Parted s r
parted-short s h e = rw e (split-short s h)

pub parted-cut : (s : List ℕ) {head rest : List ℕ} {n : ℕ} (r : Option (Bor (List ℕ) × Bor (List ℕ))) → head ≡ take 2 s → rest ≡ drop 2 s
    → length rest + 2 ≡ length s → n ≡ get_or head 0 0 + 256 * get_or head 1 0
    → MatchOption r (length rest < n) (λ p. IsSplitAt rest n p.0.now p.1.now) → Parted s r
unfolding rule_in report_in
parted-cut s None h t l e m =
    let k = length-read s h e in
    split-long s (omega arith) (omega (arith, k))
parted-cut s {rest = rest} {n = n} (Some p) h t l e m =
    let k = length-read s h e in
    let d : rule_end s - 2 ≡ n = omega (arith, k) in
    (rule_end s, split-fits s (omega arith) (omega (arith, k, m.0)), rw (d, ← t) m.1, m.2 ∙ rw t (drop-drop n 2 s) ∙ ap (λ (i : ℕ). drop i s) k)

-- The printout of an input is that of its rule and its report where it has them, else refusal 1.
pub parted-printed : (s : List ℕ) {rule report out after : List ℕ} {n end : ℕ} → split_of s ≡ Some end → rule ≡ rule_in s end → report ≡ report_in s end
    → Rendered (printout_of_both rule report) out n after → Rendered (printout_of s) out n after
unfolding printout_at
parted-printed s e a b h = rw (e, ← a, ← b) h

pub unparted-printed : (s : List ℕ) {out after : List ℕ} {n : ℕ} → split_of s ≡ None → Rendered (refused_line 1 0) out n after → Rendered (printout_of s) out n after
unfolding printout_at
unparted-printed s e h = rw e h
