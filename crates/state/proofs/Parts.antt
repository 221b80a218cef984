-- Bytes that are copied to their place, between what stands before them and what stands behind them. Assumes nothing.
use Prim.Native.Nat.{ℕ, ◌+◌, ◌-◌, ◌≤◌}
use native.Mathlib.Omega.{arith}
use mathlib.Core.Path.{◌≡◌, sym, ap, ◌∙◌}
use mathlib.Core.List.{List, ◌++◌}
use lib.ListN.{length, take, drop}
use lib.Seq.{sets-eq}
use borrow.Rule.Slice.PartMut.{put_mid}
use Rattle.std.proofs.Common.{append_assoc}
use Rattle.std.proofs.lemmas.List.{drop-drop}
use Rattle.numbers.specs.Lists.{put_at}

pub put-part : (s xs : List ℕ) (at : ℕ) → at + length xs ≤ length s → put_mid at (at + length xs - at) s xs ≡ put_at s at xs
unfolding put_at
put-part s xs at h =
    let n : at + (at + length xs - at) ≡ at + length xs = omega arith in
    ap (λ (ys : List ℕ). take at s ++ (xs ++ ys)) (drop-drop (at + length xs - at) at s ∙ ap (λ (k : ℕ). drop k s) n)
    ∙ sym (append_assoc (take at s) xs (drop (at + length xs) s))
    ∙ sym (sets-eq xs s at h)
