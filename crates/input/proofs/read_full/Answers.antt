-- `read_full`: what one read gives stands behind what was read before. Assumes nothing.
use Rattle.std.proofs.Common.{◌≡◌, ℕ, ◌+◌, ◌≤◌, List, ◌++◌, length, take, sym, ap, ◌∙◌, subst, arith, length-append}
use Rattle.std.proofs.lemmas.List.{take-append-le, length-take-le}
use Rattle.std.proofs.Math.Seq.{take-append-add}
use Rattle.std.proofs.KnownBytes.{Consumes-trans}
use Rattle.std.specs.Io.KnownBytes.{Consumes}
use Rattle.input.proofs.read_full.Goals as goal

-- The front with more behind it, cut where n of these are in.
front-more : (xs ys rest : List ℕ) (a n : ℕ) → a ≤ length xs → n ≤ length ys → take (a + n) (take a xs ++ (ys ++ rest)) ≡ take a xs ++ take n ys
front-more xs ys rest a n p q =
    ap (λ m. take (m + n) (take a xs ++ (ys ++ rest))) (sym (length-take-le a xs p)) ∙ take-append-add (take a xs) (ys ++ rest) n ∙ ap (λ l. take a xs ++ l) (take-append-le n ys rest q)

pub loop-done-preserved : goal.loop-done-preserved
loop-done-preserved g c =
    let l = c.loop-done in
    let n = c.in_ok-n.ensures in
    (simp length-append (omega (arith, length-take-le l.done l.buf l.invariant.0, n.bound.0)), subst (Consumes _ _) (sym (front-more l.buf c.read.new.buf _ l.done c.in_ok-n.n l.invariant.0 n.bound.0)) (Consumes-trans _ _ _ _ _ l.invariant.1 n.bytes.0))
