-- How many bytes an accepted report has: ten for each element, six to open it and four to close it. For every list. Assumes nothing.
use Prim.Native.Nat.{ℕ, zero, suc, pred, ◌+◌, ◌*◌, ◌<◌}
use native.Mathlib.Omega.{arith}
use mathlib.Core.Path.{◌≡◌, refl, ap, ◌∙◌}
use mathlib.Core.Bool.{Bool, true, false, ◌&&◌}
use mathlib.Core.List.{List, [], ◌∷◌}
use lib.Dec.{ltb, eqb}
use lib.ListN.{length, length-append}
use Rattle.terms.specs.Frame.{kind_at, next_of, start_of}
use Rattle.tag.specs.Record.{tag_at}
use Rattle.reports.specs.Report.{tags_before, report_fault, report_answer}
use Rattle.tag.specs.Tags.{Tag, depth_from, depth, labels, opened_count}
use Rattle.terms.specs.Answer.{Accepted}
use Rattle.tag.proofs.RecordLaws.{tag-opens, tag-closes, record-sound, close-sound, opens-size, closes-size}
use Rattle.tag.proofs.TagLaws.{depth-append, labels_append}
use Rattle.grammar.proofs.WhenReport.{report-accepted-iff}
use Rattle.numbers.specs.Lists.{listed}

-- A closing takes four bytes, and four times the elements open is as much less.
closed-size : (at d e : ℕ) → at + 4 * d ≡ 10 * e → 0 < d → at + 4 + 4 * pred d ≡ 10 * e
closed-size at zero e q l = absurd (omega arith)
closed-size at (suc d) e q l = omega arith

module _ (s : List ℕ) where
  depth-next : (i : ℕ) (t : Tag) → tag_at s (start_of s i) ≡ t → depth (tags_before s (suc i)) ≡ depth_from (depth (tags_before s i)) (t ∷ [])
  unfolding listed
  depth-next i t q = depth-append 0 (tags_before s i) _ ∙ rw q

  opened-next : (i : ℕ) (t : Tag) → tag_at s (start_of s i) ≡ t → opened_count (tags_before s (suc i)) ≡ opened_count (tags_before s i) + opened_count (t ∷ [])
  unfolding listed
  opened-next i t q = ap length (labels_append (tags_before s i) _) ∙ length-append (labels (tags_before s i)) _ ∙ rw q

  -- One record more that gets no number.
  next-size : (i : ℕ) → start_of s i + 4 * depth (tags_before s i) ≡ 10 * opened_count (tags_before s i) → report_fault s i ≡ 0
      → start_of s (suc i) + 4 * depth (tags_before s (suc i)) ≡ 10 * opened_count (tags_before s (suc i))
  unfolding start_of next_of report_fault depth_from labels
  next-size i before fine = go (eqb (kind_at s at) 1) refl
    where
      at : ℕ
      at = start_of s i

      d : ℕ
      d = depth (tags_before s i)

      e : ℕ
      e = opened_count (tags_before s i)

      go : (b : Bool) → eqb (kind_at s at) 1 ≡ b → start_of s (suc i) + 4 * depth (tags_before s (suc i)) ≡ 10 * opened_count (tags_before s (suc i))
      go true k =
          let t = tag-opens s at k in
          omega (arith, before, opens-size s at d e fine k, depth-next i _ t, opened-next i _ t)
      go false k =
          let t = tag-closes s at k in
          let l : 0 < d = close-sound d e (eqb d 0 && ltb 0 e) (rw t at (record-sound s at d e fine).1) in
          omega (arith, closed-size at d e before l, closes-size s at d e fine k, depth-next i _ t, opened-next i _ t)

  -- Where the first i records get no number: ten bytes for each element opened, but for the four that will close each open one.
  start-size : (i : ℕ) → ((j : ℕ) → j < i → report_fault s j ≡ 0) → start_of s i + 4 * depth (tags_before s i) ≡ 10 * opened_count (tags_before s i)
  unfolding start_of listed depth_from labels
  start-size zero h = refl
  start-size (suc i) h = next-size i (start-size i (λ j l. h j (omega arith))) (h i (omega arith))

  -- An accepted report has ten bytes an element.
  pub accepted-size : (n : ℕ) → report_answer s ≡ Accepted n → length s ≡ 10 * n
  accepted-size n a =
      let h = ((report-accepted-iff s n).0 a).1 in
      omega (arith, start-size h.0 h.1.clean, h.1.at_end, h.2, h.3)
