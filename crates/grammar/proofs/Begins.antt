-- Accepted reports and the bytes of tags: such a report is the bytes of its tags; where its bytes begin with those of some tags, its
-- tags begin with these; and all tags that fit go on to such a report. Assumes nothing.
use Prim.Native.Nat.{ℕ, zero, suc, ◌+◌, ◌≤◌, ◌<◌}
use native.Mathlib.Nat.{mod-lt}
use native.Mathlib.Omega.{arith}
use mathlib.Core.Path.{◌≡◌, refl, sym, ap, ◌∙◌}
use mathlib.Core.List.{List, [], ◌∷◌, ◌++◌}
use lib.ListN.{replicate}
use Rattle.terms.specs.Answer.{Accepted}
use Rattle.terms.specs.Limits.{label_most}
use Rattle.reports.specs.Report.{tags_of, report_answer}
use Rattle.tag.specs.Tags.{Tag, opens, closes, depth_from, depth, labels, opened_count}
use Rattle.tag.proofs.TagLaws.{depth-append}
use Rattle.numbers.specs.Bytes.{Bytes, two_bytes}
use Rattle.grammar.specs.Legal.{Fit, Legal}
use Rattle.grammar.specs.Reports.{Tree, size_t, tags_t, tag_bytes, bytes_of, Within}
use Rattle.grammar.proofs.Fits.{fit_append}
use Rattle.grammar.proofs.ReportBytes.{tags-begin, tags-are, accepted-tree, tree-accepted}
use Rattle.grammar.proofs.TagRows.{opens-well-iff, closes-well-iff}
use Rattle.grammar.proofs.Trees.{bytes-append, tree-legal, legal-tree}

-- ---- the tags of such a report

module _ (report : List ℕ) (n : ℕ) (bytes : Bytes report) (accepted : report_answer report ≡ Accepted n) where
  -- An accepted report is the bytes of its tags.
  pub report-bytes : bytes_of (tags_of report) ≡ report
  report-bytes = let t = accepted-tree report bytes n accepted in ap bytes_of (tags-are report t.0 t.1 t.2) ∙ sym t.1

  -- Where its bytes begin with those of some tags, its tags begin with these.
  pub report-begins : (us : List Tag) (rest : List ℕ) → bytes_of us ++ rest ≡ report → (more : List Tag) × (tags_of report ≡ us ++ more)
  report-begins us rest e = tags-begin us (tags_of report) rest (e ∙ sym report-bytes)

-- ---- the bytes of tags that fit are bytes

append-bytes : (xs ys : List ℕ) → Bytes xs → Bytes ys → Bytes (xs ++ ys)
append-bytes [] ys p q i = q i
append-bytes (x ∷ xs) ys p q zero = p zero
append-bytes (x ∷ xs) ys p q (suc i) = append-bytes xs ys (λ j. p (suc j)) q i

two-bytes : (n : ℕ) → n < 65536 → Bytes (two_bytes n)
unfolding two_bytes
two-bytes n h zero = mod-lt n (omega arith)
two-bytes n h (suc zero) = omega arith
two-bytes n h (suc (suc i)) = omega arith

opens-bytes : (l : ℕ) → l ≤ label_most → Bytes (tag_bytes (opens l))
unfolding tag_bytes
opens-bytes l h =
    append-bytes (two_bytes 4) _ (two-bytes 4 (omega arith)) (append-bytes (two_bytes 1) _ (two-bytes 1 (omega arith)) (two-bytes l (omega arith)))

closes-bytes : Bytes (tag_bytes closes)
unfolding tag_bytes
closes-bytes = append-bytes (two_bytes 2) _ (two-bytes 2 (omega arith)) (two-bytes 2 (omega arith))

-- The bytes of tags that get no number are bytes.
fit-bytes : (ts : List Tag) (d e : ℕ) → Fit d e ts → Bytes (bytes_of ts)
unfolding bytes_of Fit
fit-bytes [] d e f = λ i. omega arith
fit-bytes (opens l ∷ ts) d e f =
    append-bytes (tag_bytes (opens l)) (bytes_of ts) (opens-bytes l ((opens-well-iff d e l).0 f.0).small) (fit-bytes ts _ _ f.1)
fit-bytes (closes ∷ ts) d e f = append-bytes (tag_bytes closes) (bytes_of ts) closes-bytes (fit-bytes ts _ _ f.1)

-- So are those of a tree within the limits.
pub tree-bytes : (t : Tree) → Within t → Bytes (bytes_of (tags_t t))
tree-bytes t w = fit-bytes (tags_t t) 0 0 (tree-legal t w).fit

-- ---- tags that fit go on

closings-legal : (d e : ℕ) → Legal d e (replicate d closes)
unfolding Fit depth_from labels
closings-legal zero e = record { fit = tt; ended = refl }
closings-legal (suc d) e =
    let r = closings-legal d (e + 0) in record { fit = ((closes-well-iff (suc d) e).1 (omega arith), r.fit); ended = r.ended }

-- For all tags that fit, unless there is none, there is an accepted report whose bytes begin with theirs: close what is open.
pub fit-goes-on : (us : List Tag) → Fit 0 0 us → (us ≡ [] → ⊥)
    → (report : List ℕ) × (n : ℕ) × (rest : List ℕ) × Bytes report × (report_answer report ≡ Accepted n) × (bytes_of us ++ rest ≡ report)
fit-goes-on us f some =
    let ends = replicate (depth us) closes in
    let all = us ++ ends in
    let c = closings-legal (depth us) (0 + opened_count us) in
    let fit : Fit 0 0 all = (fit_append us ends 0 0).1 (f, c.fit) in
    let t = legal-tree all (record { fit = fit; ended = depth-append 0 us ends ∙ c.ended }) (none us ends some) in
    (bytes_of all, size_t t.0, bytes_of ends, fit-bytes all 0 0 fit, tree-accepted (bytes_of all) t.0 (ap bytes_of t.1) t.2, sym (bytes-append us ends))
  where
    none : (xs ys : List Tag) → (xs ≡ [] → ⊥) → xs ++ ys ≡ [] → ⊥
    none [] ys n e = n refl
    none (x ∷ xs) ys n e = let z : ◌≡◌ {A = ℕ} 0 1 = cc in omega arith
