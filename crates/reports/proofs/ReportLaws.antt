-- Laws of the report reader's progress from record to record, and of what it answers.
-- Assumes nothing.
use Prim.Native.Nat.{ℕ, ◌+◌, ◌-◌, ◌≤◌, ◌<◌}
use native.Mathlib.Omega.{arith}
use native.Mathlib.Numerals.{add-one, sub-one}
use borrow.Author.Tests.{lt-ltb, le-ltb, eq-eqb, ne_eqb}
use mathlib.Core.Path.{◌≡◌, refl, sym, ap, ◌∙◌}
use mathlib.Core.Bool.{true, false, ◌&&◌}
use mathlib.Core.List.{List, [], ◌∷◌, ◌++◌}
use lib.Dec.{ltb, eqb}
use lib.ListN.{length, length-append}
use Rattle.numbers.specs.Bytes.{number_at}
use Rattle.numbers.specs.First.{first}
use Rattle.terms.specs.Frame.{kind_at}
use Rattle.tag.specs.Tags.{Tag, opens, closes, depth_from, depth, labels, opened_count, tag_fault, end_of}
use Rattle.tag.specs.Record.{tag_at, record_fault}
use Rattle.reports.specs.Report.{tags_before, report_fault, report_stops, report_answer_at, report_answer}
use Rattle.terms.specs.Answer.{Refused}
use Rattle.tag.proofs.TagLaws.{depth-append, labels_append}
use Rattle.tag.proofs.RecordLaws.{tag-opens, tag-closes, record-sound, open-sound, close-sound}
use Rattle.terms.proofs.Reading.{Mid, mid_start, mid-turn, mid-ended, mid-faulty}
use Rattle.terms.specs.Limits.{elements_most, levels_most, report_most}
use Rattle.numbers.specs.Lists.{listed}

-- Between two turns: record i begins at the offset, and the counters tell what the tags before it leave open and have opened.
pub record ReportMid (s : List ℕ) (i at d e : ℕ) : Type 0 where
  pub mid : Mid s (report_fault s) i at
  pub depth_is : depth (tags_before s i) ≡ d
  pub opened_is : opened_count (tags_before s i) ≡ e
  pub shallow : d ≤ levels_most
  pub few : e ≤ elements_most

module _ (s : List ℕ) where
  pub report-start : ReportMid s 0 0 0 0
  unfolding listed depth_from labels
  report-start =
      record { mid = mid_start s (report_fault s); depth_is = refl; opened_is = refl; shallow = omega arith; few = omega arith }

  module _ {i at d e : ℕ} (m : ReportMid s i at d e) where
    pub fault-is : report_fault s i ≡ record_fault s at d e
    unfolding report_fault
    fault-is = rw (m.mid.begins, m.depth_is, m.opened_is)

    pub report-next : record_fault s at d e ≡ 0 → at + 2 + number_at s at ≤ length s
    report-next f = let r = (record-sound s at d e f).0 in omega (arith, r.ends, r.long)

    module _ (ne : at ≡ length s → ⊥) (f : record_fault s at d e ≡ 0) where
      after : Mid s (report_fault s) (i + 1) (at + 2 + number_at s at)
      after = mid-turn s (report_fault s) m.mid ne (fault-is ∙ f) (report-next f)

      pub tags-after : tags_before s (i + 1) ≡ tags_before s i ++ (tag_at s at ∷ [])
      unfolding listed
      tags-after =
          ap (tags_before s) (add-one i) ∙ ap (λ (x : ℕ). tags_before s i ++ (tag_at s x ∷ [])) m.mid.begins

      depth-after : (t : Tag) → tag_at s at ≡ t → depth (tags_before s (i + 1)) ≡ depth_from d (t ∷ [])
      depth-after t q =
          ap depth tags-after ∙ depth-append 0 (tags_before s i) (tag_at s at ∷ [])
          ∙ rw (m.depth_is, q)

      opened_after : (t : Tag) → tag_at s at ≡ t → opened_count (tags_before s (i + 1)) ≡ e + opened_count (t ∷ [])
      opened_after t q =
          ap opened_count tags-after ∙ ap length (labels_append (tags_before s i) (tag_at s at ∷ []))
          ∙ length-append (labels (tags_before s i)) (labels (tag_at s at ∷ [])) ∙ rw (m.opened_is, q)

      tag-fine : (t : Tag) → tag_at s at ≡ t → tag_fault d e (eqb d 0 && ltb 0 e) t ≡ 0
      tag-fine t q = rw q at (record-sound s at d e f).1

      -- An opening stays within the limits.
      pub report-room : eqb (kind_at s at) 1 ≡ true → (d < levels_most) × (e < elements_most)
      report-room k =
          open-sound d e (number_at s (at + 4)) (eqb d 0 && ltb 0 e) (tag-fine (opens (number_at s (at + 4))) (tag-opens s at k))

      -- After an opening.
      pub report-opens : eqb (kind_at s at) 1 ≡ true → ReportMid s (i + 1) (at + 2 + number_at s at) (d + 1) (e + 1)
      unfolding depth_from labels
      report-opens k =
          let t = tag-opens s at k in
          let l = report-room k in
          record {
            mid = after;
            depth_is = depth-after (opens (number_at s (at + 4))) t ∙ sym (add-one d);
            opened_is = opened_after (opens (number_at s (at + 4))) t;
            shallow = omega (arith, l.0);
            few = omega (arith, l.1);
          }

      -- A closing finds an element open.
      pub report-open : eqb (kind_at s at) 1 ≡ false → 0 < d
      report-open k = close-sound d e (eqb d 0 && ltb 0 e) (tag-fine closes (tag-closes s at k))

      -- After a closing.
      pub report-closes : eqb (kind_at s at) 1 ≡ false → ReportMid s (i + 1) (at + 2 + number_at s at) (d - 1) e
      unfolding depth_from labels
      report-closes k =
          record {
            mid = after;
            depth_is = depth-after closes (tag-closes s at k) ∙ sym (sub-one d);
            opened_is = opened_after closes (tag-closes s at k) ∙ omega arith;
            shallow = omega (arith, m.shallow);
            few = m.few;
          }

    module _ (some : 1 ≤ length s) (few : length s ≤ report_most) where
      answer_is : first (report_stops s) (length s) ≡ i → report_answer s ≡ report_answer_at s i
      unfolding report_answer
      answer_is q = rw (le-ltb (length s) 1 some, le-ltb report_most (length s) few, q)

      pub report-ends : at ≡ length s → end_of (length s) d e ≡ report_answer s
      unfolding report_stops report_answer_at
      report-ends q =
          sym
          (answer_is (mid-ended s (report_fault s) m.mid q (length s) (omega (arith, m.mid.slow, m.mid.within)))
          ∙ rw (m.mid.begins, eq-eqb at (length s) q, m.depth_is, m.opened_is))

      pub report-refuses : (at ≡ length s → ⊥) → (record_fault s at d e ≡ 0 → ⊥) → Refused (record_fault s at d e) at ≡ report_answer s
      unfolding report_stops report_answer_at
      report-refuses ne f =
          sym
          (answer_is (mid-faulty s (report_fault s) m.mid ne (λ z. f (sym fault-is ∙ z)) (length s) (omega (arith, m.mid.slow, m.mid.within)))
          ∙ rw (m.mid.begins, ne_eqb at (length s) ne, fault-is))

-- Row 5: no byte, or too many.
pub report-empty : (s : List ℕ) → length s < 1 → Refused 5 0 ≡ report_answer s
unfolding report_answer
report-empty s h = simp (lt-ltb (length s) 1 h)

pub report-long : (s : List ℕ) → report_most < length s → Refused 5 0 ≡ report_answer s
unfolding report_answer
report-long s h = simp (le-ltb (length s) 1 (omega arith), lt-ltb report_most (length s) h)
