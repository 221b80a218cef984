-- Laws of the walk that checks a report and fills the columns of its elements at once: what it knows between two turns, whatever the
-- report is answered in the end; and bounds on the answer. Assumes nothing.
use Prim.Native.Nat.{ℕ, zero, suc, ◌+◌, ◌-◌, ◌≤◌, ◌<◌}
use native.Mathlib.Omega.{arith}
use mathlib.Core.Path.{◌≡◌, refl, sym, ap, subst, ◌∙◌}
use mathlib.Core.Bool.{Bool, true, false, cond, ◌||◌, ◌&&◌}
use mathlib.Core.List.{List, [], ◌∷◌, ◌++◌, append-nil}
use lib.ListN.{length, set}
use Rattle.terms.specs.Answer.{Accepts, Answer, Refused, number_of_fault}
use Rattle.terms.specs.Frame.{start_of, kind_at}
use Rattle.tag.specs.Tags.{labels, levels, levels_from, Tag, opens, closes, depth, opened_count, tag_fault, end_of}
use Rattle.tag.specs.Record.{tag_at, record_fault}
use Rattle.terms.specs.declared.refusal.Fault.{Fault}
use Rattle.std.specs.Prelude.{Ok}
use Rattle.tag.specs.Taken.{TagTaken, tag_of}
use Rattle.tag.specs.declared.tag.Tag.{Tag as CodeTag}
use Rattle.tag.specs.declared.tag.Tag.TheVariants.{Opening, Closing}
use Rattle.terms.proofs.FaultLaws.{fault-number-some}
use Rattle.reports.specs.Report.{report_answer, tags_of, tags_before, report_fault, report_stops, report_answer_at, last_record}
use borrow.Author.Tests.{lt-ltb, le-ltb}
use lib.Dec.{ltb, eqb}
use Rattle.numbers.specs.Bytes.{number_at}
use Rattle.terms.proofs.Reading.{mid-ended, mid-faulty, stops-not, mid-reached}
use Rattle.tag.proofs.RecordLaws.{opens-kind, closes-kind, record-sound, open-sound, opens-size, closes-size}
use Rattle.reports.proofs.ReportLaws.{ReportMid, report-start, fault-is, tags-after, report-next, report-opens, report-open, report-closes, report-ends, report-refuses, report-empty, report-long}
use Rattle.tag.proofs.TagLaws.{labels_append, levels-append, levels-count, opened-append}
use Rattle.terms.specs.Limits.{report_most, elements_most}
use Rattle.numbers.proofs.First.{first-before}
use Rattle.reports.specs.Elements.{labels_of, levels_of, tags_read, ElementsTaken}
use Rattle.numbers.specs.Lists.{listed, over}
use Rattle.numbers.proofs.Lists.{over_none, over-next}
use Rattle.terms.proofs.AnswerLaws.{found-accepted, Within, within-either, refused-within, accepted-within, within-size}

-- A column with one value more behind the others.
element-put : (xs more lent held last : List ℕ) (e v : ℕ) → length xs ≡ e → more ≡ xs ++ (v ∷ []) → held ≡ over xs lent → last ≡ set held e v
    → last ≡ over more lent
element-put xs more lent held last e v n m p q =
    q ∙ ap (λ (ys : List ℕ). set ys e v) p ∙ over-next xs lent v e n ∙ ap (λ (ys : List ℕ). over ys lent) (sym m)

-- The labels and levels of an accepted report, and of a refused one.
pub labels-taken : (s : List ℕ) → Accepts (report_answer s) → labels_of s ≡ labels (tags_of s)
unfolding labels_of
labels-taken s a = found-accepted (report_answer s) (labels (tags_of s)) a

pub levels-taken : (s : List ℕ) → Accepts (report_answer s) → levels_of s ≡ levels (tags_of s)
unfolding levels_of
levels-taken s a = found-accepted (report_answer s) (levels (tags_of s)) a

-- The same place, said in another way.
moved : {s : List ℕ} {i at d e : ℕ} (at' : ℕ) → at ≡ at' → ReportMid s i at d e → ReportMid s i at' d e
moved {s} {i} {at} {d} {e} at' q m = subst (λ (x : ℕ). ReportMid s i x d e) q m

-- What is known of a tag that the code names and takes.
module _ (s : List ℕ) (at d e : ℕ) {t : CodeTag} where
  pub opening-taken : {l : ℕ} → t ≡ Opening l → TagTaken s at d e (Ok t) → (record_fault s at d e ≡ 0) × (opens l ≡ tag_at s at)
  opening-taken is (f, q) = (f, sym (ap tag_of is) ∙ q)

  pub closing-taken : t ≡ Closing → TagTaken s at d e (Ok t) → (record_fault s at d e ≡ 0) × (closes ≡ tag_at s at)
  closing-taken is (f, q) = (f, sym (ap tag_of is) ∙ q)

-- Between two turns: the reader's counters, and the columns of the elements opened so far.
pub record WalkMid (s labels₀ levels₀ labels₁ levels₁ : List ℕ) (i at d e : ℕ) : Type 0 where
  pub mid : ReportMid s i at d e
  pub labels_are : labels₁ ≡ over (labels (tags_before s i)) labels₀
  pub levels_are : levels₁ ≡ over (levels (tags_before s i)) levels₀

module _ (s labels₀ levels₀ : List ℕ) where
  pub walk_start : WalkMid s labels₀ levels₀ labels₀ levels₀ 0 0 0 0
  unfolding listed labels levels_from
  walk_start = record { mid = report-start s; labels_are = sym (over_none labels₀); levels_are = sym (over_none levels₀) }

  module _ {labels₁ levels₁ : List ℕ} {i at d e : ℕ} (m : WalkMid s labels₀ levels₀ labels₁ levels₁ i at d e) where
    module _ (on : at < length s) where
      ne : at ≡ length s → ⊥
      ne q = omega arith

      -- The tag in hand is an opening with no fault.
      module _ (l : ℕ) (t : (record_fault s at d e ≡ 0) × (opens l ≡ tag_at s at)) where
        kind-one : eqb (kind_at s at) 1 ≡ true
        kind-one = opens-kind s at l t.1

        labels-more : labels (tags_before s (i + 1)) ≡ labels (tags_before s i) ++ (l ∷ [])
        unfolding labels
        labels-more =
            ap labels (tags-after s m.mid ne t.0) ∙ labels_append (tags_before s i) (tag_at s at ∷ []) ∙ rw (← t.1)

        levels-more : levels (tags_before s (i + 1)) ≡ levels (tags_before s i) ++ (d ∷ [])
        unfolding levels_from
        levels-more =
            ap levels (tags-after s m.mid ne t.0) ∙ levels-append 0 (tags_before s i) (tag_at s at ∷ [])
            ∙ rw (← t.1, m.mid.depth_is)

        -- It has 6 bytes.
        six : at + 2 + number_at s at ≡ at + 6
        six = omega (arith, opens-size s at d e t.0 kind-one)

        pub opening-within : at + 6 ≤ length s
        opening-within = omega (arith, report-next s m.mid t.0, six)

        -- One turn: its label and level stand behind the others.
        pub walk-opens : {labels₂ levels₂ : List ℕ} → labels₂ ≡ set labels₁ e l → levels₂ ≡ set levels₁ e d
            → WalkMid s labels₀ levels₀ labels₂ levels₂ (i + 1) (at + 6) (d + 1) (e + 1)
        walk-opens p q =
            record {
              mid = moved (at + 6) six (report-opens s m.mid ne t.0 kind-one);
              labels_are = element-put (labels (tags_before s i)) _ labels₀ labels₁ _ e _ m.mid.opened_is labels-more m.labels_are p;
              levels_are = element-put (levels (tags_before s i)) _ levels₀ levels₁ _ e _ (levels-count 0 (tags_before s i) ∙ m.mid.opened_is)
                  levels-more m.levels_are q;
            }

      -- The tag in hand is a closing with no fault.
      module _ (t : (record_fault s at d e ≡ 0) × (closes ≡ tag_at s at)) where
        kind-other : eqb (kind_at s at) 1 ≡ false
        kind-other = closes-kind s at t.1

        labels-same : labels (tags_before s (i + 1)) ≡ labels (tags_before s i)
        unfolding labels
        labels-same =
            ap labels (tags-after s m.mid ne t.0) ∙ labels_append (tags_before s i) (tag_at s at ∷ [])
            ∙ rw (← t.1) (append-nil (labels (tags_before s i)))

        levels-same : levels (tags_before s (i + 1)) ≡ levels (tags_before s i)
        unfolding levels_from
        levels-same =
            ap levels (tags-after s m.mid ne t.0) ∙ levels-append 0 (tags_before s i) (tag_at s at ∷ [])
            ∙ rw (← t.1) (append-nil (levels (tags_before s i)))

        -- It has 4 bytes, and finds an element open.
        four : at + 2 + number_at s at ≡ at + 4
        four = omega (arith, closes-size s at d e t.0 kind-other)

        pub closing-within : (at + 4 ≤ length s) × (0 < d)
        closing-within = (omega (arith, report-next s m.mid t.0, four), report-open s m.mid ne t.0 kind-other)

        pub walk-closes : WalkMid s labels₀ levels₀ labels₁ levels₁ (i + 1) (at + 4) (d - 1) e
        walk-closes =
            record {
              mid = moved (at + 4) four (report-closes s m.mid ne t.0 kind-other);
              labels_are = m.labels_are ∙ ap (λ (xs : List ℕ). over xs labels₀) (sym labels-same);
              levels_are = m.levels_are ∙ ap (λ (xs : List ℕ). over xs levels₀) (sym levels-same);
            }

    module _ (some : 1 ≤ length s) (few : length s ≤ report_most) where
      read_is : last_record s ≡ i → tags_read s ≡ tags_before s i
      unfolding tags_read
      read_is q = rw (le-ltb (length s) 1 some, le-ltb report_most (length s) few, q)

      -- Where the walk stops, the columns hold the elements of all tags read.
      stopped : last_record s ≡ i → {r : Answer} → r ≡ report_answer s → ElementsTaken s labels₀ levels₀ r labels₁ levels₁
      stopped q a = record { answer = a; labels_are = rw (read_is q) m.labels_are; levels_are = rw (read_is q) m.levels_are }

      -- It stops where the report ends ..
      pub walk-ended : length s ≤ at → {r : Answer} → r ≡ end_of (length s) d e → ElementsTaken s labels₀ levels₀ r labels₁ levels₁
      unfolding report_stops
      walk-ended o a =
          let q : at ≡ length s = omega (arith, m.mid.mid.within) in
          stopped (mid-ended s (report_fault s) m.mid.mid q (length s) (omega (arith, m.mid.mid.slow)))
          (a ∙ report-ends s m.mid some few q)

      -- .. or at a record that has a fault.
      pub walk_refused : at < length s → (f : Fault) → number_of_fault f ≡ record_fault s at d e
          → ElementsTaken s labels₀ levels₀ (Refused (number_of_fault f) at) labels₁ levels₁
      unfolding report_stops
      walk_refused on f is =
          let ne : (at ≡ length s → ⊥) = λ q. omega arith in
          let wrong : (record_fault s at d e ≡ 0 → ⊥) = λ z. fault-number-some f (is ∙ z) in
          stopped
          (mid-faulty s (report_fault s) m.mid.mid ne (λ z. wrong (sym (fault-is s m.mid) ∙ z)) (length s) (omega (arith, m.mid.mid.slow)))
          (ap (λ (k : ℕ). Refused k at) is ∙ report-refuses s m.mid some few ne wrong)

  -- Where nothing is read the columns stay: a report of no byte, or of too many.
  kept : tags_read s ≡ [] → Refused 5 0 ≡ report_answer s → ElementsTaken s labels₀ levels₀ (Refused 5 0) labels₀ levels₀
  unfolding labels levels_from
  kept e a = record { answer = a; labels_are = rw e (sym (over_none labels₀)); levels_are = rw e (sym (over_none levels₀)) }

  pub read-empty : length s < 1 → ElementsTaken s labels₀ levels₀ (Refused 5 0) labels₀ levels₀
  unfolding tags_read
  read-empty h = kept (rw (lt-ltb (length s) 1 h)) (report-empty s h)

  pub read-long : report_most < length s → ElementsTaken s labels₀ levels₀ (Refused 5 0) labels₀ levels₀
  unfolding tags_read
  read-long h = kept (rw (le-ltb (length s) 1 (omega arith), lt-ltb report_most (length s) h)) (report-long s h)

-- The tags read of an accepted report are its tags.
read_all : (s : List ℕ) → Accepts (report_answer s) → tags_read s ≡ tags_of s
unfolding tags_read report_answer
read_all s a = go (ltb (length s) 1 || ltb report_most (length s)) a
  where
    go : (big : Bool) → Accepts (cond big (Refused 5 0) (report_answer_at s (last_record s))) → cond big [] (tags_of s) ≡ tags_of s
    go true z = absurd z
    go false z = refl

pub taken-lists : (s : List ℕ) → Accepts (report_answer s) → (labels (tags_read s) ≡ labels_of s) × (levels (tags_read s) ≡ levels_of s)
taken-lists s a = (ap labels (read_all s a) ∙ sym (labels-taken s a), ap levels (read_all s a) ∙ sym (levels-taken s a))

-- ---- a report

module _ (s : List ℕ) where
  -- Records with no fault open at most 4,096 elements.
  opened-few : (i : ℕ) → ((j : ℕ) → j < i → report_stops s j ≡ false) → opened_count (tags_before s i) ≤ elements_most
  unfolding listed report_stops report_fault labels
  opened-few zero h = omega arith
  opened-few (suc i) h =
      let f = (stops-not s (report_fault s) i (h i (omega arith))).1 in
      let before = opened-few i (λ j l. h j (omega arith)) in
      let t = (record-sound s (start_of s i) (depth (tags_before s i)) (opened_count (tags_before s i)) f).1 in
      omega (arith, opened-append (tags_before s i) (tag_at s (start_of s i) ∷ []), more (tag_at s (start_of s i)) before t)
    where
      more : (t : Tag) → opened_count (tags_before s i) ≤ elements_most
          → tag_fault (depth (tags_before s i)) (opened_count (tags_before s i)) (eqb (depth (tags_before s i)) 0 && ltb 0 (opened_count (tags_before s i))) t ≡ 0
          → opened_count (tags_before s i) + opened_count (t ∷ []) ≤ elements_most
      more (opens l) b z = omega (arith, (open-sound _ _ l _ z).1)
      more closes b z = omega arith

  -- The record at which reading a report stops begins within the report.
  report-stop : start_of s (last_record s) ≤ length s
  unfolding report_stops report_fault
  report-stop =
      (mid-reached s (report_fault s)
      (λ i f. let r = (record-sound s (start_of s i) (depth (tags_before s i)) (opened_count (tags_before s i)) f).0 in omega (arith, r.ends, r.long))
      (last_record s) (first-before (report_stops s) (length s))
      ).within

  report-end-within : Within (length s) elements_most (report_answer_at s (last_record s))
  unfolding report_answer_at end_of
  report-end-within =
      within-either (length s) elements_most _ _ (eqb (start_of s (last_record s)) (length s))
      (within-either (length s) elements_most _ _ (eqb (depth (tags_before s (last_record s))) 0)
      (accepted-within (length s) elements_most _ (opened-few (last_record s) (first-before (report_stops s) (length s))))
      (refused-within (length s) elements_most 7 (length s) (omega arith)))
      (refused-within (length s) elements_most (report_fault s (last_record s)) (start_of s (last_record s)) report-stop)

  -- And its place is at most 40,960.
  pub report-small : Within report_most elements_most (report_answer s)
  unfolding report_answer
  report-small = within-size (length s) report_most elements_most 5 _ report-end-within
