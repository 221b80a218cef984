-- Laws of one record of a report: one for each way through its tests, what it is taken for, and what a record with no fault tells.
-- Assumes nothing.
use Prim.Native.Nat.{ℕ, zero, suc, ◌+◌, ◌≤◌, ◌<◌}
use native.Mathlib.Omega.{arith}
use borrow.Author.Tests.{eq-eqb, ne_eqb, eqb-true, eqb-false, leb-false}
use mathlib.Core.Path.{◌≡◌, refl, sym, ap, ◌∙◌}
use mathlib.Core.Bool.{Bool, true, false, cond, ◌||◌, ◌&&◌}
use mathlib.Core.List.{List}
use lib.Dec.{leb, ltb, eqb}
use lib.ListN.{length}
use Rattle.numbers.specs.Bytes.{number_at}
use Rattle.terms.specs.Frame.{frame_of, kind_at, broken, Frame, Whole, Cut, Garbled}
use Rattle.tag.specs.Tags.{Tag, opens, closes, tag_fault}
use Rattle.tag.specs.Record.{report_length, tag_at, record_fault}
use Rattle.tag.specs.Taken.{label_of, label_at}
use Rattle.std.specs.Prelude.{Option, None, Some}
use Rattle.terms.proofs.FrameLaws.{Stands, frame-few, frame-unknown, frame-wrong, frame_past, frame-whole, whole-stands}
use Rattle.terms.specs.Limits.{elements_most, levels_most, outside}

module _ (s : List ℕ) (at : ℕ) where
  -- Which tag stands there goes by the kind.
  pub tag-opens : eqb (kind_at s at) 1 ≡ true → tag_at s at ≡ opens (number_at s (at + 4))
  unfolding tag_at
  tag-opens e = rw e

  pub tag-closes : eqb (kind_at s at) 1 ≡ false → tag_at s at ≡ closes
  unfolding tag_at
  tag-closes e = rw e

  -- And the kind by the tag.
  pub opens-kind : (l : ℕ) → opens l ≡ tag_at s at → eqb (kind_at s at) 1 ≡ true
  unfolding tag_at
  opens-kind l = go (eqb (kind_at s at) 1)
    where
      go : (b : Bool) → opens l ≡ cond b (opens (number_at s (at + 4))) closes → b ≡ true
      go true e = refl
      go false e = cc

  pub closes-kind : closes ≡ tag_at s at → eqb (kind_at s at) 1 ≡ false
  unfolding tag_at
  closes-kind = go (eqb (kind_at s at) 1)
    where
      go : (b : Bool) → closes ≡ cond b (opens (number_at s (at + 4))) closes → b ≡ false
      go true e = cc
      go false e = refl

  -- The length of each kind's record.
  pub length-opens : kind_at s at ≡ 1 → report_length (kind_at s at) ≡ 4
  unfolding report_length
  length-opens k = ap report_length k

  pub length-closes : kind_at s at ≡ 2 → report_length (kind_at s at) ≡ 2
  unfolding report_length
  length-closes k = ap report_length k

  pub length_none : (kind_at s at ≡ 1 → ⊥) → (kind_at s at ≡ 2 → ⊥) → report_length (kind_at s at) ≡ 0
  unfolding report_length
  length_none k l = rw (ne_eqb (kind_at s at) 1 k, ne_eqb (kind_at s at) 2 l)

  pub opening-there : kind_at s at ≡ 1 → (l : ℕ) → l ≡ number_at s (at + 4) → tag_at s at ≡ opens l
  opening-there k l q = tag-opens (eq-eqb (kind_at s at) 1 k) ∙ ap opens (sym q)

  pub closing-there : kind_at s at ≡ 2 → tag_at s at ≡ closes
  closing-there k = tag-closes (ne_eqb (kind_at s at) 1 (λ z. omega arith))

  module _ (depth elements : ℕ) where
    -- The number that the record gets, and the label that it names.
    abbrev Told : ℕ → Option ℕ → Type 0
    Told number label = (number ≡ record_fault s at depth elements) × (label ≡ label_at s at)

    -- Fewer than 4 bytes left.
    pub record-few : length s < at + 4 → Told 6 None
    unfolding record_fault label_at
    record-few h = let e = frame-few s at (report_length (kind_at s at)) h in (simp e, simp e)

    -- The record is not whole.
    record-broken : (f : Frame) → f ≡ frame_of s at (report_length (kind_at s at)) → broken f ≡ true → Told 6 None
    unfolding record_fault label_at
    record-broken f e b = (simp (sym e, b), simp (sym e, b))

    -- The record is whole: its tag decides.
    record-whole : Whole ≡ frame_of s at (report_length (kind_at s at))
        → Told (tag_fault depth elements (eqb depth 0 && ltb 0 elements) (tag_at s at)) (label_of (tag_at s at))
    unfolding record_fault label_at
    record-whole e = (rw (← e), rw (← e))

    -- The same by the length that the record's kind has: no such kind, another length, past the end, none of these.
    module _ (n : ℕ) (is : report_length (kind_at s at) ≡ n) (room : at + 4 ≤ length s) where
      frame-by : (f : Frame) → frame_of s at n ≡ f → f ≡ frame_of s at (report_length (kind_at s at))
      frame-by f e = sym (ap (frame_of s at) is ∙ e)

      pub record-unknown : n ≡ 0 → Told 6 None
      record-unknown z = record-broken Garbled (frame-by Garbled (frame-unknown s at n room z)) refl

      pub record-wrong : (n ≡ 0 → ⊥) → (number_at s at ≡ n → ⊥) → Told 6 None
      record-wrong z e = record-broken Garbled (frame-by Garbled (frame-wrong s at n room z e)) refl

      pub record-past : (n ≡ 0 → ⊥) → number_at s at ≡ n → length s < at + 2 + n → Told 6 None
      record-past z e p = record-broken Cut (frame-by Cut (frame_past s at n room z e p)) refl

      record-fits : (n ≡ 0 → ⊥) → number_at s at ≡ n → at + 2 + n ≤ length s → (t : Tag) → tag_at s at ≡ t
          → Told (tag_fault depth elements (eqb depth 0 && ltb 0 elements) t) (label_of t)
      record-fits z e p t q = rw q at record-whole (frame-by Whole (frame-whole s at n room z e p))

    -- A whole opening, and a whole closing: what the tag is answered, and the label.
    pub record-opens : kind_at s at ≡ 1 → at + 4 ≤ length s → number_at s at ≡ 4 → at + 6 ≤ length s → (l : ℕ) → l ≡ number_at s (at + 4)
        → Told (tag_fault depth elements (eqb depth 0 && ltb 0 elements) (opens l)) (Some l)
    record-opens k room e p l q =
        record-fits 4 (length-opens k) room (λ z. omega arith) e (omega arith) (opens l) (opening-there k l q)

    pub record-closes : kind_at s at ≡ 2 → at + 4 ≤ length s → number_at s at ≡ 2 → Told (tag_fault depth 0 false closes) None
    unfolding tag_fault
    record-closes k room e = record-fits 2 (length-closes k) room (λ z. omega arith) e (omega arith) closes (closing-there k)

    -- A record with no fault is whole, and its tag has none.
    pub record-sound : record_fault s at depth elements ≡ 0
        → Stands s at (report_length (kind_at s at)) × (tag_fault depth elements (eqb depth 0 && ltb 0 elements) (tag_at s at) ≡ 0)
    unfolding record_fault
    record-sound e = go (frame_of s at (report_length (kind_at s at))) refl e
      where
        go : (f : Frame) → frame_of s at (report_length (kind_at s at)) ≡ f
            → cond (broken f) 6 (tag_fault depth elements (eqb depth 0 && ltb 0 elements) (tag_at s at)) ≡ 0
            → Stands s at (report_length (kind_at s at)) × (tag_fault depth elements (eqb depth 0 && ltb 0 elements) (tag_at s at) ≡ 0)
        go Whole q z = (whole-stands s at (report_length (kind_at s at)) q, z)
        go Cut q z = absurd (omega arith)
        go Garbled q z = absurd (omega arith)

-- An opening with no fault stays within the limits; a closing with none finds an element open.
pub open-sound : (d e l : ℕ) (c : Bool) → tag_fault d e c (opens l) ≡ 0 → (d < levels_most) × (e < elements_most)
unfolding tag_fault
open-sound d e l c z = go (outside l) c (leb levels_most d) (leb elements_most e) refl refl z
  where
    go : (o q p r : Bool) → leb levels_most d ≡ p → leb elements_most e ≡ r → ◌≡◌ {A = ℕ} (cond o 6 (cond q 7 (cond (p || r) 8 0))) 0 → (d < levels_most) × (e < elements_most)
    go true q p r a b z = absurd (omega arith)
    go false true p r a b z = absurd (omega arith)
    go false false true r a b z = absurd (omega arith)
    go false false false true a b z = absurd (omega arith)
    go false false false false a b z = (leb-false levels_most d a, leb-false elements_most e b)

pub close-sound : (d e : ℕ) (c : Bool) → tag_fault d e c closes ≡ 0 → 0 < d
unfolding tag_fault
close-sound zero e c z = absurd (omega arith)
close-sound (suc d) e c z = omega arith

-- A record with no fault has the length of its tag.
module _ (s : List ℕ) (at d e : ℕ) (f : record_fault s at d e ≡ 0) where
  pub opens-size : eqb (kind_at s at) 1 ≡ true → number_at s at ≡ 4
  opens-size k = (record-sound s at d e f).0.long ∙ length-opens s at (eqb-true (kind_at s at) 1 k)

  pub closes-size : eqb (kind_at s at) 1 ≡ false → number_at s at ≡ 2
  closes-size k = go (eqb (kind_at s at) 2) refl
    where
      go : (b : Bool) → eqb (kind_at s at) 2 ≡ b → number_at s at ≡ 2
      go true q = (record-sound s at d e f).0.long ∙ length-closes s at (eqb-true (kind_at s at) 2 q)
      go false q =
          absurd ((record-sound s at d e f).0.known (length_none s at (eqb-false (kind_at s at) 1 k) (eqb-false (kind_at s at) 2 q)))
