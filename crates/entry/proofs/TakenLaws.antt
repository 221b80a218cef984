-- Laws of one record of a rule: one for each way through its tests, and what it is taken for.
-- Assumes nothing.
use Prim.Native.Nat.{ℕ, ◌+◌, ◌*◌, ◌≤◌, ◌<◌}
use native.Mathlib.Omega.{arith}
use borrow.Author.Tests.{le-leb, lt-leb, leb-false}
use mathlib.Core.Path.{◌≡◌, refl, sym, ap, ◌∙◌}
use mathlib.Core.Bool.{Bool, true, false, cond}
use mathlib.Core.List.{List}
use lib.Dec.{leb}
use lib.ListN.{length}
use Rattle.terms.specs.Frame.{frame_of, kind_at, broken, next_of, Frame, Whole, Cut, Garbled}
use Rattle.terms.specs.Kinds.{row_of}
use Rattle.entry.specs.Entry.{entry_of, entry_at, misdirected, rule_fault}
use Rattle.entry.specs.Taken.{EntryTaken, EntryJudged}
use Rattle.std.specs.Prelude.{Result, Ok, Err}
use Rattle.terms.specs.declared.refusal.Fault.{Fault}
use Rattle.terms.specs.Answer.{number_of_fault}
use Rattle.terms.proofs.FaultLaws.{fault-number-some}
use Rattle.terms.specs.declared.kind.Row.{Row}
use Rattle.entry.specs.declared.entry.Entry.{Entry}
use Rattle.entry.specs.declared.entry.Taken.{Taken}
use Rattle.terms.proofs.FrameLaws.{Stands, frame-few, whole-stands}
use Rattle.terms.proofs.Rows.{row-measured}
use Rattle.terms.specs.Limits.{entries_most}

-- A whole record has room for the numbers of its body.
pub stands-room : (s : List ℕ) (at k : ℕ) → Stands s at (row_of k).length → at + 4 + 2 * (row_of k).arguments ≤ length s
stands-room s at k st = omega (arith, st.ends, (row-measured k st.known).long)

-- The record at an offset, as entry `own`, with the row that its kind has.
module _ (s : List ℕ) (own at : ℕ) where
  -- A 65th entry begins.
  pub rule-full : entries_most ≤ own → 4 ≡ rule_fault s own at
  unfolding rule_fault
  rule-full h = simp (le-leb entries_most own h)

  -- Fewer than 4 bytes left.
  pub rule-few : own < entries_most → length s < at + 4 → 2 ≡ rule_fault s own at
  unfolding rule_fault
  rule-few l h = simp (lt-leb entries_most own l, frame-few s at (row_of (kind_at s at)).length h)

  module _ (row : Row) (is : row ≡ row_of (kind_at s at)) where
    frame_is : (f : Frame) → f ≡ frame_of s at row.length → frame_of s at (row_of (kind_at s at)).length ≡ f
    frame_is f e = ap (λ (r : Row). frame_of s at r.length) (sym is) ∙ sym e

    -- The record is not whole.
    pub rule-broken : own < entries_most → (f : Frame) → f ≡ frame_of s at row.length → broken f ≡ true → 2 ≡ rule_fault s own at
    unfolding rule_fault
    rule-broken l f e b = simp (lt-leb entries_most own l, frame_is f e, b)

    -- The record is whole: what its entry is decides.
    pub rule-whole : own < entries_most → Whole ≡ frame_of s at row.length
        → cond (misdirected row.numbers row.arguments own (entry_of row s at)) 3 0 ≡ rule_fault s own at
    unfolding rule_fault entry_at
    rule-whole l e = rw (is, lt-leb entries_most own l, ← (rw is at e))

    pub rule-room : Whole ≡ frame_of s at row.length → at + 4 + 2 * row.arguments ≤ length s
    rule-room e = rw is (stands-room s at (kind_at s at) (whole-stands s at (row_of (kind_at s at)).length (sym (rw is at e))))

-- A record with no fault is whole and is not a 65th entry.
pub rule-sound : (s : List ℕ) (own at : ℕ) → rule_fault s own at ≡ 0 → (own < entries_most) × Stands s at (row_of (kind_at s at)).length
unfolding rule_fault
rule-sound s own at e =
    go (leb entries_most own) (frame_of s at (row_of (kind_at s at)).length) (misdirected (row_of (kind_at s at)).numbers (row_of (kind_at s at)).arguments own (entry_at s at)) refl refl e
  where
    go : (full : Bool) (f : Frame) (wrong : Bool) → leb entries_most own ≡ full → frame_of s at (row_of (kind_at s at)).length ≡ f
        → ◌≡◌ {A = ℕ} (cond full 4 (cond (broken f) 2 (cond wrong 3 0))) 0 → (own < entries_most) × Stands s at (row_of (kind_at s at)).length
    go true f wrong p q z = absurd (omega arith)
    go false Whole wrong p q z = (leb-false entries_most own p, whole-stands s at (row_of (kind_at s at)).length q)
    go false Cut wrong p q z = absurd (omega arith)
    go false Garbled wrong p q z = absurd (omega arith)

-- ---- what a record is taken for

-- A record is whole where the test of its frame gives no number, and where it gives one that is row 2's.
pub frame-fine : (f : Frame) → ◌≡◌ {A = ℕ} 0 (cond (broken f) 2 0) → Whole ≡ f
frame-fine Whole e = refl
frame-fine Cut e = absurd (omega arith)
frame-fine Garbled e = absurd (omega arith)

pub frame-faulty : (f : Frame) (x : Fault) → number_of_fault x ≡ cond (broken f) 2 0 → (number_of_fault x ≡ 2) × (broken f ≡ true)
frame-faulty Whole x e = absurd (fault-number-some x e)
frame-faulty Cut x e = (e, refl)
frame-faulty Garbled x e = (e, refl)

-- Row 3's number, by a test.
abbrev three : Bool → ℕ
three b = cond b 3 0

module _ (s : List ℕ) (own at : ℕ) where
  -- A whole record: its entry decides.
  pub taken-whole : (row : Row) → row ≡ row_of (kind_at s at) → own < entries_most → Whole ≡ frame_of s at row.length
      → (e : Entry) (next : ℕ) (r : Result Taken Fault) → e ≡ entry_of row s at → next ≡ at + 2 + row.length
      → EntryJudged row own e next r → EntryTaken s own at r
  unfolding next_of entry_at
  taken-whole row is l w e next (Ok t) p q (fine, entry, on) = (
    sym (sym (ap three fine) ∙ ap (λ (x : Entry). three (misdirected row.numbers row.arguments own x)) p ∙ rule-whole s own at row is l w),
    entry ∙ p ∙ ap (λ (x : Row). entry_of x s at) is,
    on ∙ q ∙ ap (λ (n : ℕ). at + 2 + n) (sym (whole-stands s at row.length (sym w)).long),
  )
  taken-whole row is l w e next (Err f) p q (wrong, is_three) = is_three ∙ sym (ap three wrong) ∙ ap (λ (x : Entry). three (misdirected row.numbers row.arguments own x)) p ∙ rule-whole s own at row is l w
