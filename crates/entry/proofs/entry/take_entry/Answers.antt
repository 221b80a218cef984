-- `take_entry` goes through the rows 4, 2, 3 in their order. Assumes nothing.
use Rattle.std.proofs.Common.{rules}
use native.Mathlib.Omega.{arith}
use mathlib.Core.Path.{◌≡◌, refl, ap, sym, ◌∙◌}
use Rattle.terms.specs.Answer.{number_of_fault}
use Rattle.terms.specs.Frame.{frame_of, Whole}
use Rattle.terms.specs.Kinds.{row_of}
use Rattle.terms.proofs.FrameLaws.{whole-stands}
use Rattle.entry.proofs.TakenLaws.{rule-full, rule-few, rule-broken, rule-room, taken-whole, frame-fine, frame-faulty}
use Rattle.entry.proofs.entry.take_entry.Goals as goal
use Rattle.entry.proofs.entry.take_entry.Goals.{In_ok-whole}

-- After the test of the frame: the record is whole.
is-whole : (c : In_ok-whole) → Whole ≡ frame_of c.args.s.now c.args.at c.row_of-row.result.length
is-whole c = frame-fine _ c.in_ok-whole.ensures

pub returns-then-full : goal.returns-then-full
unfolding number_of_fault
returns-then-full c = rule-full _ _ _ c.if-full.true

pub returns-then-s-lt4 : goal.returns-then-s-lt4
unfolding number_of_fault
returns-then-s-lt4 c = rule-few _ _ _ c.if-full.false (omega (arith, c.if-s-lt4.true))

pub returns-then-s-at : goal.returns-then-s-at
unfolding number_of_fault
returns-then-s-at c = rule-few _ _ _ c.if-full.false (omega (arith, c.if-s-at.true, c.if-s-lt4.false))

pub entry_of-requires : goal.entry_of-requires
entry_of-requires c = rule-room _ c.args.own _ _ (c.row_of-row.ensures ∙ ap row_of c.number_at.ensures) (is-whole (goal.at.entry_of-requires c).In_ok-whole)

pub overflow_add-at-3 : goal.overflow_add-at-3
overflow_add-at-3 c =
    let st = whole-stands _ _ _ (sym (is-whole (goal.at.overflow_add-at-3 c).In_ok-whole)) in omega (arith, st.ends)

pub returns-in_err-whole : goal.returns-in_err-whole
returns-in_err-whole c =
    let (two, b) = frame-faulty _ _ c.in_err-whole.ensures in
    let e = two ∙ rule-broken _ _ _ _ (c.row_of-row.ensures ∙ ap row_of c.number_at.ensures) c.if-full.false _ refl b in
    search rules

pub returns : goal.returns
returns c =
    taken-whole _ _ _ _ (c.row_of-row.ensures ∙ ap row_of c.number_at.ensures) c.if-full.false (is-whole (goal.at.returns c).In_ok-whole) _ _ _ c.entry_of.ensures
    refl c.whole_entry.ensures
