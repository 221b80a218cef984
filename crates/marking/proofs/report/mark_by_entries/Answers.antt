-- `mark_by_entries`: the report's refusal first, then 9 where there is no room, then the marking's words. Assumes nothing.
use Rattle.std.proofs.Common.{rules}
use mathlib.Core.Path.{ap}
use Rattle.terms.specs.Answer.{answered}
use Rattle.layout.specs.Layout.{room_in}
use Rattle.marking.proofs.AnswerLaws.{room-short, room-enough, room-for-within, by-refused, by-short, by-room, held, columns-held}
use Rattle.marking.proofs.report.mark_by_entries.Goals as goal

pub returns-in_err-n : goal.returns-in_err-n
returns-in_err-n c = let e = by-refused c.args.entries.now c.args.marks.now c.lay_out.ensures _ (ap answered c.in_err-n.was) in search rules

pub returns-then-lacks_room : goal.returns-then-lacks_room
unfolding room_in
returns-then-lacks_room c =
    let short = room-short c.args.marks.now c.lay_out.ensures _ _ c.lacks_room.ensures c.if-lacks_room.true in
    rw c.at.ensures (by-short _ _ c.lay_out.ensures (ap answered c.in_ok-n.was) short)

pub mark_elements-selected-requires : goal.mark_elements-selected-requires
unfolding room_in
mark_elements-selected-requires c =
    let p = c.args in
    let h = room-enough c.args.marks.now c.lay_out.ensures _ _ c.lacks_room.ensures c.if-lacks_room.false in
    let e = held p.marks.now c.lay_out.ensures (ap answered c.in_ok-n.was) h in
    let room = room-for-within p.labels.now p.levels.now p.ups.now p.lefts.now p.marks.now _ h in
    record {
      rule_entries = c.requires;
      columns = (_, columns-held e);
      n_in_bounds = (e.labels_room, e.ups_room, e.lefts_room, room.1);
    }

pub returns : goal.returns
unfolding room_in
returns c =
    let h = room-enough c.args.marks.now c.lay_out.ensures _ _ c.lacks_room.ensures c.if-lacks_room.false in
    let e = held c.args.marks.now c.lay_out.ensures (ap answered c.in_ok-n.was) h in
    by-room _ _ c.lay_out.ensures (ap answered c.in_ok-n.was) h (c.mark_elements-selected.ensures _ (columns-held e))
