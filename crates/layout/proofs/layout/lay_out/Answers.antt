-- `lay_out`: what the reader leaves, and the links where every column has room. Assumes nothing.
use Rattle.std.proofs.Common.{rules}
use mathlib.Core.Path.{ap}
use Rattle.terms.specs.Answer.{answered}
use Rattle.layout.specs.Layout.{room_in}
use Rattle.layout.proofs.LayoutLaws.{laid-refused, laid-short, laid-ready, laid-linked}
use Rattle.layout.proofs.layout.lay_out.Goals as goal

pub returns-in_err-n : goal.returns-in_err-n
returns-in_err-n c = let e = laid-refused c.args.ups.now c.args.lefts.now c.read_elements.ensures (ap answered c.in_err-n.was) in search rules

pub link_first-requires : goal.link_first-requires
unfolding room_in
link_first-requires c =
    let r = laid-ready c.args.ups.now c.args.lefts.now c.read_elements.ensures (ap answered c.in_ok-n.was) _ c.least_of_four.ensures c.if-n-least_of_four.true in
    record { legal_levels = r.0; n_in_bounds = (r.1, r.2, r.3) }

pub returns-then-n-least_of_four : goal.returns-then-n-least_of_four
unfolding room_in
returns-then-n-least_of_four c = laid-linked _ _ c.read_elements.ensures (ap answered c.in_ok-n.was) _ c.least_of_four.ensures c.if-n-least_of_four.true c.link_first.ensures.ups_after c.link_first.ensures.lefts_after

pub returns-else-n-least_of_four : goal.returns-else-n-least_of_four
unfolding room_in
returns-else-n-least_of_four c = laid-short _ _ c.read_elements.ensures (ap answered c.in_ok-n.was) _ c.least_of_four.ensures c.if-n-least_of_four.false
