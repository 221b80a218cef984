use Rattle.state.specs.Layout.{place_from, stored, width_in}
use Rattle.state.specs.Stores.{opened_bytes}
use Rattle.state.proofs.places.store_opening.Goals as goal

pub returns : goal.returns
unfolding opened_bytes stored width_in place_from
returns c =
    rw (c.put_number-2.ensures, c.put_number.ensures, c.put_word-2.ensures, c.put_word.ensures, c.cleared_below.ensures, c.word_at-presence.ensures)
