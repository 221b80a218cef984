-- `find_words`: one law for each way out. Assumes nothing.
use Rattle.std.specs.Prelude.{Ok, Err}
use Rattle.state.proofs.NumberLaws.{front-of, unread-size, unread-bad, unread-full, words-there}
use Rattle.state.proofs.state.find_words.Goals as goal

pub returns-in_err-bytes : goal.returns-in_err-bytes
returns-in_err-bytes c = let h = c.in_err-bytes.ensures in rw c.from_residual.ensures (unread-size _ h.cases)

pub returns-in_default : goal.returns-in_default
returns-in_default c = let h = c.in_ok-bytes.ensures.cases in unread-bad _ h.long (front-of (Err c.in_default.field-0) h.same c.in_default.ensures)

pub returns-then-front-ge-LEVELS_MOST : goal.returns-then-front-ge-LEVELS_MOST
returns-then-front-ge-LEVELS_MOST c =
    let h = c.in_ok-bytes.ensures.cases in
    unread-full _ h.long (front-of (Ok c.in-Ok.front) h.same c.in-Ok.ensures) c.if-front-ge-LEVELS_MOST.true

pub returns : goal.returns
returns c =
    let h = c.in_ok-bytes.ensures.cases in
    let f = front-of (Ok c.in-Ok.front) h.same c.in-Ok.ensures in
    words-there _ h.long f c.if-front-ge-LEVELS_MOST.false (rw (← h.same) c.parent_word.ensures) (rw (← h.same) c.sibling_word.ensures)
