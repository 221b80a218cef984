-- The running tally: what one verdict makes of it, and when it is refused. Document 01, "Tally" and row 12.
-- Shuts out: a count that wraps; a refused tally that changes; a balance that a wrapping sum would pass.
-- Laws: proofs/Laws.antt. Assumes nothing.
use Rattle.std.specs.Prelude.{ℕ, ◌+◌, ◌≡◌, Bool, cond, not, ◌||◌, eqb, Result, Ok, Err}
use Rattle.tally.specs.declared.export.Tally.{Tally}
use Rattle.tally.specs.declared.export.NotCounted.{NotCounted}
use Rattle.tally.specs.declared.export.NotCounted.TheVariants.{AtLimit, OutOfBalance}

-- The tally is full: seen is the largest number of 32 bits.
abbrev pub Full : Tally → Type 0
Full t = t.seen ≡ 4294967295

-- The tally is in balance: seen is the exact sum of the others, of natural numbers.
abbrev pub Balanced : Tally → Type 0
Balanced t = t.seen ≡ t.selected + t.passed_over

-- The tally with one verdict more: seen rises by 1, and so does selected for a true verdict, or passed over for a false one.
unfoldable pub risen : Tally → Bool → Tally
risen t verdict =
    record {
      seen = t.seen + 1;
      selected = cond verdict (t.selected + 1) t.selected;
      passed_over = cond verdict t.passed_over (t.passed_over + 1);
    }

-- ==== Working definitions: nothing below has to be believed

-- The tally is full, or seen is not the sum of the others: the exact sum, of natural numbers.
unfoldable pub tally_refused : Tally → Bool
tally_refused t = eqb t.seen 4294967295 || not (eqb t.seen (t.selected + t.passed_over))

-- What counting a verdict comes to: none is counted where the tally is full, nor else where it is out of balance; else there is one verdict more.
unfoldable pub counted : Tally → Bool → Result Tally NotCounted
counted t verdict =
    cond (eqb t.seen 4294967295) (Err AtLimit)
    (cond (eqb t.seen (t.selected + t.passed_over)) (Ok (risen t verdict)) (Err OutOfBalance))

-- What a verdict as C passes it says: 0 is false, anything else is true.
abbrev pub truth_of : ℕ → Bool
truth_of verdict = not (eqb verdict 0)

-- What counting a verdict answers, and the tally afterwards: 12 and the tally as it was, or 0 and the tally with one verdict more.
-- Promised of the tally that is altered where it stands; the one that is taken and returned comes to the same (law: `counted-tallied`).
pub record Tallied (t : Tally) (verdict : Bool) (number : ℕ) (after : Tally) : Type 0 where
  pub number_is : number ≡ cond (tally_refused t) 12 0
  pub tally_is : after ≡ cond (tally_refused t) t (risen t verdict)
