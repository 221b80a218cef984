-- Working definitions: nothing here has to be believed.
-- What seeing entry n of a rule makes of a visitor of the walk: the bits of an element that opens, and whether an entry looks ahead.
-- Laws: proofs/WalkLaws.antt. Assumes nothing.
use Rattle.std.specs.Prelude.{ℕ, ◌*◌, ◌^◌, not, ◌||◌}
use Rattle.std.specs.Int.Bits.{bit_or}
use Rattle.numbers.specs.Bits.{bit, in_word}
use Rattle.terms.specs.Kinds.{looks_back, shape_of}
use Rattle.entry.specs.declared.entry.Entry.{Entry}
use Rattle.meaning.specs.OnePass.{step_bit}
use Rattle.walk.specs.declared.visitors.Stepping.{Stepping}
use Rattle.walk.specs.declared.visitors.Looking.{Looking}

-- Entry n's bit joins the bits before it; numbers count round the word, and no rule has an entry past its last bit.
abbrev pub stepped : Stepping → ℕ → Entry → Stepping
stepped v n e =
    record {
      label = v.label;
      parent = v.parent;
      sibling = v.sibling;
      ahead = v.ahead || not (looks_back e.kind);
      word = bit_or v.word (bit (step_bit (shape_of e.kind) e.a e.b n v.label v.word v.parent v.sibling) * 2 ^ in_word n);
    }

abbrev pub looked : Looking → ℕ → Entry → Looking
looked v n e = record { ahead = v.ahead || not (looks_back e.kind) }
