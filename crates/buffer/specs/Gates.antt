-- Working definitions: nothing here has to be believed.
-- What a gate puts into each word of a buffer. Nothing in it has to be believed: the promise of the crate marking cites none of it.
-- Shuts out: a word past the last marked. Laws: the crate marking says that these are the marks of kinds 1, 3, 4 and 5. Assumes nothing.
use Rattle.std.specs.Prelude.{ℕ, ◌*◌, ◌^◌, List, get_or}
use Rattle.std.specs.Int.Bits.{bit_or}
use Rattle.numbers.specs.Bits.{bit, in_word}
use Rattle.steps.specs.Steps.{gate_mark}
use Rattle.steps.specs.declared.gate.Gate.{Gate}

-- Word s with bit i set too, where the gate makes true of it.
abbrev pub gated_word : Gate → (i : ℕ) → List ℕ → (s : ℕ) → ℕ
gated_word gate i ws s = bit_or (get_or ws s 0) (bit (gate_mark gate (get_or ws s 0)) * 2 ^ in_word i)
