-- `word_at`: the eight bytes, the low one first. Assumes nothing.
use Prim.Native.Nat.{◌+◌}
use native.Mathlib.Omega.{arith}
use mathlib.Core.Path.{◌≡◌, ◌∙◌}
use Rattle.numbers.specs.Bytes.{word_at}
use Rattle.state.proofs.bytes.word_at.Goals as goal

pub returns : goal.returns
unfolding word_at
returns c =
    let at = c.args.at in
    let two : at + 1 + 1 ≡ at + 2 = omega arith in
    let three : at + 2 + 1 ≡ at + 3 = omega arith in
    let four : at + 3 + 1 ≡ at + 4 = omega arith in
    let five : at + 4 + 1 ≡ at + 5 = omega arith in
    let six : at + 5 + 1 ≡ at + 6 = omega arith in
    let seven : at + 6 + 1 ≡ at + 7 = omega arith in
    c.from_le_bytes.ensures ∙ rw (two, three, four, five, six, seven) (omega arith)
