-- `split` cuts the input behind its first two bytes, and the rest where they say. Assumes nothing.
use Rattle.judge.proofs.SplitLaws.{parted-short, parted-cut}
use Rattle.judge.proofs.split.split.Goals as goal

pub returns-in_err-length : goal.returns-in_err-length
returns-in_err-length c = let h = c.in_err-length.ensures in parted-short _ h.cases c.from_residual.ensures

pub returns : goal.returns
returns c =
    let h = c.in_ok-length.ensures in
    parted-cut _ _ h.cases.0 h.cases.1 h.cases.2 c.two_bytes.ensures.0 c.split_at_checked.ensures.cases
