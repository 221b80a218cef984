-- `write_rule` starts the writer with nothing written. Assumes nothing.
use Rattle.typing.proofs.Whole.{whole-asks, whole-puts}
use Rattle.typing.proofs.write.write_rule.Goals as goal

pub write-requires : goal.write-requires
write-requires c =
    let p = c.requires in
    (p.0, (p.1.0, p.1.1, whole-asks c.args.rule.now p.1.0 p.1.2 p.1.3))

pub returns : goal.returns
returns c =
    λ t x. whole-puts c.args.rule.now t (c.write.ensures t x)
