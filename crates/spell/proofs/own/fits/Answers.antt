-- `fits` makes the one test before a part is put. Assumes nothing.
use Rattle.spell.specs.Promises.{written}
use Rattle.spell.proofs.PartLaws.{fits-is}
use Rattle.spell.proofs.own.fits.Goals as goal

pub returns : goal.returns
returns c =
    let a = c.args in
    fits-is a.form a.room (written a.entries a.bytes) c.own_entries.ensures c.own_bytes.ensures c.saturating_sub.ensures
