use Prim.Native.Nat.{ℕ, ◌<◌}
use native.Mathlib.Omega.{arith}
use mathlib.Core.Bool.{Bool, true, false, cond}
use lib.Dec.{eqb}
use Rattle.fields.specs.Fields.{root_after}
use Rattle.state.specs.Layout.{place_from, stored, width_in}
use Rattle.state.specs.Stores.{closed_bytes}
use Rattle.fields.proofs.FieldLaws.{with-bit-own}
use Rattle.state.proofs.places.store_closing.Goals as goal

root-small : (d r : ℕ) → r < 65536 → root_after d r < 65536
unfolding root_after
root-small d r h = go (eqb d 0) where
  go : (b : Bool) → cond b 1 r < 65536
  go true = omega arith
  go false = h

pub put_number-requires-2-clause-fits : goal.put_number-requires-2-clause-fits
put_number-requires-2-clause-fits c = rw c.root_after.ensures (root-small c.args.d c.number_at-root.result c.number_at-root.ensures.1)

pub returns : goal.returns
unfolding closed_bytes stored width_in place_from
returns c =
    rw (
      c.put_number-2.ensures,
      c.root_after.ensures,
      c.put_number.ensures,
      c.put_word-2.ensures,
      c.put_word.ensures,
      c.with_bit.ensures,
      with-bit-own c.args.d _ _ c.requires,
      c.number_at-root.ensures.0,
      c.word_at-presence.ensures,
      c.word_at-w.ensures,
    )
