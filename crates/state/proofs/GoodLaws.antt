-- The test for bad states lets a state through exactly where no clause of the document applies. Assumes nothing.
use Prim.Native.Nat.{ℕ}
use mathlib.Core.Path.{◌≡◌, refl}
use mathlib.Core.Bool.{Bool, true, false, ◌||◌}
use mathlib.Core.List.{List}
use mathlib.Core.Logic.{◌↔◌}
use lib.ListN.{length, get_or}
use Rattle.numbers.proofs.First.{clash}
use Rattle.fields.proofs.FieldLaws.{size-iff, good-fields-iff}
use Rattle.state.specs.State.{depth_in, elements_in, root_in, bad, Good}

neither : (a b : Bool) → (a || b) ≡ false → (a ≡ false) × (b ≡ false)
neither true b e = clash refl e
neither false b e = (refl, e)

-- A state is not bad exactly where it is good.
pub good-iff : (s : List ℕ) → (bad s ≡ false) ↔ Good s
unfolding bad
good-iff s =
    let fields = good-fields-iff (depth_in s) (elements_in s) (root_in s) (get_or s 6 0) (get_or s 7 0) in (
      λ e. let n = neither _ _ e in record { long = (size-iff (length s)).0 n.0; fair = fields.0 n.1 },
      λ g. rw ((size-iff (length s)).1 g.long, fields.1 g.fair),
    )
