-- Working definitions: nothing here has to be believed.
-- Parents and previous siblings as functions that compute, found from the levels.
-- Laws: proofs/Links.antt says that they are those of the relations Child and Next. Assumes nothing.
use Rattle.std.specs.Prelude.{ℕ, zero, suc, cond, List, leb, ltb, eqb, length, get_or}
use Rattle.std.proofs.Math.Option.{Option, none, some}
use Rattle.terms.specs.declared.kind.Axis.{Axis}
use Rattle.terms.specs.declared.kind.Axis.TheVariants.{Child as child, Parent as to_parent, Next as next, Previous as to_previous}

-- The last element before s whose level is at most d.
unfoldable pub last_up_to : List ℕ → ℕ → ℕ → Option ℕ
last_up_to levels d zero = none
last_up_to levels d (suc s) = cond (leb (get_or levels s 0) d) (some s) (last_up_to levels d s)

-- That element, if its level is d itself.
unfoldable pub if_level : List ℕ → ℕ → Option ℕ → Option ℕ
if_level levels d none = none
if_level levels d (some t) = cond (eqb (get_or levels t 0) d) (some t) none

-- The parent of an element on a level: the last element before it that is one level up; on level 0 there is none.
unfoldable pub parent_at : List ℕ → ℕ → ℕ → Option ℕ
parent_at levels zero s = none
parent_at levels (suc d) s = if_level levels d (last_up_to levels d s)

-- The parent of s, and its previous sibling: the last element before s that is not below it, if that is on its level.
unfoldable pub parent : List ℕ → ℕ → Option ℕ
parent levels s = cond (ltb s (length levels)) (parent_at levels (get_or levels s 0) s) none

unfoldable pub previous : List ℕ → ℕ → Option ℕ
previous levels s = cond (ltb s (length levels)) (if_level levels (get_or levels s 0) (last_up_to levels (get_or levels s 0) s)) none

-- What an axis is found by: child and parent by the parent of an element, next and previous by its previous sibling.
unfoldable pub link : List ℕ → Axis → ℕ → Option ℕ
link levels child = parent levels
link levels to_parent = parent levels
link levels next = previous levels
link levels to_previous = previous levels

-- There is such an element, and P holds at it.
abbrev pub At : Option ℕ → (ℕ → Type 0) → Type 0
At none P = ⊥
At (some t) P = P t
