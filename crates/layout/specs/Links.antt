-- Working definitions: nothing here has to be believed.
-- Parents and previous siblings as columns: a number for each element, its own where it has none.
-- Shuts out: a first child whose previous sibling is its parent; a cousin taken for a sibling.
-- Laws: proofs/LinkLaws.antt. Assumes nothing.
use Rattle.std.specs.Prelude.{ℕ, zero, suc, ◌≤◌, ◌<◌, ◌≡◌, cond, List, ltb, length, get_or}
use Rattle.std.proofs.Math.Option.{Option, none, some}
use Rattle.numbers.specs.Lists.{listed}
use Rattle.meaning.specs.Links.{parent, previous}

-- The number that stands at element s for where it leads: its own number for nowhere.
abbrev pub number_for : (s : ℕ) → Option ℕ → ℕ
number_for s none = s
number_for s (some t) = t

-- The numbers of the first n elements, where F leads from each.
unfoldable pub numbers_below : (F : ℕ → Option ℕ) → ℕ → List ℕ
numbers_below F n = listed n (λ s. number_for s (F s))

-- The parents of the elements with these levels, and their previous siblings.
unfoldable pub parents : List ℕ → List ℕ
parents levels = numbers_below (parent levels) (length levels)

unfoldable pub previous_siblings : List ℕ → List ℕ
previous_siblings levels = numbers_below (previous levels) (length levels)

-- ---- the same read backward: where a column leads

-- Where a number at element s leads: to the element of that number where it is below s, else nowhere.
abbrev pub leads_to : (s number : ℕ) → Option ℕ
leads_to s number = cond (ltb number s) (some number) none

-- Where a column leads from element s.
unfoldable pub leads : List ℕ → ℕ → Option ℕ
leads f s = leads_to s (get_or f s s)

-- The first k numbers of a column lead as F does, and none of them is past its own element.
pub record Leads (F : ℕ → Option ℕ) (k : ℕ) (f : List ℕ) : Type 0 where
  pub lead : (s : ℕ) → s < k → leads f s ≡ F s
  pub near : (s : ℕ) → s < k → get_or f s 0 ≤ s

-- The columns lead to parents and to previous siblings.
pub record Linked (levels ups lefts : List ℕ) : Type 0 where
  pub ups_long : length ups ≡ length levels
  pub lefts_long : length lefts ≡ length levels
  pub ups_lead : Leads (parent levels) (length levels) ups
  pub lefts_lead : Leads (previous levels) (length levels) lefts

-- What is written for the element s at a level, where `held` has the last element of each level: the last element one level up, and
-- the last on its level where the levels held reach it; else its own number.
abbrev pub up_of : List ℕ → (level s : ℕ) → ℕ
up_of held zero s = s
up_of held (suc d) s = get_or held d 0

abbrev pub left_of : List ℕ → (level depth s : ℕ) → ℕ
left_of held d depth s = cond (ltb d depth) (get_or held d 0) s
