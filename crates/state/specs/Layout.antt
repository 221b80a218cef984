-- Working definitions: nothing here has to be believed.
-- Numbers in a byte string by a layout: groups of numbers of one width, one group after the other from the first byte on. And runs of
-- stores there, one after the other.
-- Laws: proofs/RunLaws.antt. Assumes nothing.
use Rattle.std.specs.Prelude.{ℕ, zero, suc, ◌+◌, ◌*◌, List, [], ◌∷◌}
use Rattle.numbers.specs.Bytes.{word_at, number_put}

-- So many numbers of so many bytes each.
pub record Group : Type 0 where
  pub width : ℕ
  pub count : ℕ

-- The width of group g's numbers, and how many there are.
unfoldable pub width_in : List Group → ℕ → ℕ
width_in [] g = 0
width_in (x ∷ xs) zero = x.width
width_in (x ∷ xs) (suc g) = width_in xs g

unfoldable pub count_in : List Group → ℕ → ℕ
count_in [] g = 0
count_in (x ∷ xs) zero = x.count
count_in (x ∷ xs) (suc g) = count_in xs g

-- Where number i of group g stands, the first group beginning at `start`: behind all groups before g, and the numbers before i.
unfoldable pub place_from : (start : ℕ) → List Group → (g i : ℕ) → ℕ
place_from start [] g i = start
place_from start (x ∷ xs) zero i = start + x.width * i
place_from start (x ∷ xs) (suc g) i = place_from (start + x.width * x.count) xs g i

abbrev pub place_in : List Group → (g i : ℕ) → ℕ
place_in l g i = place_from 0 l g i

-- How many bytes the groups take.
unfoldable pub size_in : List Group → ℕ
size_in [] = 0
size_in (x ∷ xs) = x.width * x.count + size_in xs

-- A store puts a value into number `index` of a group.
pub record Store : Type 0 where
  pub group : ℕ
  pub index : ℕ
  pub value : ℕ

module _ (layout : List Group) where
  -- Number i of group g in a byte string.
  abbrev pub number_in : (g i : ℕ) → List ℕ → ℕ
  number_in g i s = word_at (width_in layout g) s (place_in layout g i)

  -- The byte string after a run of stores, the first of them first.
  unfoldable pub stored : List Store → List ℕ → List ℕ
  stored [] s = s
  stored (x ∷ xs) s = stored xs (number_put (width_in layout x.group) (place_in layout x.group x.index) x.value s)
