-- A report without any cursor: the serialisation of one tree of labels. Document 01, "Records": one root, elements in order of
-- opening, levels from the root's 0; "Sizes": 1 to 4,096 elements, levels 0 to 63, labels 1 to 999.
-- Laws: proofs/Trees.antt, proofs/ReportBytes.antt. Assumes nothing.
use Rattle.std.specs.Prelude.{ℕ, suc, ◌+◌, ◌≤◌, ◌<◌, max, ◌≡◌, List, [], ◌∷◌, ◌++◌, length, get_or}
use Rattle.tag.specs.Tags.{Tag, opens, closes, labels}
use Rattle.numbers.specs.Bytes.{two_bytes}
use Rattle.terms.specs.Limits.{label_most, elements_most, levels_most}

-- The bytes of a tag's record, and of a sequence of tags.
unfoldable pub tag_bytes : Tag → List ℕ
tag_bytes (opens label) = two_bytes 4 ++ (two_bytes 1 ++ two_bytes label)
tag_bytes closes = two_bytes 2 ++ two_bytes 2

unfoldable pub bytes_of : List Tag → List ℕ
bytes_of [] = []
bytes_of (t ∷ ts) = tag_bytes t ++ bytes_of ts

-- A tree is a label and the trees below it, in order.
mutual
  pub data Tree : Type 0 where
    node : ℕ → Forest → Tree

  pub data Forest : Type 0 where
    empty : Forest
    ◌before◌ : Tree → Forest → Forest

-- The tags of a tree: its opening, the tags of the trees below it in order, its closing.
unfoldable mutual
  pub tags_t : Tree → List Tag
  tags_t (node label f) = opens label ∷ (tags_f f ++ (closes ∷ []))

  pub tags_f : Forest → List Tag
  tags_f empty = []
  tags_f (◌before◌ t f) = tags_t t ++ tags_f f

-- How many elements a tree has.
unfoldable mutual
  pub size_t : Tree → ℕ
  size_t (node label f) = suc (size_f f)

  pub size_f : Forest → ℕ
  size_f empty = 0
  size_f (◌before◌ t f) = size_t t + size_f f

-- How many levels a tree has.
unfoldable mutual
  pub height_t : Tree → ℕ
  height_t (node label f) = suc (height_f f)

  pub height_f : Forest → ℕ
  height_f empty = 0
  height_f (◌before◌ t f) = max (height_t t) (height_f f)

-- Every label is in 1..999.
abbrev pub Labelled : List ℕ → Type 0
Labelled ls = (i : ℕ) → i < length ls → (1 ≤ get_or ls i 0) × (get_or ls i 0 ≤ label_most)

-- The tree is within the limits.
pub record Within (t : Tree) : Type 0 where
  pub few : size_t t ≤ elements_most
  pub shallow : height_t t ≤ levels_most
  pub labelled : Labelled (labels (tags_t t))

-- The byte string is the report of this tree.
pub record IsReport (s : List ℕ) (t : Tree) : Type 0 where
  pub within : Within t
  pub bytes_are : s ≡ bytes_of (tags_t t)
