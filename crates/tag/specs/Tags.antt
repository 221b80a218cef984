-- A report's records as tags, and what a sequence of tags opens and leaves open. Document 01, "Records": a report record of kind 1
-- opens an element, one of kind 2 closes the innermost open one; elements are numbered in order of opening; the root is at level 0.
-- Laws: proofs/TagLaws.antt. Assumes nothing.
use Rattle.std.specs.Prelude.{ℕ, suc, pred, Bool, cond, ◌||◌, List, [], ◌∷◌, leb, eqb, length}
use Rattle.terms.specs.Answer.{Answer, Accepted, Refused}
use Rattle.terms.specs.Limits.{elements_most, levels_most, outside}

-- A tag opens an element with a label, or closes the innermost open element.
pub data Tag : Type 0 where
  opens : ℕ → Tag
  closes : Tag

-- How many elements are open after the tags, d being open before them.
unfoldable pub depth_from : ℕ → List Tag → ℕ
depth_from d [] = d
depth_from d (opens l ∷ ts) = depth_from (suc d) ts
depth_from d (closes ∷ ts) = depth_from (pred d) ts

abbrev pub depth : List Tag → ℕ
depth ts = depth_from 0 ts

-- The labels of the elements that the tags open, in order of opening.
unfoldable pub labels : List Tag → List ℕ
labels [] = []
labels (opens l ∷ ts) = l ∷ labels ts
labels (closes ∷ ts) = labels ts

-- How many elements the tags open.
abbrev pub opened_count : List Tag → ℕ
opened_count ts = length (labels ts)

-- ==== Working definitions: nothing below has to be believed

-- The levels of these elements, d elements being open before the tags: an element's level is how many are open when it opens.
unfoldable pub levels_from : ℕ → List Tag → List ℕ
levels_from d [] = []
levels_from d (opens l ∷ ts) = d ∷ levels_from (suc d) ts
levels_from d (closes ∷ ts) = levels_from (pred d) ts

abbrev pub levels : List Tag → List ℕ
levels ts = levels_from 0 ts

-- The number that a tag gets where so many elements are open and so many have been opened, in the order 6, 7, 8; 0 where it has no
-- fault. Row 6: a label outside 1..999. Row 7: an opening after the root closed, or a closing with nothing open. Row 8: an opening
-- at level 64, or of a 4,097th element.
unfoldable pub tag_fault : ℕ → ℕ → Bool → Tag → ℕ
tag_fault open_now opened_so_far root_closed (opens label) =
    cond (outside label) 6 (cond root_closed 7 (cond (leb levels_most open_now || leb elements_most opened_so_far) 8 0))
tag_fault open_now opened_so_far root_closed closes = cond (eqb open_now 0) 7 0

-- What a report of so many bytes is answered that ends with so many elements open and so many opened. Row 7: none may be open.
unfoldable pub end_of : ℕ → ℕ → ℕ → Answer
end_of size open_now opened_so_far = cond (eqb open_now 0) (Accepted opened_so_far) (Refused 7 size)
