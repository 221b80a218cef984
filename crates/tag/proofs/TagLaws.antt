-- Laws of sequences of tags along `++`: what two of them open, leave open, and give as labels and levels.
-- Assumes nothing.
use Prim.Native.Nat.{ℕ, suc, pred, ◌+◌}
use mathlib.Core.Path.{◌≡◌, refl, ap}
use mathlib.Core.List.{List, [], ◌∷◌, ◌++◌}
use lib.ListN.{length, length-append}
use Rattle.tag.specs.Tags.{Tag, opens, closes, depth_from, labels, levels_from, opened_count}

-- After two sequences one after the other, as many elements are open as after the second, begun where the first ends.
pub depth-append : (d : ℕ) (ts us : List Tag) → depth_from d (ts ++ us) ≡ depth_from (depth_from d ts) us
unfolding depth_from
depth-append d [] us = refl
depth-append d (opens l ∷ ts) us = depth-append (suc d) ts us
depth-append d (closes ∷ ts) us = depth-append (pred d) ts us

-- The labels of two sequences are those of the first, then those of the second.
pub labels_append : (ts us : List Tag) → labels (ts ++ us) ≡ labels ts ++ labels us
unfolding labels
labels_append [] us = refl
labels_append (opens l ∷ ts) us = ap (λ (ls : List ℕ). l ∷ ls) (labels_append ts us)
labels_append (closes ∷ ts) us = labels_append ts us

-- Two sequences open as many elements as both of them.
pub opened-append : (ts us : List Tag) → opened_count (ts ++ us) ≡ opened_count ts + opened_count us
opened-append ts us = rw (labels_append, length-append)

-- The levels of two sequences are those of the first, then those of the second, begun where the first ends.
pub levels-append : (d : ℕ) (ts us : List Tag) → levels_from d (ts ++ us) ≡ levels_from d ts ++ levels_from (depth_from d ts) us
unfolding levels_from depth_from
levels-append d [] us = refl
levels-append d (opens l ∷ ts) us = ap (λ (ls : List ℕ). d ∷ ls) (levels-append (suc d) ts us)
levels-append d (closes ∷ ts) us = levels-append (pred d) ts us

-- There are as many levels as labels.
pub levels-count : (d : ℕ) (ts : List Tag) → length (levels_from d ts) ≡ length (labels ts)
unfolding levels_from labels
levels-count d [] = refl
levels-count d (opens l ∷ ts) = ap suc (levels-count (suc d) ts)
levels-count d (closes ∷ ts) = levels-count (pred d) ts
