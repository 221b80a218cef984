-- Working definitions: nothing here has to be believed.
-- A sequence of tags that a report may have, and the levels that such a sequence gives. Document 01, "Records" and "Sizes"; rows 6
-- (label), 7 and 8 of "Numbers given back".
-- Laws: proofs/Fits.antt, proofs/Trees.antt. Assumes nothing.
use Rattle.std.specs.Prelude.{ℕ, suc, ◌+◌, ◌≤◌, ◌<◌, ◌≡◌, ◌&&◌, List, [], ◌∷◌, ltb, eqb, length, get_or}
use Rattle.tag.specs.Tags.{Tag, depth_from, opened_count, tag_fault}
use Rattle.terms.specs.Limits.{elements_most}

-- No tag gets a number, where d elements are open and e have been opened before the tags.
unfoldable pub Fit : ℕ → ℕ → List Tag → Type 0
Fit d e [] = Unit
Fit d e (t ∷ ts) = (tag_fault d e (eqb d 0 && ltb 0 e) t ≡ 0) × Fit (depth_from d (t ∷ [])) (e + opened_count (t ∷ [])) ts

-- No tag gets a number, and at the end nothing is open.
pub record Legal (d e : ℕ) (ts : List Tag) : Type 0 where
  pub fit : Fit d e ts
  pub ended : depth_from d ts ≡ 0

-- The levels of a report's elements: the root is at level 0, every later element is below it and at most one level below the
-- element before it, no level is over 63, and there are at most 4,096 elements.
pub record LegalLevels (ls : List ℕ) : Type 0 where
  pub root : get_or ls 0 0 ≡ 0
  pub next : (i : ℕ) → suc i < length ls → (1 ≤ get_or ls (suc i) 0) × (get_or ls (suc i) 0 ≤ suc (get_or ls i 0))
  pub low : (i : ℕ) → i < length ls → get_or ls i 0 ≤ 63
  pub few : length ls ≤ elements_most
