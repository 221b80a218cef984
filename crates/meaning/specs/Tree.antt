-- The tree of a report over its elements, numbered in order of opening, from the level of each. Document 01, "Records"; the child
-- relation, the next-sibling relation and their closures are those of source 000, section 3.1, and source 003, section 2.
-- The four axes name those relations and their inverses: kinds of entries and steps of typed paths go along them.
-- Laws: proofs/Links.antt (as functions), proofs/Ways.antt (closures), proofs/Family.antt (one root, siblings in order),
-- proofs/Innermost.antt (what is open), proofs/Rose.antt and Report.antt (accepted reports).
-- Assumes nothing.
use Rattle.std.specs.Prelude.{ℕ, suc, ◌<◌, ◌≡◌, cond, List, length, get_or}
use Rattle.terms.specs.Kinds.{leads_back}
use Rattle.terms.specs.declared.kind.Axis.{Axis}
use Rattle.terms.specs.declared.kind.Axis.TheVariants.{Child as child, Parent as parent, Next as next, Previous as previous}

-- s is a child of p: s is an element, p opens before it, s is one level below p, and everything that opens between the two is
-- below p, so that p is still open where s opens.
pub record Child (levels : List ℕ) (p s : ℕ) : Type 0 where
  pub element : s < length levels
  pub before : p < s
  pub under : get_or levels s 0 ≡ suc (get_or levels p 0)
  pub between : (k : ℕ) → p < k → k < s → get_or levels p 0 < get_or levels k 0

-- s is the next sibling of q: s is an element, q opens before it on the same level, and everything that opens between the two is
-- below q.
pub record Next (levels : List ℕ) (q s : ℕ) : Type 0 where
  pub element : s < length levels
  pub before : q < s
  pub beside : get_or levels s 0 ≡ get_or levels q 0
  pub between : (k : ℕ) → q < k → k < s → get_or levels q 0 < get_or levels k 0

-- The other way round: from a child to its parent, from a sibling to the one before.
abbrev pub Back : (ℕ → ℕ → Type 0) → ℕ → ℕ → Type 0
Back R s t = R t s

-- The reflexive and transitive closure of a relation: t is s, or is reached from s in steps of R.
pub data Star (R : ℕ → ℕ → Type 0) (s : ℕ) : ℕ → Type 0 where
  here : Star R s s
  onward : {t u : ℕ} → Star R s t → R t u → Star R s u

-- One step from s to t along an axis: t is a child of s, the parent of s, its next sibling, its previous sibling.
unfoldable pub Neighbour : List ℕ → Axis → (s t : ℕ) → Type 0
Neighbour levels child = Child levels
Neighbour levels parent = Back (Child levels)
Neighbour levels next = Next levels
Neighbour levels previous = Back (Next levels)

-- ==== Working definitions: nothing below has to be believed

-- The way in which a step along an axis leads: on to an element that opens later, or back to one that opened before.
pub data Direction : Type 0 where
  forward backward : Direction

unfoldable pub direction : Axis → Direction
direction x = cond (leads_back x) backward forward
