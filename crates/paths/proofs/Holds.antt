-- What holds in a table with one entry put behind it: the entries before hold what they did, and the entry put last holds what its
-- kind means of its arguments. Assumes nothing.
use Prim.Native.Nat.{ℕ, suc, ◌≤◌, ◌<◌}
use native.Mathlib.Numerals.{add-one}
use native.Mathlib.Omega.{arith}
use mathlib.Core.Path.{◌≡◌, refl, ◌∙◌}
use mathlib.Core.List.{List, [], ◌∷◌}
use borrow.Author.Tests.{eq-eqb}
use lib.ListN.{length, length-append}
use lib.Seq.{get_or-append_seam}
use Rattle.entry.specs.declared.entry.Entry.{Entry}
use Rattle.grammar.specs.Rules.{no_entry}
use Rattle.terms.specs.Kinds.{shape_of}
use Rattle.meaning.specs.Meaning.{Means, Below, Holds}
use Rattle.meaning.proofs.Behind.{below_holds, below-kept, holds_kept}
use Rattle.paths.specs.Translation.{put, entry}

-- A table has an entry more.
pub put-length : (es : List Entry) (e : Entry) → length (put es e) ≡ suc (length es)
unfolding put
put-length es e = length-append es (e ∷ []) ∙ add-one (length es)

module _ (levels labels : List ℕ) where
  pub put-kept : (es : List Entry) (e : Entry) (i : ℕ) → i < length es → Holds levels labels (put es e) i ≡ Holds levels labels es i
  unfolding put
  put-kept es e i l = holds_kept levels labels es (e ∷ []) i l

  -- The entry put last holds what its kind means of what is known below it.
  pub put-below : (es : List Entry) (e : Entry) → Holds levels labels (put es e) (length es)
      ≡ Means levels labels (shape_of e.kind) e.a (Below levels labels es (length es) e.a) (Below levels labels es (length es) e.b)
  unfolding put Holds Below
  put-below es e =
      let l : length es ≤ length es = omega arith in
      let b = below-kept levels labels es (e ∷ []) (length es) in
      rw (eq-eqb (length es) (length es) refl, get_or-append_seam es e [] no_entry, b e.a l, b e.b l)

  -- It holds what its kind means of its arguments, where these are entries before it.
  pub put_holds : (es : List Entry) (k a b : ℕ) → a < length es → b < length es
      → Holds levels labels (put es (entry k a b)) (length es)
      ≡ Means levels labels (shape_of k) a (Holds levels labels es a) (Holds levels labels es b)
  put_holds es k a b la lb =
      put-below es (entry k a b) ∙ rw (below_holds levels labels es (length es) a la, below_holds levels labels es (length es) b lb)
