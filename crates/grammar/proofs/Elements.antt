-- What the layers above need of an accepted report's elements: how many labels and levels there are, and what they are like.
-- For every list. Assumes nothing.
use Prim.Native.Nat.{ℕ, zero, suc, ◌≤◌}
use native.Mathlib.Nat.{not-suc-le-zero}
use native.Mathlib.Omega.{arith}
use mathlib.Core.Path.{◌≡◌, refl, sym, ap, ◌∙◌}
use mathlib.Core.List.{List, []}
use lib.ListN.{length, length-append}
use Rattle.terms.specs.Answer.{count_of, where_accepted, Answer, Accepted, Refused}
use Rattle.terms.specs.Frame.{start_of}
use Rattle.reports.specs.Report.{tags_before, report_fault, report_answer, tags_of}
use Rattle.tag.specs.Tags.{labels, levels, opened_count}
use Rattle.grammar.specs.Legal.{Legal, LegalLevels}
use Rattle.grammar.specs.Reports.{Tree, tags_t, bytes_of, Labelled, Within}
use Rattle.grammar.proofs.Decides.{CleanEnd}
use Rattle.tag.proofs.TagLaws.{levels-count}
use Rattle.grammar.proofs.Fits.{fit-few, fit-labelled, legal-levels}
use Rattle.grammar.proofs.Trees.{tree-some, tags-size, legal-tree}
use Rattle.grammar.proofs.WhenReport.{report-accepted-iff, report-last}
use Rattle.grammar.proofs.ReportBytes.{clean-fit, tags-are, tree-accepted}
use Rattle.terms.specs.Limits.{elements_most}
use Rattle.reports.specs.Elements.{labels_of, levels_of}
use Rattle.numbers.specs.Lists.{listed}

tags-length : (s : List ℕ) (i : ℕ) → length (tags_before s i) ≡ i
unfolding listed
tags-length s zero = refl
tags-length s (suc i) = length-append (tags_before s i) _ ∙ omega (arith, tags-length s i)

-- A report that ends with no byte has no record.
ended_some : (s : List ℕ) (i : ℕ) → CleanEnd (report_fault s) s i → 1 ≤ length s → tags_before s i ≡ [] → ⊥
unfolding start_of
ended_some s zero r l z = omega (arith, r.at_end)
ended_some s (suc i) r l z = omega (arith, tags-length s (suc i), ap length z)

module _ (s : List ℕ) where
  module _ (n : ℕ) (accepted : report_answer s ≡ Accepted n) where
    -- An accepted report's tags are legal.
    pub accepted-legal : Legal 0 0 (tags_of s)
    accepted-legal =
        let h = ((report-accepted-iff s n).0 accepted).1 in
        rw (report-last s h.0 h.1) (record { fit = clean-fit s h.0 h.1.clean; ended = h.2 })

    -- An accepted report's tags open as many elements as the answer says.
    accepted-opened : opened_count (tags_of s) ≡ n
    accepted-opened = let h = ((report-accepted-iff s n).0 accepted).1 in rw (report-last s h.0 h.1) h.3

    accepted-tags : tags_of s ≡ [] → ⊥
    accepted-tags z =
        let h = (report-accepted-iff s n).0 accepted in
        ended_some s h.1.0 h.1.1 h.0.some (ap (tags_before s) (sym (report-last s h.1.0 h.1.1)) ∙ z)

    -- An accepted report has an element.
    pub elements-some : 1 ≤ n
    elements-some =
        let t = legal-tree (tags_of s) accepted-legal accepted-tags in
        omega (arith, accepted-opened, ap opened_count t.1, tags-size t.0, tree-some t.0)

    -- An accepted report's labels are those of its tags.
    pub labels-accepted : labels_of s ≡ labels (tags_of s)
    unfolding labels_of
    labels-accepted = rw accepted

    -- An accepted report's levels are those of its tags.
    pub levels-accepted : levels_of s ≡ levels (tags_of s)
    unfolding levels_of
    levels-accepted = rw accepted

    -- An accepted report's levels are legal.
    pub levels-legal : LegalLevels (levels_of s)
    levels-legal = rw levels-accepted (legal-levels (tags_of s) accepted-legal.fit)

  found-count : (xs : List ℕ) → length xs ≡ opened_count (tags_of s) → length (where_accepted (report_answer s) xs) ≡ count_of (report_answer s)
  found-count xs h = go (report_answer s) refl where
    go : (a : Answer) → report_answer s ≡ a → length (where_accepted a xs) ≡ count_of a
    go (Accepted n) e = h ∙ accepted-opened n e
    go (Refused k p) e = refl

  -- There are as many labels as elements.
  pub elements-count : length (labels_of s) ≡ count_of (report_answer s)
  unfolding labels_of
  elements-count = found-count (labels (tags_of s)) refl

  -- There are as many levels as elements.
  pub levels-elements : length (levels_of s) ≡ count_of (report_answer s)
  unfolding levels_of
  levels-elements = found-count (levels (tags_of s)) (levels-count 0 (tags_of s))

  -- There are at most 4,096 elements.
  pub elements-few : count_of (report_answer s) ≤ elements_most
  elements-few = go (report_answer s) refl where
    go : (a : Answer) → report_answer s ≡ a → count_of a ≤ elements_most
    go (Accepted n) e = omega (arith, accepted-opened n e, fit-few (tags_of s) 0 0 (omega arith) (accepted-legal n e).fit)
    go (Refused k p) e = omega arith

  -- Every label is in 1..999.
  pub label-range : Labelled (labels_of s)
  unfolding labels_of
  label-range = go (report_answer s) refl where
    go : (a : Answer) → report_answer s ≡ a → Labelled (where_accepted a (labels (tags_of s)))
    go (Accepted n) e = fit-labelled (tags_of s) 0 0 (accepted-legal n e).fit
    go (Refused k p) e = λ i l. absurd (not-suc-le-zero l)

module _ (s : List ℕ) (t : Tree) (e : s ≡ bytes_of (tags_t t)) (w : Within t) where
  -- The labels of a tree's bytes are the tree's.
  pub labels-tree : labels_of s ≡ labels (tags_t t)
  labels-tree = labels-accepted s _ (tree-accepted s t e w) ∙ ap labels (tags-are s t e w)

  -- The levels of a tree's bytes are the tree's.
  pub levels-tree : levels_of s ≡ levels (tags_t t)
  levels-tree = levels-accepted s _ (tree-accepted s t e w) ∙ ap levels (tags-are s t e w)
