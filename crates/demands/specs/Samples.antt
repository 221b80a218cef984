-- Cases, which try what has to be believed: nothing here has to be believed itself.
-- Document 01's cases down to the bytes: report R's 60 bytes, the bytes of each case's rule, and the program's sample. What the cases'
-- entries and tags are is said in the crate meaning, specs/Cases. Document 01, "Records", "Sample reports and marks", "The program".
-- Laws: proofs/Samples.antt. Assumes nothing.
use Rattle.std.specs.Prelude.{ℕ, ◌≡◌, List, [], ◌∷◌, ◌++◌}
use Rattle.grammar.specs.Rules.{IsRule}
use Rattle.grammar.specs.Reports.{Tree, node, empty, ◌before◌, tags_t, IsReport}
use Rattle.meaning.specs.Cases.{Case, twelve_cases, R, one}
use Rattle.meaning.specs.Rose.{labels_t, levels_t}
use Rattle.text.specs.Text.{ascii}
use Rattle.judge.specs.Output.{printout_of}

-- The rules of cases A to L, in this order, a line for each record. L's is B's.
abbrev pub rule_a : List ℕ
rule_a =
    2 ∷ 0 ∷ 1 ∷ 0
    ∷ 4 ∷ 0 ∷ 2 ∷ 0 ∷ 20 ∷ 0
    ∷ 4 ∷ 0 ∷ 2 ∷ 0 ∷ 30 ∷ 0
    ∷ 6 ∷ 0 ∷ 12 ∷ 0 ∷ 0 ∷ 0 ∷ 2 ∷ 0
    ∷ 6 ∷ 0 ∷ 5 ∷ 0 ∷ 1 ∷ 0 ∷ 3 ∷ 0 ∷ []

abbrev pub rule_b : List ℕ
rule_b =
    4 ∷ 0 ∷ 2 ∷ 0 ∷ 10 ∷ 0
    ∷ 4 ∷ 0 ∷ 9 ∷ 0 ∷ 0 ∷ 0
    ∷ 4 ∷ 0 ∷ 7 ∷ 0 ∷ 1 ∷ 0
    ∷ 4 ∷ 0 ∷ 2 ∷ 0 ∷ 20 ∷ 0
    ∷ 6 ∷ 0 ∷ 5 ∷ 0 ∷ 3 ∷ 0 ∷ 2 ∷ 0 ∷ []

abbrev pub rule_c : List ℕ
rule_c =
    2 ∷ 0 ∷ 1 ∷ 0 ∷ []

abbrev pub rule_d : List ℕ
rule_d =
    2 ∷ 0 ∷ 1 ∷ 0
    ∷ 4 ∷ 0 ∷ 7 ∷ 0 ∷ 0 ∷ 0 ∷ []

abbrev pub rule_e : List ℕ
rule_e =
    2 ∷ 0 ∷ 1 ∷ 0
    ∷ 4 ∷ 0 ∷ 2 ∷ 0 ∷ 10 ∷ 0
    ∷ 6 ∷ 0 ∷ 11 ∷ 0 ∷ 0 ∷ 0 ∷ 1 ∷ 0 ∷ []

abbrev pub rule_f : List ℕ
rule_f =
    4 ∷ 0 ∷ 2 ∷ 0 ∷ 1 ∷ 0
    ∷ 4 ∷ 0 ∷ 2 ∷ 0 ∷ 10 ∷ 0
    ∷ 6 ∷ 0 ∷ 10 ∷ 0 ∷ 0 ∷ 0 ∷ 1 ∷ 0 ∷ []

abbrev pub rule_g : List ℕ
rule_g =
    4 ∷ 0 ∷ 2 ∷ 0 ∷ 30 ∷ 0
    ∷ 4 ∷ 0 ∷ 2 ∷ 0 ∷ 20 ∷ 0
    ∷ 6 ∷ 0 ∷ 13 ∷ 0 ∷ 0 ∷ 0 ∷ 1 ∷ 0 ∷ []

abbrev pub rule_h : List ℕ
rule_h =
    4 ∷ 0 ∷ 2 ∷ 0 ∷ 20 ∷ 0
    ∷ 4 ∷ 0 ∷ 14 ∷ 0 ∷ 0 ∷ 0 ∷ []

abbrev pub rule_i : List ℕ
rule_i =
    4 ∷ 0 ∷ 2 ∷ 0 ∷ 20 ∷ 0
    ∷ 4 ∷ 0 ∷ 3 ∷ 0 ∷ 0 ∷ 0 ∷ []

abbrev pub rule_j : List ℕ
rule_j =
    4 ∷ 0 ∷ 2 ∷ 0 ∷ 30 ∷ 0
    ∷ 4 ∷ 0 ∷ 6 ∷ 0 ∷ 0 ∷ 0 ∷ []

abbrev pub rule_k : List ℕ
rule_k =
    4 ∷ 0 ∷ 2 ∷ 0 ∷ 10 ∷ 0
    ∷ 4 ∷ 0 ∷ 8 ∷ 0 ∷ 0 ∷ 0 ∷ []

abbrev pub rule_samples : List (List ℕ)
rule_samples = rule_a ∷ rule_b ∷ rule_c ∷ rule_d ∷ rule_e ∷ rule_f ∷ rule_g ∷ rule_h ∷ rule_i ∷ rule_j ∷ rule_k ∷ rule_b ∷ []

-- Report R, a line for each record, and the report of one element with label 1.
abbrev pub report_r : List ℕ
report_r =
    4 ∷ 0 ∷ 1 ∷ 0 ∷ 1 ∷ 0
    ∷ 4 ∷ 0 ∷ 1 ∷ 0 ∷ 10 ∷ 0
    ∷ 4 ∷ 0 ∷ 1 ∷ 0 ∷ 20 ∷ 0
    ∷ 2 ∷ 0 ∷ 2 ∷ 0
    ∷ 4 ∷ 0 ∷ 1 ∷ 0 ∷ 30 ∷ 0
    ∷ 2 ∷ 0 ∷ 2 ∷ 0
    ∷ 2 ∷ 0 ∷ 2 ∷ 0
    ∷ 4 ∷ 0 ∷ 1 ∷ 0 ∷ 10 ∷ 0
    ∷ 4 ∷ 0 ∷ 1 ∷ 0 ∷ 20 ∷ 0
    ∷ 2 ∷ 0 ∷ 2 ∷ 0
    ∷ 2 ∷ 0 ∷ 2 ∷ 0
    ∷ 2 ∷ 0 ∷ 2 ∷ 0 ∷ []

abbrev pub one_report : List ℕ
one_report =
    4 ∷ 0 ∷ 1 ∷ 0 ∷ 1 ∷ 0
    ∷ 2 ∷ 0 ∷ 2 ∷ 0 ∷ []

-- Their trees.
abbrev leaf : ℕ → Tree
leaf label = node label empty

abbrev pub tree_r : Tree
tree_r = node 1 (◌before◌ (node 10 (◌before◌ (leaf 20) (◌before◌ (leaf 30) empty))) (◌before◌ (node 10 (◌before◌ (leaf 20) empty)) empty))

-- Each of these byte strings is the rule of its case's entries.
unfoldable pub Spelt : List Case → List (List ℕ) → Type 0
Spelt [] [] = Unit {0}
Spelt [] (s ∷ ss) = ⊥
Spelt (c ∷ cs) [] = ⊥
Spelt (c ∷ cs) (s ∷ ss) = IsRule s c.entries × Spelt cs ss

-- What is shown of them: every rule is its case's; report R is that of its tree, whose tags, labels and levels are the table's; and the
-- program prints the sample's text for the sample's bytes, which are rule A's length, rule A and report R.
pub record SamplesRight : Type 0 where
  pub rules : Spelt twelve_cases rule_samples
  pub report : IsReport report_r tree_r
  pub tags : tags_t tree_r ≡ R
  pub labels : labels_t tree_r ≡ 1 ∷ 10 ∷ 20 ∷ 30 ∷ 10 ∷ 20 ∷ []
  pub levels : levels_t tree_r 0 ≡ 0 ∷ 1 ∷ 2 ∷ 2 ∷ 1 ∷ 2 ∷ []
  pub report_one : IsReport one_report (leaf 1)
  pub tags_one : tags_t (leaf 1) ≡ one
  pub sample : printout_of (32 ∷ 0 ∷ (rule_a ++ report_r))
      ≡ ascii "element label level selected\n0 1 0 0\n1 10 1 0\n2 20 2 1\n3 30 2 0\n4 10 1 0\n5 20 2 0\nselected 1 of 6\n"
