-- The samples are right: computed. Assumes nothing.
use Prim.Native.Nat.{ℕ, zero, suc}
use native.Mathlib.Omega.{arith}
use mathlib.Core.Path.{◌≡◌, refl, sym, subst, ◌∙◌}
use mathlib.Core.Bool.{Bool, true, ◌&&◌}
use mathlib.Core.List.{List, [], ◌∷◌, ◌++◌, flatten}
use lib.Dec.{ltb}
use borrow.Author.Tests.{ltb-true}
use Rattle.numbers.specs.Bytes.{Bytes, word_at}
use Rattle.numbers.specs.First.{first_from}
use Rattle.numbers.specs.Lists.{listed}
use Rattle.numbers.proofs.Tells.{and-true}
use Rattle.terms.specs.Frame.{frame_of, next_of, start_of}
use Rattle.terms.specs.Kinds.{row_of, numbers_of, local_numbers, leads_back}
use Rattle.terms.specs.Answer.{Accepted}
use Rattle.entry.specs.Entry.{entry_of, entry_at, misdirected, rule_fault}
use Rattle.entry.specs.declared.entry.Entry.{Entry}
use Rattle.rules.specs.Rule.{rule_stops, rule_answer_at, rule_answer}
use Rattle.rules.specs.Entries.{entries_of}
use Rattle.tag.specs.Tags.{depth_from, labels, levels_from, tag_fault, end_of}
use Rattle.tag.specs.Record.{report_length, tag_at, record_fault}
use Rattle.reports.specs.Report.{report_fault, report_stops, report_answer_at, report_answer}
use Rattle.reports.specs.Elements.{labels_of, levels_of}
use Rattle.numbers.specs.Bytes.{two_bytes}
use Rattle.numbers.specs.Bits.{word, have_bit}
use Rattle.grammar.specs.Rules.{IsRule}
use Rattle.grammar.specs.Reports.{Tree, node, empty, tags_t, tags_f, tag_bytes, bytes_of, IsReport}
use Rattle.grammar.proofs.ReportBytes.{report-only}
use Rattle.meaning.specs.Cases.{twelve_cases}
use Rattle.meaning.specs.Tree.{direction}
use Rattle.meaning.specs.Rose.{labels_t, labels_f, levels_t, levels_f}
use Rattle.meaning.specs.Links.{last_up_to, if_level, parent_at, parent, previous, link}
use Rattle.meaning.specs.Marks.{any_below, some_of, every_of, until_in, until_of, means_here, means, below, mark, word_of, words, verdict}
use Rattle.marking.specs.Evaluation.{short_of_room, meant_words, outcome}
use Rattle.text.specs.Decimal.{digits, decimal}
use Rattle.text.specs.Text.{ascii, field, phrase, header_line, element_line, closing_line, element_lines, accepted_lines, accepted_text}
use Rattle.judge.specs.Input.{rule_end, split_of, rule_in, report_in}
use Rattle.judge.specs.Output.{accepted_printout, printout_of_both, printout_at, printout_of}
use Rattle.demands.specs.Samples.{rule_a, rule_b, rule_c, rule_d, rule_e, rule_f, rule_g, rule_h, rule_i, rule_j, rule_k, rule_samples}
use Rattle.demands.specs.Samples.{report_r, one_report, tree_r, Spelt, SamplesRight}
use Rattle.demands.proofs.Readers.{is-entries, taken_is, accepted-is}

-- A list of numbers below 256 is a byte string.
unfoldable all_bytes : List ℕ → Bool
all_bytes [] = true
all_bytes (x ∷ xs) = ltb x 256 && all_bytes xs

all-bytes : (s : List ℕ) → all_bytes s ≡ true → Bytes s
unfolding all_bytes
all-bytes [] e i = omega arith
all-bytes (x ∷ xs) e zero = ltb-true x 256 (and-true (ltb x 256) (all_bytes xs) e).0
all-bytes (x ∷ xs) e (suc i) = all-bytes xs (and-true (ltb x 256) (all_bytes xs) e).1 i

-- A byte string that is accepted is the rule of the entries that are found in it.
rule-of : (s : List ℕ) (es : List Entry) {n : ℕ} → all_bytes s ≡ true → rule_answer s ≡ Accepted n → entries_of s ≡ es → IsRule s es
rule-of s es b a e = let (fs, i) = taken_is (all-bytes s b) a in subst (IsRule s) (sym (is-entries i) ∙ e) i

-- So a byte string that is accepted and is a tree's is the report of that tree.
report-of : (s : List ℕ) (t : Tree) {n : ℕ} → all_bytes s ≡ true → report_answer s ≡ Accepted n → s ≡ bytes_of (tags_t t) → IsReport s t
report-of s t b a e =
    let (u, j) = accepted-is (all-bytes s b) a in subst (IsReport s) (report-only u t (sym j.bytes_are ∙ e)) j

-- The rules are those of the cases.
rules-spelt : Spelt twelve_cases rule_samples
unfolding all_bytes rule_answer rule_answer_at rule_stops rule_fault frame_of first_from start_of next_of word_at row_of numbers_of local_numbers misdirected
    entry_at entry_of entries_of listed Spelt
rules-spelt = (
  rule-of rule_a _ refl refl refl,
  (
    rule-of rule_b _ refl refl refl,
    (
      rule-of rule_c _ refl refl refl,
      (
        rule-of rule_d _ refl refl refl,
        (
          rule-of rule_e _ refl refl refl,
          (
            rule-of rule_f _ refl refl refl,
            (
              rule-of rule_g _ refl refl refl,
              (
                rule-of rule_h _ refl refl refl,
                (
                  rule-of rule_i _ refl refl refl,
                  (
                    rule-of rule_j _ refl refl refl,
                    (
                      rule-of rule_k _ refl refl refl,
                      (rule-of rule_b _ refl refl refl, tt),
                    ),
                  ),
                ),
              ),
            ),
          ),
        ),
      ),
    ),
  ),
)

-- The reports are those of the trees.
report-R : IsReport report_r tree_r
unfolding all_bytes report_answer report_answer_at report_stops report_fault record_fault tag_fault end_of frame_of first_from start_of next_of word_at report_length
    tag_at depth_from labels listed bytes_of tag_bytes two_bytes tags_t tags_f
report-R = report-of report_r tree_r refl refl refl

report_one : IsReport one_report (node 1 empty)
unfolding all_bytes report_answer report_answer_at report_stops report_fault record_fault tag_fault end_of frame_of first_from start_of next_of word_at report_length
    tag_at depth_from labels listed bytes_of tag_bytes two_bytes tags_t tags_f
report_one = report-of one_report (node 1 empty) refl refl refl

-- The sample's text, from the sample's bytes.
sample-printed : printout_of (32 ∷ 0 ∷ (rule_a ++ report_r))
    ≡ ascii "element label level selected\n0 1 0 0\n1 10 1 0\n2 20 2 1\n3 30 2 0\n4 10 1 0\n5 20 2 0\nselected 1 of 6\n"
unfolding rule_end split_of rule_in report_in accepted_printout printout_of_both printout_at short_of_room meant_words outcome
    rule_answer rule_answer_at rule_stops rule_fault frame_of first_from start_of next_of word_at row_of numbers_of local_numbers leads_back misdirected
    entry_at entry_of entries_of listed
    report_answer report_answer_at report_stops report_fault record_fault tag_fault end_of report_length tag_at depth_from labels levels_from labels_of levels_of
    last_up_to if_level parent_at parent previous link direction
    any_below some_of every_of until_in until_of means_here means below mark word word_of words verdict have_bit
    digits decimal ascii field phrase header_line element_line closing_line element_lines accepted_lines accepted_text flatten
sample-printed = refl

pub samples-right : SamplesRight
unfolding tags_t tags_f labels_t labels_f levels_t levels_f
samples-right =
    record {
      rules = rules-spelt;
      report = report-R;
      tags = refl;
      labels = refl;
      levels = refl;
      report_one = report_one;
      tags_one = refl;
      sample = sample-printed;
    }
