-- The readers follow rows 1 to 8, and take exactly rules and reports. Assumes nothing.
use Prim.Native.Nat.{ℕ}
use mathlib.Core.Path.{◌≡◌, sym, ap, ◌∙◌}
use mathlib.Core.List.{List}
use lib.ListN.{length}
use Rattle.numbers.specs.Bytes.{Bytes}
use Rattle.terms.specs.Answer.{number_of, count_of, Accepted}
use Rattle.entry.specs.declared.entry.Entry.{Entry}
use Rattle.rules.specs.Rule.{rule_answer}
use Rattle.rules.specs.Entries.{entries_of}
use Rattle.reports.specs.Report.{report_answer}
use Rattle.grammar.specs.When.{RuleRefused, ReportRefused}
use Rattle.grammar.specs.Rules.{IsRule}
use Rattle.grammar.specs.Reports.{Tree, size_t, IsReport}
use Rattle.grammar.proofs.Refusals.{rule-refused-iff, report-refused-iff}
use Rattle.grammar.proofs.WhenRule.{rule-answer-sound}
use Rattle.grammar.proofs.WhenReport.{report-answer-sound}
use Rattle.grammar.proofs.Rules.{rule-iff, entries_are, rule-complete, rule-only}
use Rattle.grammar.proofs.ReportBytes.{report-iff, tree-accepted, report-only}
use Rattle.demands.specs.Demands.{RuleReader, ReportReader, OneReading}
use Rattle.demands.proofs.Follows.{follows_of, zero-accepted, other-uncounted}

-- ---- a rule

-- A rule is accepted, with as many entries as it has, and they are these.
pub is-taken : {s : List ℕ} {es : List Entry} → IsRule s es → rule_answer s ≡ Accepted (length es)
is-taken {s} {es} i = ap rule_answer i.bytes_are ∙ rule-complete es i.entries

pub is-entries : {s : List ℕ} {es : List Entry} → IsRule s es → entries_of s ≡ es
is-entries {s} {es} i = entries_are s es i.bytes_are i.entries

-- What is accepted is a rule.
pub taken_is : {s : List ℕ} → Bytes s → {n : ℕ} → rule_answer s ≡ Accepted n → (es : List Entry) × IsRule s es
taken_is {s} bytes {n} e = let (es, b, (r, c)) = (rule-iff s bytes n).0 e in (es, record { entries = r; bytes_are = b })

pub rule_reader : RuleReader
rule_reader rule bytes r e =
    record {
      follows = rw e (follows_of (RuleRefused rule) (rule_answer rule) (rule-refused-iff rule) (rule-answer-sound rule));
      taken_iff = rw e (
        λ z. taken_is bytes (zero-accepted (rule_answer rule) (rule-answer-sound rule) z).1,
        λ h. ap number_of (is-taken h.1),
      );
      counted = λ es i. rw e (ap count_of (is-taken i));
      uncounted = rw e (other-uncounted (rule_answer rule));
    }

-- ---- a report

pub is-accepted : {s : List ℕ} {t : Tree} → IsReport s t → report_answer s ≡ Accepted (size_t t)
is-accepted {s} {t} i = tree-accepted s t i.bytes_are i.within

pub accepted-is : {s : List ℕ} → Bytes s → {n : ℕ} → report_answer s ≡ Accepted n → (t : Tree) × IsReport s t
accepted-is {s} bytes {n} e = let h = (report-iff s bytes n).0 e in (h.0, record { within = h.2; bytes_are = h.1 })

pub report_reader : ReportReader
report_reader report bytes r e =
    record {
      follows = rw e (follows_of (ReportRefused report) (report_answer report) (report-refused-iff report) (report-answer-sound report));
      taken_iff = rw e (
        λ z. accepted-is bytes (zero-accepted (report_answer report) (report-answer-sound report) z).1,
        λ h. ap number_of (is-accepted h.1),
      );
      counted = λ t i. rw e (ap count_of (is-accepted i));
      uncounted = rw e (other-uncounted (report_answer report));
    }

-- ---- one reading

pub one_reading : OneReading
one_reading = (
  λ s es fs i j. rule-only es fs (sym i.bytes_are ∙ j.bytes_are) i.entries j.entries,
  λ s t u i j. report-only t u (sym i.bytes_are ∙ j.bytes_are),
)
