-- What contracts of exported calls name: nothing here has to be believed, since the page (crate demands) states what it comes to.
-- What a reader answers to C: the answer's number, its place and what it counts, as plain numbers. Document 01, "Numbers given back".
-- Laws: proofs/Only.antt. Assumes nothing.
use Rattle.std.specs.Prelude.{ℕ, ◌≡◌, List}
use Rattle.terms.specs.Answer.{number_of, place_of, count_of, Answer}
use Rattle.rules.specs.Rule.{rule_answer}
use Rattle.reports.specs.Report.{report_answer}
use Rattle.records.specs.declared.export.RuleReply.{RuleReply}
use Rattle.records.specs.declared.export.ReportReply.{ReportReply}

-- The reply of the rule reader.
abbrev pub rule_reply : Answer → RuleReply
rule_reply a = record { number = number_of a; place = place_of a; entries = count_of a }

-- The reply of the report reader.
abbrev pub report_reply : Answer → ReportReply
report_reply a = record { number = number_of a; place = place_of a; elements = count_of a }

-- What each promises: the reply of the answer that the tables give the string.
abbrev pub RuleRead : (rule : List ℕ) → RuleReply → Type 0
RuleRead rule r = r ≡ rule_reply (rule_answer rule)

abbrev pub ReportRead : (report : List ℕ) → ReportReply → Type 0
ReportRead report r = r ≡ report_reply (report_answer report)
