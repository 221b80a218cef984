-- Every promise of a public function of this crate determines the answer, and every place that is lent to it: any two results that meet
-- it are equal. Assumes nothing.
use Rattle.numbers.proofs.Only.{only}
use Prim.Native.Nat.{ℕ}
use mathlib.Core.Path.{◌≡◌}
use mathlib.Core.List.{List}
use Rattle.records.specs.Reply.{RuleRead, ReportRead}
use Rattle.records.specs.declared.export.RuleReply.{RuleReply}
use Rattle.records.specs.declared.export.ReportReply.{ReportReply}

-- What the rule reader answers to C.
pub pz-read-rule-only : (s : List ℕ) {r r' : RuleReply} → RuleRead s r → RuleRead s r' → r ≡ r'
pz-read-rule-only s p q = only p q

-- What the report reader answers to C.
pub pz-read-report-only : (s : List ℕ) {r r' : ReportReply} → ReportRead s r → ReportRead s r' → r ≡ r'
pz-read-report-only s p q = only p q
