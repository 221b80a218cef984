-- Working definitions: nothing here has to be believed.
-- The rule reader: which number a rule gets, and where. Document 01, "Numbers given back", rows 0 to 4, and its order.
-- Shuts out: a fault other than the first deciding; a place that is not the record's own.
-- Laws: proofs/RuleLaws.antt, and the crate grammar. Assumes nothing.
use Rattle.std.specs.Prelude.{ℕ, Bool, cond, List, eqb, length}
use Rattle.numbers.specs.First.{first}
use Rattle.terms.specs.Frame.{start_of, stops_at}
use Rattle.terms.specs.Answer.{Answer, Accepted, Refused}
use Rattle.entry.specs.Entry.{rule_fault}
use Rattle.terms.specs.Limits.{rule_most, entries_most, missized}

-- The number that record i gets: it is entry i.
abbrev pub rule_faults : List ℕ → ℕ → ℕ
rule_faults s i = rule_fault s i (start_of s i)

-- Reading stops at record i.
unfoldable pub rule_stops : List ℕ → ℕ → Bool
rule_stops s i = stops_at (rule_faults s) s i

-- What the rule is answered where reading stops at record i.
unfoldable pub rule_answer_at : List ℕ → ℕ → Answer
rule_answer_at s i = cond (eqb (start_of s i) (length s)) (Accepted i) (Refused (rule_faults s i) (start_of s i))

-- Row 1 comes first; then the first record in byte order that is at fault decides, and where none is the rule is accepted.
unfoldable pub rule_answer : List ℕ → Answer
rule_answer s = cond (missized rule_most s) (Refused 1 0) (rule_answer_at s (first (rule_stops s) entries_most))
