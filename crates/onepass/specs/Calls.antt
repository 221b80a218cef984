-- A sequence of open and close calls with one rule, each answered as the promises say: what demand 3 is stated over.
-- Laws: proofs/Agrees.antt. Assumes nothing.
use Rattle.std.specs.Prelude.{ℕ, cond, List, [], ◌∷◌, ◌++◌, ◌≡◌, eqb}
use Rattle.reports.specs.Report.{report_answer}
use Rattle.tag.specs.Tags.{Tag, opens, closes}
use Rattle.terms.specs.Answer.{Accepted}
use Rattle.numbers.specs.Bytes.{Bytes}
use Rattle.grammar.specs.Reports.{bytes_of}
use Rattle.onepass.specs.Step.{Opened, Closed}
use Rattle.onepass.specs.declared.export.StepReply.{StepReply}

-- A call is open with a label, or close, and its answer.
pub record Call : Type 0 where
  pub tag : Tag
  pub answer : StepReply

-- What a call promises.
abbrev pub Promised : (rule state : List ℕ) → Tag → StepReply → List ℕ → Type 0
Promised rule state (opens label) r after = Opened rule state label r after
Promised rule state closes r after = Closed rule state r after

-- The calls lead from the bytes of one state to those of another, each answered as it promises.
pub data Calls (rule : List ℕ) : List ℕ → List Call → List ℕ → Type 0 where
  done : {s : List ℕ} → Calls rule s [] s
  then : {s next end : List ℕ} {c : Call} {cs : List Call} → Promised rule s c.tag c.answer next → Calls rule next cs end
      → Calls rule s (c ∷ cs) end

-- The tags of all the calls, and of those that were answered 0.
unfoldable pub tags_called : List Call → List Tag
tags_called [] = []
tags_called (c ∷ cs) = c.tag ∷ tags_called cs

unfoldable pub taken : List Call → List Call
taken [] = []
taken (c ∷ cs) = cond (eqb c.answer.number 0) (c ∷ taken cs) (taken cs)

abbrev pub taken_tags : List Call → List Tag
taken_tags cs = tags_called (taken cs)

-- ==== Working definitions: nothing below has to be believed

-- A report of n elements that the report reader accepts and whose bytes begin with the bytes of some tags.
pub record BeginsWith (tags : List Tag) (report : List ℕ) (n : ℕ) : Type 0 where
  pub bytes : Bytes report
  pub accepted : report_answer report ≡ Accepted n
  pub rest : List ℕ
  pub begins : bytes_of tags ++ rest ≡ report
