-- What contracts of exported calls name: nothing here has to be believed, since the page (crate demands) states what it comes to.
-- What start, open and close answer, and what they leave in the state's bytes. Document 01, "One pass".
-- Shuts out: a verdict decided once and returned ever after; a rule that looks ahead and is taken; the order of 10 and 11 changed; a
-- refused call that writes.
-- Laws: proofs/CallLaws.antt, proofs/Only.antt, proofs/Agrees.antt (demand 3). Assumes nothing.
use Rattle.std.specs.Prelude.{ℕ, ◌≡◌, Bool, false, cond, List, Result, Ok, Err}
use Rattle.terms.specs.Answer.{number_of, place_of, by_answer, in_order, numbered, Answer, number_of_fault}
use Rattle.terms.specs.declared.refusal.Fault.{Fault}
use Rattle.entry.specs.declared.entry.Entry.{Entry}
use Rattle.rules.specs.Rule.{rule_answer}
use Rattle.tag.specs.Tags.{Tag, opens, closes}
use Rattle.meaning.specs.OnePass.{State, opened_verdict}
use Rattle.walk.specs.Walk.{looks_ahead}
use Rattle.state.specs.Promises.{start_number, state_number}
use Rattle.state.specs.State.{state_of}
use Rattle.state.specs.Stores.{start_after, bytes_after}
use Rattle.onepass.specs.declared.export.StepReply.{StepReply}
use Rattle.rules.specs.Entries.{entries_of}
use Rattle.numbers.specs.Bits.{bit}

-- An answer has a number, a place and a verdict.
abbrev pub reply : (number place verdict : ℕ) → StepReply
reply number place verdict = record { number = number; place = place; verdict = verdict }

-- The reply of an answer: its number and place, and the verdict where it is an acceptance.
abbrev pub reply_of : Answer → (verdict : ℕ) → StepReply
reply_of a verdict = reply (number_of a) (place_of a) (by_answer a verdict 0)

-- The reply of a step with an accepted rule, as the code answers it: its verdict, or its fault.
abbrev pub step_reply : Result Bool Fault → StepReply
step_reply (Ok verdict) = reply 0 0 (bit verdict)
step_reply (Err f) = reply (number_of_fault f) 0 0

-- ---- start

-- Start is answered from the state's length alone.
abbrev pub start_answer : List ℕ → StepReply
start_answer s = reply (start_number s) 0 0

-- ---- open and close with an accepted rule

-- The number of a call, from whether an entry of the rule looks ahead and from the state, in the order 10, 11, 6, 7, 8; 0 where it is
-- taken.
unfoldable pub step_number : (ahead : Bool) → List ℕ → Tag → ℕ
step_number ahead s t = cond ahead 10 (state_number s t)

abbrev pub step_outcome : (ahead : Bool) → List ℕ → Tag → Answer
step_outcome ahead s t = numbered (step_number ahead s t) 0

-- What a call is answered, and the bytes after it, by what verdict and bytes it has where it is taken. Refused: the bytes stay.
unfoldable pub step_answer : (ahead : Bool) → List ℕ → Tag → (verdict : Bool) → StepReply
step_answer ahead s t verdict = reply_of (step_outcome ahead s t) (bit verdict)

unfoldable pub step_after : (ahead : Bool) → List ℕ → Tag → (taken : List ℕ) → List ℕ
step_after ahead s t taken = by_answer (step_outcome ahead s t) taken s

pub record Stepped (ahead : Bool) (state : List ℕ) (t : Tag) (verdict : Bool) (taken : List ℕ) (r : StepReply) (after : List ℕ) : Type 0 where
  pub answer : r ≡ step_answer ahead state t verdict
  pub state_is : after ≡ step_after ahead state t taken

-- The verdict of an opening is the last entry's bit of its word; a closing has none.
abbrev pub verdict_of : List Entry → State → Tag → Bool
verdict_of es st (opens label) = opened_verdict es st label
verdict_of es st closes = false

-- So where the rule has these entries.
abbrev pub call_number : List Entry → List ℕ → Tag → ℕ
call_number es s t = step_number (looks_ahead es) s t

-- ---- the rule's bytes first

-- The order of all refusals of a call with a rule's bytes: what the rule reader answers, with its place, then 10, 11, 6, 7, 8.
unfoldable pub call_outcome : (rule state : List ℕ) → Tag → Answer
call_outcome rule s t = in_order (rule_answer rule) (step_outcome (looks_ahead (entries_of rule)) s t)

-- What the call is answered, and the state's bytes after it.
unfoldable pub answer_of : (rule state : List ℕ) → Tag → StepReply
answer_of rule s t = reply_of (call_outcome rule s t) (bit (verdict_of (entries_of rule) (state_of s) t))

unfoldable pub state_after : (rule state : List ℕ) → Tag → List ℕ
state_after rule s t = by_answer (call_outcome rule s t) (bytes_after (entries_of rule) s t) s

-- ---- the promises

-- What start promises.
pub record Started (state : List ℕ) (r : StepReply) (after : List ℕ) : Type 0 where
  pub answer : r ≡ start_answer state
  pub state_is : after ≡ start_after state

-- What open promises.
pub record Opened (rule state : List ℕ) (label : ℕ) (r : StepReply) (after : List ℕ) : Type 0 where
  pub answer : r ≡ answer_of rule state (opens label)
  pub state_is : after ≡ state_after rule state (opens label)

-- What close promises.
pub record Closed (rule state : List ℕ) (r : StepReply) (after : List ℕ) : Type 0 where
  pub answer : r ≡ answer_of rule state closes
  pub state_is : after ≡ state_after rule state closes
