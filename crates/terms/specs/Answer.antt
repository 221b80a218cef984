-- Working definitions: nothing here has to be believed.
-- The cases of a reader's answer, with the paper's number and values of each. Document 01, "Numbers given back": number 0 is
-- accepted; the place is 0 and the count is the entries or elements there; on refusal the count is 0. Answers are put in the order in
-- which the tables are asked by `in_order`, and every promise says its number and place by `number_of` and `place_of` of the whole.
-- The code answers by a Result with an error of its own type: `answered` says which of these answers it is.
-- Laws: proofs/AnswerLaws.antt, proofs/FaultLaws.antt. Assumes nothing.
use Rattle.std.specs.Prelude.{ℕ, cond, List, [], eqb, Result, Ok, Err}
use Rattle.terms.specs.declared.refusal.Fault.{Fault}
use Rattle.terms.specs.declared.refusal.Fault.TheVariants.{RuleSize, RuleRecord, RuleArgument, RuleFull, ReportSize, ReportRecord, ReportOrder, ReportFull, BufferShort, RuleAhead, StateBad, TallyBad, TextBad, TextFull}
use Rattle.terms.specs.declared.refusal.Refusal.{Refusal}

-- A string is accepted, with so many entries or elements, or refused with a number of the document at a place.
pub data Answer : Type 0 where
  Accepted : (count : ℕ) → Answer
  Refused : (number place : ℕ) → Answer

abbrev pub number_of : Answer → ℕ
number_of (Accepted n) = 0
number_of (Refused number place) = number

abbrev pub place_of : Answer → ℕ
place_of (Accepted n) = 0
place_of (Refused number place) = place

abbrev pub count_of : Answer → ℕ
count_of (Accepted n) = n
count_of (Refused number place) = 0

-- One thing where the answer is an acceptance, another where it is a refusal.
abbrev pub by_answer {ℓ} : {A : Type ℓ} → Answer → (accepted refused : A) → A
by_answer (Accepted n) x y = x
by_answer (Refused number place) x y = y

-- What an accepted string holds; nothing in a refused one.
abbrev pub where_accepted {ℓ} : {A : Type ℓ} → Answer → List A → List A
where_accepted a xs = by_answer a xs []

-- The order of refusals: the first answer decides where it is a refusal, else the second does.
abbrev pub in_order : Answer → Answer → Answer
in_order a b = by_answer a b a

-- The answer of a table that gives a number, 0 where no row of it applies; its refusals have place 0.
unfoldable pub numbered : (number count : ℕ) → Answer
numbered number count = cond (eqb number 0) (Accepted count) (Refused number 0)

-- The answer is an acceptance.
abbrev pub Accepts : Answer → Type 0
Accepts (Accepted n) = Unit {0}
Accepts (Refused number place) = ⊥

-- ---- what the code answers

-- The number of each fault that the code names.
unfoldable pub number_of_fault : Fault → ℕ
number_of_fault RuleSize = 1
number_of_fault RuleRecord = 2
number_of_fault RuleArgument = 3
number_of_fault RuleFull = 4
number_of_fault ReportSize = 5
number_of_fault ReportRecord = 6
number_of_fault ReportOrder = 7
number_of_fault ReportFull = 8
number_of_fault BufferShort = 9
number_of_fault RuleAhead = 10
number_of_fault StateBad = 11
number_of_fault TallyBad = 12
number_of_fault TextBad = 13
number_of_fault TextFull = 14

-- What a Result of a reader answers.
abbrev pub answered : Result ℕ Refusal → Answer
answered (Ok n) = Accepted n
answered (Err r) = Refused (number_of_fault r.fault) r.place

-- The number of what has a fault or none; 0 where it has none.
abbrev pub fault_number : {A : Type 0} → Result A Fault → ℕ
fault_number (Ok x) = 0
fault_number (Err f) = number_of_fault f
