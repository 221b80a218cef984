-- One call with an accepted rule: when it is taken, and that what each return of the code answers and leaves is what is promised.
-- Assumes nothing.
use Prim.Native.Nat.{ℕ, pred, ◌-◌, ◌≤◌}
use native.Mathlib.Omega.{arith}
use borrow.Author.Tests.{eqb-true, ne_eqb}
use mathlib.Core.Path.{◌≡◌, refl, sym, ap, ◌∙◌}
use mathlib.Core.Bool.{Bool, true, false, cond, ◌&&◌}
use mathlib.Core.List.{List}
use lib.Dec.{eqb}
use lib.ListN.{length}
use Rattle.std.specs.Prelude.{Result, Ok, Err}
use Rattle.terms.specs.Answer.{Answer, Accepted, Refused, place_of, count_of, by_answer, numbered, answered, number_of_fault}
use Rattle.terms.specs.declared.refusal.Fault.{Fault}
use Rattle.terms.specs.declared.refusal.Refusal.{Refusal}
use Rattle.terms.proofs.FaultLaws.{fault-number-some}
use Rattle.entry.specs.declared.entry.Entry.{Entry}
use Rattle.terms.proofs.AnswerLaws.{Sound, order-sound, numbered-sound, numbered-by}
use Rattle.grammar.proofs.WhenRule.{rule-answer-sound}
use Rattle.terms.specs.Limits.{rule_most}
use Rattle.rules.specs.Rule.{rule_answer}
use Rattle.tag.specs.Tags.{Tag, opens, closes}
use Rattle.grammar.proofs.Entries.{entries-count, entries-some}
use Rattle.meaning.specs.OnePass.{fault, opened_verdict}
use Rattle.walk.specs.Walk.{looks_ahead, Walked, Asked}
use Rattle.walk.specs.declared.walk.Ahead.{Ahead}
use Rattle.walk.specs.declared.walk.Walk.{Walk}
use Rattle.walk.proofs.WalkLaws.{walked-ahead, walked-word, asked-ahead}
use Rattle.state.specs.Promises.{WordsRead, state_number, StateOpened, StateClosed}
use Rattle.state.specs.State.{state_of, Good}
use Rattle.state.specs.Stores.{opening, closing, bytes_after}
use Rattle.state.specs.declared.state.Words.{Words}
use Rattle.state.proofs.NumberLaws.{state-taken, state-number, opened-read}
use Rattle.onepass.specs.Step.{reply, reply_of, step_number, step_answer, step_after, Stepped, call_number, verdict_of, call_outcome, answer_of, state_after}
use Rattle.onepass.specs.declared.export.StepReply.{StepReply}
use Rattle.rules.specs.Entries.{entries_of}
use Rattle.rules.proofs.EntryLaws.{rule-small}
use Rattle.numbers.specs.Bits.{bit, bit_at}
use Rattle.numbers.proofs.BitLaws.{pred-sub}

-- ---- what the code answers where the rule is accepted

-- The reply and the bytes by the number.
step-answer : (ahead : Bool) (s : List ℕ) (t : Tag) (v : Bool)
    → step_answer ahead s t v ≡ reply (step_number ahead s t) 0 (bit (eqb (step_number ahead s t) 0 && v))
unfolding step_answer numbered
step-answer ahead s t v = go (eqb k 0) refl where
  k : ℕ
  k = step_number ahead s t

  go : (b : Bool) → eqb k 0 ≡ b → reply_of (cond b (Accepted 0) (Refused k 0)) (bit v) ≡ reply k 0 (bit (b && v))
  go true e = rw (eqb-true k 0 e)
  go false e = refl

step-after : (ahead : Bool) (s : List ℕ) (t : Tag) (x : List ℕ) → step_after ahead s t x ≡ cond (eqb (step_number ahead s t) 0) x s
unfolding step_after
step-after ahead s t x = numbered-by (step_number ahead s t) 0 x s

-- An entry looks ahead: 10, no place, no verdict, and the bytes as they were.
pub step-ahead : (s : List ℕ) (t : Tag) (verdict : Bool) (taken : List ℕ) (ahead : Bool) → ahead ≡ true
    → Stepped ahead s t verdict taken (reply 10 0 0) s
unfolding step_number step_answer step_after numbered
step-ahead s t verdict taken ahead e = record { answer = rw e; state_is = rw e }

-- The test of it tells, by the number of what it gives.
pub ahead-faulty : (ahead : Bool) (f : Fault) → number_of_fault f ≡ cond ahead 10 0 → (ahead ≡ true) × (number_of_fault f ≡ 10)
ahead-faulty true f e = (refl, e)
ahead-faulty false f e = absurd (fault-number-some f e)

pub ahead-none : (ahead : Bool) → ◌≡◌ {A = ℕ} 0 (cond ahead 10 0) → ahead ≡ false
ahead-none true e = absurd (omega arith)
ahead-none false e = refl

-- So it is told by the fault.
pub step-looks-ahead : (s : List ℕ) (t : Tag) (verdict : Bool) (taken : List ℕ) (ahead : Bool) (f : Fault) → number_of_fault f ≡ cond ahead 10 0
    → Stepped ahead s t verdict taken (reply (number_of_fault f) 0 0) s
step-looks-ahead s t verdict taken ahead f e =
    let (is, ten) = ahead-faulty ahead f e in rw ten (step-ahead s t verdict taken ahead is)

-- None does: an opening has the state's fault, or the last entry's bit of the word.
pub opened-step : (s : List ℕ) (label w n k : ℕ) (on : Bool) (after : List ℕ) (ahead : Bool) → ahead ≡ false → StateOpened s label w k after
    → on ≡ bit_at w (n - 1) → Stepped ahead s (opens label) (bit_at w (pred n)) (opening w s) (reply k 0 (bit (eqb k 0 && on))) after
unfolding step_number
opened-step s label w n k on after ahead e o b =
    record {
      answer = rw (e, o.number_is, b, pred-sub n) (sym (step-answer false s (opens label) (bit_at w (pred n))));
      state_is = rw e (o.state_is ∙ sym (step-after false s (opens label) (opening w s)));
    }

pub step-opened : (s : List ℕ) (label w n : ℕ) (on : Bool) (after : List ℕ) (ahead : Bool) → ahead ≡ false → StateOpened s label w 0 after
    → on ≡ bit_at w (n - 1) → Stepped ahead s (opens label) (bit_at w (pred n)) (opening w s) (reply 0 0 (bit on)) after
step-opened s label w n on after ahead e o b = opened-step s label w n 0 on after ahead e o b

pub step-not-opened : (s : List ℕ) (label w n : ℕ) (f : Fault) (after : List ℕ) (ahead : Bool) → ahead ≡ false
    → StateOpened s label w (number_of_fault f) after → Stepped ahead s (opens label) (bit_at w (pred n)) (opening w s) (reply (number_of_fault f) 0 0) after
step-not-opened s label w n f after ahead e o =
    rw (ne_eqb (number_of_fault f) 0 (fault-number-some f)) at (opened-step s label w n (number_of_fault f) (bit_at w (n - 1)) after ahead e o refl)

-- A closing has the state's fault or none.
pub step-closed : (s : List ℕ) (k : ℕ) (after : List ℕ) (ahead : Bool) → ahead ≡ false → StateClosed s k after
    → Stepped ahead s closes false (closing s) (reply k 0 0) after
unfolding step_number
step-closed s k after ahead e o =
    record {
      answer = rw (e, o.number_is) (ap (reply (state_number s closes) 0) (none (eqb (state_number s closes) 0)) ∙ sym (step-answer false s closes false));
      state_is = rw e (o.state_is ∙ sym (step-after false s closes (closing s)));
    }
  where
    none : (b : Bool) → 0 ≡ bit (b && false)
    none true = refl
    none false = refl

-- ---- when a call is taken

module _ (ahead : Bool) (s : List ℕ) (t : Tag) where
  -- Only where no entry looks ahead, and the state takes the tag.
  step-taken : step_number ahead s t ≡ 0 → (ahead ≡ false) × (state_number s t ≡ 0)
  unfolding step_number
  step-taken z = go ahead z where
    go : (a : Bool) → cond a 10 (state_number s t) ≡ 0 → (a ≡ false) × (state_number s t ≡ 0)
    go true r = absurd (omega arith)
    go false r = (refl, r)

module _ (es : List Entry) (s : List ℕ) (t : Tag) where
  -- So only where no entry looks ahead, the state passes the test, and the tag has no fault there.
  pub call-taken : call_number es s t ≡ 0 → (looks_ahead es ≡ false) × (Good s × (◌≡◌ {A = ℕ} (fault (state_of s) t) 0))
  call-taken z = let r = step-taken (looks_ahead es) s t z in (r.0, state-taken s t r.1)

  -- Where no entry looks ahead and the state passes the test, the tag's fault is the number.
  pub call-number : looks_ahead es ≡ false → Good s → call_number es s t ≡ fault (state_of s) t
  unfolding step_number
  call-number a g = rw a (state-number s t g)

-- Verdict and bytes count only where the call is taken: two that agree there are one.
step_same : (ahead : Bool) (s : List ℕ) (t : Tag) (v v' : Bool) (x x' : List ℕ) → (step_number ahead s t ≡ 0 → (v ≡ v') × (x ≡ x'))
    → (step_answer ahead s t v ≡ step_answer ahead s t v') × (step_after ahead s t x ≡ step_after ahead s t x')
unfolding step_answer step_after numbered
step_same ahead s t v v' x x' h = go (eqb k 0) refl where
  k : ℕ
  k = step_number ahead s t

  outcome : Bool → Answer
  outcome b = cond b (Accepted 0) (Refused k 0)

  go : (b : Bool) → eqb k 0 ≡ b → (reply_of (outcome b) (bit v) ≡ reply_of (outcome b) (bit v')) × (by_answer (outcome b) x s ≡ by_answer (outcome b) x' s)
  go true e = let q = h (eqb-true k 0 e) in (rw q.0, q.1)
  go false e = (refl, refl)

-- ---- the rule's bytes first

module _ (rule s : List ℕ) (n : ℕ) where
  -- With an accepted rule of n entries an opening is answered by the walk's word, and that is the meaning's where it is taken.
  pub opened-call : (label : ℕ) (words : Words) (walk : Walk) (r : StepReply) (after : List ℕ) → WordsRead s words
      → Walked rule label words.parent words.sibling walk → walk.answer ≡ Ok n
      → Stepped walk.ahead s (opens label) (bit_at walk.word (pred n)) (opening walk.word s) r after
      → (r ≡ answer_of rule s (opens label)) × (after ≡ state_after rule s (opens label))
  unfolding call_outcome answer_of state_after step_answer step_after bytes_after opened_verdict
  opened-call label words walk r after read w a o =
      let es = entries_of rule in
      let e : rule_answer rule ≡ Accepted n = sym w.answer_is ∙ ap answered a in
      let ahead = walked-ahead rule n label _ _ walk w a in
      let count : n ≡ length es = sym (entries-count rule ∙ ap count_of e) in
      let q = step_same walk.ahead s (opens label) (bit_at walk.word (pred n)) (verdict_of es (state_of s) (opens label)) (opening walk.word s) (bytes_after es s (opens label))
      (λ z. let word = walked-word rule n label _ _ walk w a ∙ opened-read es s label words read (step-taken _ s (opens label) z).1 in (rw (word, count), rw word)) in
      (rw (e, ← ahead) (o.answer ∙ q.0), rw (e, ← ahead) (o.state_is ∙ q.1))

  -- And a closing by what the walk without a step says.
  pub closed-call : (asked : Ahead) (r : StepReply) (after : List ℕ) → Asked rule asked → asked.answer ≡ Ok n
      → Stepped asked.ahead s closes false (closing s) r after → (r ≡ answer_of rule s closes) × (after ≡ state_after rule s closes)
  unfolding call_outcome answer_of state_after step_answer step_after bytes_after
  closed-call asked r after w a o =
      let e : rule_answer rule ≡ Accepted n = sym w.answer_is ∙ ap answered a in
      let ahead = asked-ahead rule n asked w a in
      (rw (e, ← ahead) o.answer, rw (e, ← ahead) o.state_is)

-- With a refused one a call is answered the rule reader's number and place, and the bytes stay.
pub refused-call : (rule s : List ℕ) (t : Tag) (k p : ℕ) → rule_answer rule ≡ Refused k p → (reply k p 0 ≡ answer_of rule s t) × (s ≡ state_after rule s t)
unfolding call_outcome answer_of state_after
refused-call rule s t k p e = (rw e, rw e)

-- An accepted rule has an entry.
pub accepted-some : (rule : List ℕ) (r : Result ℕ Refusal) (n : ℕ) → answered r ≡ rule_answer rule → r ≡ Ok n → 1 ≤ n
accepted-some rule r n e f = entries-some rule n (sym e ∙ ap answered f)

-- The place of a refused rule fits 32 bits.
pub refused-place : (rule : List ℕ) (r : Result ℕ Refusal) (x : Refusal) → answered r ≡ rule_answer rule → r ≡ Err x → x.place ≤ rule_most
refused-place rule r x e f = omega (arith, (rule-small rule).place_in, ap place_of (sym e ∙ ap answered f))

-- No refusal of a call has number 0.
pub call-sound : (rule s : List ℕ) (t : Tag) → Sound (call_outcome rule s t)
unfolding call_outcome
call-sound rule s t = order-sound (rule_answer rule) _ (rule-answer-sound rule) (numbered-sound (call_number (entries_of rule) s t) 0)
