-- Start, open and close follow their tables: demand 1 of one pass. Assumes nothing.
use Prim.Native.Nat.{ℕ, zero, suc}
use native.Mathlib.Omega.{arith}
use native.Mathlib.Nat.{not-suc-le-zero, le_of_suc-le-suc}
use mathlib.Core.Path.{◌≡◌, refl, sym, ap, ◌∙◌}
use mathlib.Core.Bool.{Bool, true, false, cond, not, ◌||◌}
use mathlib.Core.List.{List, [], ◌∷◌}
use mathlib.Core.Logic.{◌↔◌, ◌⊎◌, inl, inr}
use lib.Dec.{eqb}
use lib.ListN.{length, replicate}
use Rattle.numbers.specs.Bytes.{Bytes}
use Rattle.numbers.specs.Bits.{bit}
use Rattle.numbers.proofs.Tells.{IsTest, holds, fails, test_iff, eqb-tests, not-tests}
use Rattle.terms.specs.Kinds.{looks_back}
use Rattle.terms.specs.Answer.{number_of, by_answer, in_order, numbered, Answer, Accepted, Refused}
use Rattle.terms.proofs.AnswerLaws.{refused-not}
use Rattle.entry.specs.declared.entry.Entry.{Entry}
use Rattle.tag.specs.Tags.{Tag, opens, closes, tag_fault}
use Rattle.rules.specs.Rule.{rule_answer}
use Rattle.rules.specs.Entries.{entries_of}
use Rattle.grammar.specs.Rules.{IsRule, LooksBack}
use Rattle.grammar.specs.When.{TooMuch}
use Rattle.grammar.proofs.Chain.{chain, chain-numbers, chain-first-iff, chain-second-iff, chain-third-iff}
use Rattle.grammar.proofs.TagRows.{mislabels, overfills, mislabels-told, overfills-told, numbers-distinct}
use Rattle.grammar.proofs.Refusals.{rule-refused-iff}
use Rattle.meaning.specs.OnePass.{fault}
use Rattle.walk.specs.Walk.{looks_ahead}
use Rattle.walk.proofs.WalkLaws.{back-ahead}
use Rattle.fields.specs.Fields.{state_size, bad_size}
use Rattle.state.specs.State.{depth_in, elements_in, root_in, state_of, bad, Good}
use Rattle.state.specs.Promises.{start_number, state_number}
use Rattle.state.specs.Stores.{start_after}
use Rattle.state.proofs.GoodLaws.{good-iff}
use Rattle.onepass.specs.Step.{step_number, step_outcome, call_outcome, answer_of, verdict_of}
use Rattle.onepass.specs.declared.export.StepReply.{StepReply}
use Rattle.onepass.proofs.CallLaws.{call-sound}
use Rattle.onepass.proofs.Agrees.{promised-both, refused-kept}
use Rattle.demands.specs.Demands.{StartRow, Start, OutOfPlace, nothing-open, root-closed, TagRow, row-6, row-7, row-8}
use Rattle.demands.specs.Demands.{CallRow, of-rule, row-10, row-11, of-tag, OpenAndClose}
use Rattle.demands.proofs.Follows.{clash, follows_of, one-row}
use Rattle.demands.proofs.Readers.{is-taken, is-entries, taken_is}

-- ---- start

start-row : (state : List ℕ) (k p : ℕ) → StartRow state k p → (length state ≡ state_size → ⊥) × (11 ≡ k) × (0 ≡ p)
start-row state k p (row-11 n) = (n, refl, refl)

pub start : Start
unfolding start_number start_after bad_size
start state after r e =
    record {
      follows = rw e.answer
          (one-row (StartRow state) _ 11 (omega arith) (not-tests (eqb-tests (length state) state_size)) row-11 (start-row state));
      kept = λ h. e.state_is ∙ still (bad_size (length state)) (λ z. h (rw e.answer z));
      zeros = λ z. e.state_is ∙ cleared (bad_size (length state)) (rw e.answer at z);
      unjudged = ap (λ (x : StepReply). x.verdict) e.answer;
    }
  where
    still : (b : Bool) → (◌≡◌ {A = ℕ} (cond b 11 0) 0 → ⊥) → cond b state (replicate state_size 0) ≡ state
    still true h = refl
    still false h = absurd (h refl)

    cleared : (b : Bool) → ◌≡◌ {A = ℕ} (cond b 11 0) 0 → cond b state (replicate state_size 0) ≡ replicate state_size 0
    cleared true z = absurd (omega arith)
    cleared false z = refl

-- ---- the tag's rows

module _ (state : List ℕ) where
  -- The test of row 7.
  abbrev shut : Tag → Bool
  shut (opens label) = eqb (root_in state) 1
  shut closes = eqb (depth_in state) 0

  open-place : {label : ℕ} → OutOfPlace state (opens label) → root_in state ≡ 1
  open-place (root-closed e) = e

  close-place : OutOfPlace state closes → depth_in state ≡ 0
  close-place (nothing-open e) = e

  shut-told : (t : Tag) → IsTest (OutOfPlace state t) (shut t)
  shut-told (opens label) = test_iff (eqb-tests (root_in state) 1) (root-closed, open-place)
  shut-told closes = test_iff (eqb-tests (depth_in state) 0) (nothing-open, close-place)

  fault-is : (t : Tag) → fault (state_of state) t ≡ chain 6 7 8 (mislabels t) (shut t) (overfills (depth_in state) (elements_in state) t)
  unfolding tag_fault state_of
  fault-is (opens label) = refl
  fault-is closes = refl

  module _ (t : Tag) where
    over-told : IsTest (TooMuch (depth_in state) (elements_in state) t) (overfills (depth_in state) (elements_in state) t)
    over-told = overfills-told (depth_in state) (elements_in state) t

    there-6 : fault (state_of state) t ≡ 6 → TagRow state t 6
    there-6 e = row-6 ((chain-first-iff 6 7 8 numbers-distinct (mislabels-told t) (shut-told t) over-told).0 (sym (fault-is t) ∙ e))

    there-7 : fault (state_of state) t ≡ 7 → TagRow state t 7
    there-7 e =
        let h = (chain-second-iff 6 7 8 numbers-distinct (mislabels-told t) (shut-told t) over-told).0 (sym (fault-is t) ∙ e) in row-7 h.0 h.1

    there-8 : fault (state_of state) t ≡ 8 → TagRow state t 8
    there-8 e =
        let h = (chain-third-iff 6 7 8 numbers-distinct (mislabels-told t) (shut-told t) over-told).0 (sym (fault-is t) ∙ e) in
        row-8 h.0 h.1.0 h.1.1

    -- A tag's number from the state is that of its row.
    tag-row : (k : ℕ) → (k ≡ 0 → ⊥) → fault (state_of state) t ≡ k → TagRow state t k
    tag-row k n e = go (chain-numbers 6 7 8 (mislabels t) (shut t) (overfills (depth_in state) (elements_in state) t) k (sym (fault-is t) ∙ e) n) where
      go : (k ≡ 6) ⊎ ((k ≡ 7) ⊎ (k ≡ 8)) → TagRow state t k
      go (inl z) = rw z (there-6 (e ∙ z))
      go (inr (inl z)) = rw z (there-7 (e ∙ z))
      go (inr (inr z)) = rw z (there-8 (e ∙ z))

    row-tag : {k : ℕ} → TagRow state t k → (fault (state_of state) t ≡ k) × (k ≡ 0 → ⊥)
    row-tag (row-6 m) =
        (fault-is t ∙ (chain-first-iff 6 7 8 numbers-distinct (mislabels-told t) (shut-told t) over-told).1 m, λ z. omega arith)
    row-tag (row-7 n o) =
        (fault-is t ∙ (chain-second-iff 6 7 8 numbers-distinct (mislabels-told t) (shut-told t) over-told).1 (n, o), λ z. omega arith)
    row-tag (row-8 n o m) =
        (fault-is t ∙ (chain-third-iff 6 7 8 numbers-distinct (mislabels-told t) (shut-told t) over-told).1 (n, (o, m)), λ z. omega arith)

-- ---- whether an entry looks ahead

-- The test of row 10 passes at no list of entries that look back.
ahead-back : (es : List Entry) → looks_ahead es ≡ false → LooksBack es
unfolding looks_ahead
ahead-back [] e i l = absurd (not-suc-le-zero l)
ahead-back (x ∷ es) e zero l = kind (looks_back x.kind) refl e where
  kind : (b : Bool) → looks_back x.kind ≡ b → not b || looks_ahead es ≡ false → looks_back x.kind ≡ true
  kind true f g = f
  kind false f g = let z : ◌≡◌ {A = ℕ} 0 1 = cc in absurd (omega arith)
ahead-back (x ∷ es) e (suc i) l = ahead-back es (rest (looks_back x.kind) e) i (le_of_suc-le-suc l) where
  rest : (b : Bool) → not b || looks_ahead es ≡ false → looks_ahead es ≡ false
  rest true g = g
  rest false g = let z : ◌≡◌ {A = ℕ} 0 1 = cc in absurd (omega arith)

-- ---- a call

-- What a table of numbers answers is a refusal exactly by its number, and at 0.
numbered-iff : (n k p : ℕ) → (numbered n 0 ≡ Refused k p) ↔ ((n ≡ 0 → ⊥) × (n ≡ k) × (0 ≡ p))
unfolding numbered
numbered-iff n k p = go (eqb-tests n 0) where
  go : {b : Bool} → IsTest (n ≡ 0) b → (cond b (Accepted 0) (Refused n 0) ≡ Refused k p) ↔ ((n ≡ 0 → ⊥) × (n ≡ k) × (0 ≡ p))
  go (holds z) = (λ e. refused-not (sym e), λ h. absurd (h.0 z))
  go (fails m) = (λ e. (m, cc, cc), λ h. cc (h.1, h.2))

module _ (rule state : List ℕ) (t : Tag) where
  -- With an accepted rule the number is that of rows 10, 11, and the tag's.
  step-row : {es : List Entry} → IsRule rule es → (k : ℕ) → (k ≡ 0 → ⊥) → step_number (looks_ahead es) state t ≡ k → CallRow rule state t k 0
  unfolding step_number state_number
  step-row {es} i k some e = ahead (looks_ahead es) refl e where
    judged : LooksBack es → (b : Bool) → bad state ≡ b → cond b 11 (fault (state_of state) t) ≡ k → CallRow rule state t k 0
    judged back true f g = rw (← g) (row-11 i back (λ good. clash (sym f ∙ (good-iff state).1 good)))
    judged back false f g = of-tag i back ((good-iff state).0 f) (tag-row state t k some g)

    ahead : (a : Bool) → looks_ahead es ≡ a → cond a 10 (cond (bad state) 11 (fault (state_of state) t)) ≡ k → CallRow rule state t k 0
    ahead true f g = rw (← g) (row-10 i (λ back. clash (sym f ∙ back-ahead es back)))
    ahead false f g = judged (ahead-back es f) (bad state) refl g

  ahead-first : (es : List Entry) → (LooksBack es → ⊥) → step_number (looks_ahead es) state t ≡ 10
  unfolding step_number
  ahead-first es n = go (looks_ahead es) refl where
    go : (b : Bool) → looks_ahead es ≡ b → cond b 10 (state_number state t) ≡ 10
    go true e = refl
    go false e = absurd (n (ahead-back es e))

  bad-second : (es : List Entry) → LooksBack es → (Good state → ⊥) → step_number (looks_ahead es) state t ≡ 11
  unfolding step_number state_number
  bad-second es back n = rw (back-ahead es back) (go (bad state) refl) where
    go : (b : Bool) → bad state ≡ b → cond b 11 (fault (state_of state) t) ≡ 11
    go true e = refl
    go false e = absurd (n ((good-iff state).0 e))

  row_step : (es : List Entry) {k : ℕ} → LooksBack es → Good state → TagRow state t k → step_number (looks_ahead es) state t ≡ k
  unfolding step_number state_number
  row_step es back good r = rw (back-ahead es back, (good-iff state).1 good) (row-tag state t r).0

  -- The order of refusals is the table's.
  call-iff : Bytes rule → (k p : ℕ) → (call_outcome rule state t ≡ Refused k p) ↔ CallRow rule state t k p
  unfolding call_outcome
  call-iff bytes k p = (go (rule_answer rule) refl, back) where
    go : (a : Answer) → rule_answer rule ≡ a → in_order a (step_outcome (looks_ahead (entries_of rule)) state t) ≡ Refused k p → CallRow rule state t k p
    go (Accepted n) a e =
        let (es, i) = taken_is bytes a in
        let h = (numbered-iff (step_number (looks_ahead (entries_of rule)) state t) k p).0 e in
        rw (← h.2) (step-row i k (λ z. h.0 (h.1 ∙ z)) (rw (is-entries i) at h.1))
    go (Refused m q) a e = of-rule ((rule-refused-iff rule k p).0 (a ∙ e))

    taken : {es : List Entry} {m : ℕ} → IsRule rule es → (m ≡ 0 → ⊥) → step_number (looks_ahead es) state t ≡ m
        → in_order (rule_answer rule) (step_outcome (looks_ahead (entries_of rule)) state t) ≡ Refused m 0
    taken {es} {m} i some e = rw (is-taken i, is-entries i) ((numbered-iff _ m 0).1 (λ z. some (sym e ∙ z), e, refl))

    back : {m q : ℕ} → CallRow rule state t m q → in_order (rule_answer rule) (step_outcome (looks_ahead (entries_of rule)) state t) ≡ Refused m q
    back {m} {q} (of-rule r) = rw ((rule-refused-iff rule m q).1 r)
    back (row-10 {es} i n) = taken i (omega arith) (ahead-first es n)
    back (row-11 {es} i b n) = taken i (omega arith) (bad-second es b n)
    back (of-tag {es} i b g r) = taken i (row-tag state t r).1 (row_step es b g r)

pub open_and_close : OpenAndClose
unfolding answer_of
open_and_close rule state after t r bytes e =
    let (answer, left) = promised-both rule state t e in
    record {
      follows = rw answer (follows_of (CallRow rule state t) (call_outcome rule state t) (call-iff rule state t bytes) (call-sound rule state t));
      kept = refused-kept rule state t r after e;
      unjudged = λ h.
          elim h [
            | inl n ↦ rw answer (silent (call_outcome rule state t) (λ z. n (rw answer z)))
            | inr c ↦ rw (answer, c) (closed (call_outcome rule state closes))
          ];
    }
  where
    silent : (a : Answer) → (number_of a ≡ 0 → ⊥) → by_answer a (bit (verdict_of (entries_of rule) (state_of state) t)) 0 ≡ 0
    silent (Accepted n) h = absurd (h refl)
    silent (Refused k p) h = refl

    closed : (a : Answer) → by_answer a (bit (verdict_of (entries_of rule) (state_of state) closes)) 0 ≡ 0
    closed (Accepted n) = refl
    closed (Refused k p) = refl
