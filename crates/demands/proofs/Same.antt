-- Both engines say the same: feeding an accepted report's tags to one pass gives, at each opening, the last entry's bit of the word
-- that the evaluator has written for that element. Over the promises of the two, by what both say of the meaning.
-- Assumes nothing.
use Prim.Native.Nat.{ℕ, pred, ◌+◌, ◌≤◌, ◌<◌}
use native.Mathlib.Omega.{arith}
use mathlib.Core.Path.{◌≡◌, refl, sym, ap, ◌∙◌}
use mathlib.Core.Bool.{Bool, true, false}
use mathlib.Core.Logic.{◌↔◌}
use mathlib.Core.List.{List, ◌∷◌, ◌++◌}
use lib.ListN.{length, get_or}
use Rattle.reports.specs.Report.{report_answer, tags_of as tags_in}
use Rattle.rules.specs.Rule.{rule_answer}
use Rattle.tag.specs.Tags.{opens, labels, opened_count}
use Rattle.terms.specs.Answer.{Accepted}
use Rattle.tag.proofs.TagLaws.{opened-append}
use Rattle.numbers.specs.Bytes.{Bytes}
use Rattle.grammar.proofs.Elements.{labels-accepted, elements-count, levels-elements}
use Rattle.grammar.specs.Rules.{LooksBack}
use Rattle.marking.specs.Evaluation.{Evaluated}
use Rattle.marking.specs.declared.report.Evaluation.{Evaluation}
use Rattle.marking.proofs.Means.{word_is}
use Rattle.onepass.specs.Step.{Started}
use Rattle.onepass.specs.Calls.{Call, Calls, tags_called}
use Rattle.onepass.specs.declared.export.StepReply.{StepReply}
use Rattle.onepass.proofs.Agrees.{tags-append, report-fed}
use Rattle.rules.specs.Entries.{entries_of}
use Rattle.reports.specs.Elements.{labels_of, levels_of}
use Rattle.numbers.specs.Bits.{bit, bit_at}

-- A bit is 1 exactly where it is set, and no more than that.
pub bit-one : (b : Bool) → (bit b ≡ 1) ↔ (b ≡ true)
bit-one true = (λ e. refl, λ e. refl)
bit-one false = (λ e. absurd (omega arith), λ e. let z : ◌≡◌ {A = ℕ} 0 1 = cc in absurd (omega arith))

pub bit-few : (b : Bool) → bit b ≤ 1
bit-few true = omega arith
bit-few false = omega arith

-- An opening among an accepted report's tags is one of its elements.
pub opening-there : (report : List ℕ) (n : ℕ) → report_answer report ≡ Accepted n → (before : List Call) (label : ℕ) (r : StepReply) (later : List Call)
    → tags_called (before ++ (record { tag = opens label; answer = r } ∷ later)) ≡ tags_in report → opened_count (tags_called before) < length (levels_of report)
unfolding tags_called labels
opening-there report n report_taken before label r later fed =
    let all : opened_count (tags_in report) ≡ opened_count (tags_called before) + opened_count (opens label ∷ tags_called later) =
    ap opened_count (sym fed ∙ tags-append before (record { tag = opens label; answer = r } ∷ later)) ∙ opened-append (tags_called before) (opens label ∷ tags_called later) in
    let count : length (labels_of report) ≡ opened_count (tags_in report) = ap length (labels-accepted report n report_taken) in
    omega (arith, all, count, elements-count report, levels-elements report)

module _ (rule report : List ℕ) (m n : ℕ) (rule_taken : rule_answer rule ≡ Accepted m) (back : LooksBack (entries_of rule))
    (bytes : Bytes report) (report_taken : report_answer report ≡ Accepted n) where
  -- The evaluator has accepted rule and report and left `after`; one pass was started and fed all the report's tags. Then each opening
  -- is answered 0, with the last entry's bit of that element's word in `after`.
  pub engines-agree : (marks after : List ℕ) (e : Evaluation) → Evaluated rule report marks e after → e.number ≡ 0
      → (given start end : List ℕ) (r₀ : StepReply) → Started given r₀ start → r₀.number ≡ 0
      → (before : List Call) (label : ℕ) (r : StepReply) (later : List Call)
      → Calls rule start (before ++ (record { tag = opens label; answer = r } ∷ later)) end
      → tags_called (before ++ (record { tag = opens label; answer = r } ∷ later)) ≡ tags_in report
      → (r.number ≡ 0) × (r.verdict ≡ bit (bit_at (get_or after (opened_count (tags_called before)) 0) (pred (length (entries_of rule)))))
  engines-agree marks after e evaluated zero given start end r₀ started begun before label r later calls fed =
      let q = report-fed rule m rule_taken back given start r₀ started begun report n bytes report_taken
      (before ++ (record { tag = opens label; answer = r } ∷ later)) end calls fed before label r later refl in
      (q.0, q.1 ∙ rw (word_is rule report marks e after evaluated zero (opened_count (tags_called before)) (opening-there report n report_taken before label r later fed)))
