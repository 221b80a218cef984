-- The program reads at most 65,536 bytes, and that changes no printout: what stands behind them plays no part. Where the rule is
-- longer than a rule may be, 1 is told however much follows; where it is not, the report is too long with the rest and without it.
-- Assumes nothing.
use Prim.Native.Nat.{ℕ, ◌+◌, ◌*◌, ◌-◌, ◌≤◌, ◌<◌}
use native.Mathlib.Omega.{arith}
use native.Mathlib.Decide.{dec_lt}
use mathlib.Core.Path.{◌≡◌, refl, sym, ap, ◌∙◌}
use mathlib.Core.List.{List, ◌++◌}
use mathlib.Core.Logic.{inr}
use lib.ListN.{length, get_or, take, drop, length-drop, length-append, get_or-append}
use lib.Seq.{length-take-le, take-append-le, drop-append-le}
use Rattle.numbers.specs.Bytes.{word_at}
use Rattle.rules.specs.Rule.{rule_answer}
use Rattle.reports.specs.Report.{report_answer}
use Rattle.terms.specs.Answer.{in_order, Answer, Accepted, Refused}
use Rattle.grammar.proofs.WhenRule.{rule-1-iff}
use Rattle.grammar.proofs.WhenReport.{report-5-iff}
use Rattle.marking.specs.Evaluation.{short_of_room, outcome}
use Rattle.text.specs.Text.{refused_line}
use Rattle.judge.specs.Input.{rule_end, rule_in, report_in}
use Rattle.judge.specs.Output.{room, printed, accepted_printout, printout_of_both, printout_at, printout_of}
use Rattle.judge.proofs.SplitLaws.{split-long, split-fits}
use Rattle.terms.specs.Limits.{report_most, rule_most}

-- ---- what a refusal is printed as

module _ (rule report : List ℕ) where
  -- A refused rule is printed by its own number and place, whatever the report is.
  pub rule-refused-told : (k p : ℕ) → rule_answer rule ≡ Refused k p → printout_of_both rule report ≡ refused_line k p
  unfolding printout_of_both outcome
  rule-refused-told k p e =
      ap (λ (a : Answer). printed (in_order a (short_of_room room (report_answer report))) (accepted_printout rule report)) e

  -- A report that is too long is printed so, where the rule is accepted.
  pub report-long-told : (m : ℕ) → rule_answer rule ≡ Accepted m → report_most < length report → printout_of_both rule report ≡ refused_line 5 0
  unfolding printout_of_both outcome short_of_room
  report-long-told m e h =
      ap (λ (a : Answer). printed (in_order a (short_of_room room (report_answer report))) (accepted_printout rule report)) e
      ∙ ap (λ (b : Answer). printed (short_of_room room b) (accepted_printout rule report)) ((report-5-iff report 0).1 (refl, inr h))

  -- A rule that is too long is told so, whatever it is.
  pub rule-long-told : rule_most < length rule → printout_of_both rule report ≡ refused_line 1 0
  rule-long-told h = rule-refused-told 1 0 ((rule-1-iff rule 0).1 (refl, inr h))

-- With one rule, two reports that are too long have the same printout.
pub long-reports-same : (rule report report' : List ℕ) → report_most < length report → report_most < length report'
    → printout_of_both rule report ≡ printout_of_both rule report'
long-reports-same rule report report' h h' = go (rule_answer rule) refl
  where
    go : (a : Answer) → rule_answer rule ≡ a → printout_of_both rule report ≡ printout_of_both rule report'
    go (Accepted m) e = report-long-told rule report m e h ∙ sym (report-long-told rule report' m e h')
    go (Refused k p) e = rule-refused-told rule report k p e ∙ sym (rule-refused-told rule report' k p e)

-- ---- the printout by the rule's end

module _ (s : List ℕ) (h : 2 ≤ length s) where
  -- Where the rule ends within the input, the printout is that of rule and report.
  pub printout-split : rule_end s ≤ length s → printout_of s ≡ printout_of_both (rule_in s (rule_end s)) (report_in s (rule_end s))
  unfolding printout_at printout_of_both
  printout-split l = ap (printout_at s) (split-fits s h l)

  -- A rule of more than 512 bytes is told as 1, whether the input has all of it or not.
  pub printout-long-rule : 514 < rule_end s → printout_of s ≡ refused_line 1 0
  unfolding printout_at rule_in
  printout-long-rule m =
      elim (dec_lt (length s) (rule_end s)) [
        | yes l ↦ ap (printout_at s) (split-long s h l)
        | no n ↦ printout-split (omega (arith, n))
            ∙ rule-long-told (rule_in s (rule_end s)) (report_in s (rule_end s))
            (rw (length-take-le (rule_end s - 2) (drop 2 s) (rw (length-drop 2 s) (omega (arith, n)))) (omega arith))
      ]

-- ---- what stands behind the bytes that are read

-- The printout of the first 65,536 bytes is the printout of the whole input.
pub read-enough : (s rest : List ℕ) → length s ≡ 65536 → printout_of s ≡ printout_of (s ++ rest)
unfolding rule_end word_at rule_in report_in
read-enough s rest n =
    elim (dec_lt 514 (rule_end s)) [
      | yes l ↦ printout-long-rule s (omega arith) l ∙ sym (printout-long-rule (s ++ rest) two (omega (arith, ends)))
      | no k ↦ printout-split s (omega arith) (omega (arith, k)) ∙ same (omega (arith, k)) ∙ sym (printout-split (s ++ rest) two (omega (arith, k, ends, size)))
    ]
  where
    size : length (s ++ rest) ≡ length s + length rest
    size = length-append s rest

    two : 2 ≤ length (s ++ rest)
    two = omega (arith, size)

    ends : rule_end (s ++ rest) ≡ rule_end s
    ends =
        ap (λ (x : ℕ). 2 + (x + 256 * (get_or (s ++ rest) 1 0 + 0))) (get_or-append s rest 0 0 (omega arith))
        ∙ ap (λ (x : ℕ). 2 + (get_or s 0 0 + 256 * (x + 0))) (get_or-append s rest 0 1 (omega arith))

    rules : rule_end s ≤ 514 → rule_in (s ++ rest) (rule_end s) ≡ rule_in s (rule_end s)
    rules k =
        ap (take (rule_end s - 2)) (drop-append-le 2 s rest (omega arith))
        ∙ take-append-le (rule_end s - 2) (drop 2 s) rest (rw (length-drop 2 s) (omega arith))

    long : (l : List ℕ) → 65536 ≤ length l → rule_end s ≤ 514 → report_most < length (report_in l (rule_end s))
    long l h k = rw (length-drop (rule_end s) l) (omega arith)

    same : rule_end s ≤ 514 → printout_of_both (rule_in s (rule_end s)) (report_in s (rule_end s))
        ≡ printout_of_both (rule_in (s ++ rest) (rule_end (s ++ rest))) (report_in (s ++ rest) (rule_end (s ++ rest)))
    same k =
        long-reports-same (rule_in s (rule_end s)) (report_in s (rule_end s)) (report_in (s ++ rest) (rule_end s)) (long s (omega arith) k)
        (long (s ++ rest) (omega (arith, size)) k)
        ∙ ap (λ (r : List ℕ). printout_of_both r (report_in (s ++ rest) (rule_end s))) (sym (rules k))
        ∙ ap (λ (e : ℕ). printout_of_both (rule_in (s ++ rest) e) (report_in (s ++ rest) e)) (sym ends)
