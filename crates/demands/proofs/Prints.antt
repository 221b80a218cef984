-- What is printed of an input and for C, over its rule and its report as texts and over what holds. Assumes nothing.
use Prim.Native.Nat.{ℕ, zero, suc, ◌+◌, ◌-◌, ◌≤◌, ◌<◌}
use native.Mathlib.Omega.{arith}
use native.Mathlib.Decide.{dec_lt}
use borrow.Author.Tests.{le-ltb}
use mathlib.Core.Path.{◌≡◌, refl, sym, ap, ◌∙◌}
use mathlib.Core.Bool.{Bool, true, false}
use mathlib.Core.Logic.{◌⊎◌, inl, inr, ⊎_elim, ◌↔◌}
use mathlib.Core.List.{List, [], ◌∷◌, ◌++◌}
use lib.ListN.{length, get_or, take, drop, length-append, length-drop, take-append-drop}
use lib.Seq.{length-take-le, get_or-drop, drop-drop, take-append_seam, drop-append_seam}
use Rattle.numbers.specs.Bytes.{Bytes, word_at, number_at, two_bytes}
use Rattle.numbers.proofs.TwoBytes.{number-back, bytes_back}
use Rattle.numbers.proofs.Lists.{over-is}
use Rattle.terms.specs.Limits.{elements_most}
use Rattle.terms.specs.Answer.{number_of, Answer, Accepted, Refused}
use Rattle.terms.proofs.AnswerLaws.{refused-not}
use Rattle.entry.specs.declared.entry.Entry.{Entry}
use Rattle.reports.specs.Elements.{labels_of, levels_of}
use Rattle.rules.specs.Entries.{entries_of}
use Rattle.grammar.specs.Rules.{IsRule}
use Rattle.grammar.specs.Reports.{Tree, size_t, IsReport}
use Rattle.meaning.specs.Marks.{verdict}
use Rattle.meaning.specs.Rose.{labels_t, levels_t}
use Rattle.meaning.proofs.Reflect.{verdict-iff}
use Rattle.meaning.proofs.Words.{count_below, selected-words}
use Rattle.marking.specs.Evaluation.{short_of_room, outcome, evaluation, meant_words}
use Rattle.marking.proofs.AnswerLaws.{both-taken}
use Rattle.text.specs.Text.{element_line, accepted_text}
use Rattle.std.specs.Prelude.{None}
use Rattle.judge.specs.Input.{rule_end, rule_in, report_in}
use Rattle.judge.specs.Output.{room, printed, accepted_printout, text_answer, printout_of_both, printout_at, printout_of}
use Rattle.judge.proofs.SplitLaws.{split-short, split-long}
use Rattle.judge.proofs.PrintoutLaws.{text_same, text-taken, text-refused-iff, text-counted, text-few}
use Rattle.judge.proofs.Enough.{printout-split}
use Rattle.printing.specs.Given.{print_answer}
use Rattle.printing.proofs.Only.{print-sound, print-refused-iff, refused-kept, taken-given}
use Rattle.demands.specs.Demands.{Selected, Counts, nothing, with, without, EvaluateRow, LinesOf, lines, Parts, Printed, no-rule, refused, accepted, Printout, PrintRow, of-rule, of-report, row-9, Print}
use Rattle.demands.proofs.Follows.{follows_of}
use Rattle.demands.proofs.Readers.{is-taken, is-entries, taken_is, is-accepted, accepted-is}
use Rattle.demands.proofs.Marks.{evaluate-iff, counts_of, is-levels, is-labels, is-size}

-- ---- the text of a rule and a report

same_bool : {P : Type 0} (a b : Bool) → (a ≡ true) ↔ P → (b ≡ true) ↔ P → a ≡ b
same_bool true b p q = sym (q.1 (p.0 refl))
same_bool false true p q = p.1 (q.0 refl)
same_bool false false p q = refl

-- There is one count only.
counts-only : {P : ℕ → Type 0} {n c d : ℕ} → Counts P n c → Counts P n d → c ≡ d
counts-only nothing nothing = refl
counts-only (with x h) (with y k) = ap suc (counts-only x y)
counts-only (with x h) (without y k) = absurd (k h)
counts-only (without x h) (with y k) = absurd (h k)
counts-only (without x h) (without y k) = counts-only x y

module _ {rule report : List ℕ} {es : List Entry} {t : Tree} (i : IsRule rule es) (j : IsReport report t) where
  -- The meaning's verdicts, and how many there are.
  abbrev chosen : ℕ → Bool
  chosen = verdict es (levels_t t 0) (labels_t t)

  tells : (s : ℕ) → s < size_t t → (chosen s ≡ true) ↔ Selected t es s
  tells s l = verdict-iff (levels_t t 0) (labels_t t) es s i.entries.nonempty (rw (is-size j) l)

  text-is : accepted_printout rule report ≡ accepted_text (labels_t t) (levels_t t 0) chosen (size_t t) (count_below (size_t t) chosen)
  unfolding accepted_printout meant_words
  text-is = rw (selected-words (entries_of rule) (levels_of report) (labels_of report), is-entries i, is-levels j, is-labels j, is-size j)

  -- What the layers below put has the lines of the page, ..
  pub lines-put : LinesOf rule report (accepted_printout rule report)
  lines-put = rw text-is (lines i j tells (counts_of (Selected t es) chosen (size_t t) tells))

  -- .. and rule and report are taken.
  pub both-accepted : text_answer rule report ≡ Accepted (length (accepted_printout rule report))
  unfolding outcome short_of_room
  both-accepted = text-taken rule report taken
    where
      taken : outcome rule report room ≡ Accepted (size_t t)
      taken = rw (is-taken i, is-accepted j, le-ltb elements_most (size_t t) j.within.few)

-- No other text has these lines.
pub lines-only : {rule report text : List ℕ} → LinesOf rule report text → text ≡ accepted_printout rule report
lines-only (lines {es} {t} {verdicts} {count} i j f c) =
    text_same (labels_t t) (levels_t t 0) (labels_t t) (levels_t t 0) verdicts (chosen i j) (size_t t) count
    (λ s l. ap (element_line s (get_or (labels_t t) s 0) (get_or (levels_t t 0) s 0)) (same_bool (verdicts s) (chosen i j s) (f s l) (tells i j s l)))
    ∙ ap (accepted_text (labels_t t) (levels_t t 0) (chosen i j) (size_t t)) (counts-only c (counts_of (Selected t es) (chosen i j) (size_t t) (tells i j)))
    ∙ sym (text-is i j)

-- What is taken has its text.
lines-taken : {rule report : List ℕ} → Bytes rule → Bytes report → (n : ℕ) → text_answer rule report ≡ Accepted n
    → LinesOf rule report (accepted_printout rule report)
unfolding evaluation
lines-taken {rule} {report} rule-bytes bytes n e = go (outcome rule report room) refl
  where
    go : (a : Answer) → outcome rule report room ≡ a → LinesOf rule report (accepted_printout rule report)
    go (Refused k p) o = refused-not (sym ((text-refused-iff rule report k p).1 o) ∙ e)
    go (Accepted m) o =
        let taken = both-taken rule report room (ap number_of o) in
        lines-put (taken_is rule-bytes taken.rule_taken).1 (accepted-is bytes taken.report_taken).1

-- ---- parts of a byte string are byte strings

drop-bytes : (k : ℕ) (s : List ℕ) → Bytes s → Bytes (drop k s)
drop-bytes k s bytes i = rw (get_or-drop k s i 0) (bytes (k + i))

take-bytes : (k : ℕ) (s : List ℕ) → Bytes s → Bytes (take k s)
take-bytes zero s bytes i = omega arith
take-bytes (suc k) [] bytes i = omega arith
take-bytes (suc k) (x ∷ s) bytes zero = bytes 0
take-bytes (suc k) (x ∷ s) bytes (suc i) = take-bytes k s (λ j. bytes (suc j)) i

-- ---- the parts of an input

-- An input that has its parts has room for them.
parts-fit : {input rule report : List ℕ} → Parts input rule report → (2 ≤ length input) × (rule_end input ≤ length input)
unfolding rule_end two_bytes
parts-fit {input} {rule} {report} p =
    let size : length input ≡ 2 + (length rule + length report) = ap length p.bytes_are ∙ omega (arith, length-append rule report) in
    let number : number_at input 0 ≡ length rule = ap (λ (s : List ℕ). number_at s 0) p.bytes_are ∙ number-back (length rule) (rule ++ report) in
    (omega arith, omega arith)

module _ (input : List ℕ) (bytes : Bytes input) (some : 2 ≤ length input) (fits : rule_end input ≤ length input) where
  abbrev rule : List ℕ
  rule = rule_in input (rule_end input)

  abbrev report : List ℕ
  report = report_in input (rule_end input)

  number_small : number_at input 0 < 65536
  unfolding word_at
  number_small = omega (arith, bytes 0, bytes 1)

  rule-long : length rule ≡ number_at input 0
  unfolding rule_in rule_end
  rule-long = length-take-le (2 + number_at input 0 - 2) (drop 2 input) (rw (length-drop 2 input) (omega (arith, fits, some))) ∙ omega arith

  parts : Parts input rule report
  unfolding rule_in report_in rule_end
  parts =
      record {
        short = rw rule-long number_small;
        bytes_are = sym (
            rw (rule-long, ← bytes_back input 0 bytes (omega arith))
            (ap (λ (x : List ℕ). take 2 input ++ x) later ∙ take-append-drop 2 input)
            );
      }
    where
      later : take (2 + number_at input 0 - 2) (drop 2 input) ++ drop (2 + number_at input 0) input ≡ drop 2 input
      later =
          let e : 2 + number_at input 0 - 2 ≡ number_at input 0 = omega arith in
          rw (e, ← drop-drop (number_at input 0) 2 input) (take-append-drop (number_at input 0) (drop 2 input))

  rule-bytes : Bytes rule
  unfolding rule_in
  rule-bytes = take-bytes (rule_end input - 2) (drop 2 input) (drop-bytes 2 input bytes)

  report-bytes : Bytes report
  unfolding report_in
  report-bytes = drop-bytes (rule_end input) input bytes

  -- What is printed of the two.
  told : (a : Answer) → outcome rule report room ≡ a → Printed input (printed a (accepted_printout rule report))
  told (Refused k p) e = refused parts ((evaluate-iff rule report elements_most rule-bytes report-bytes k p).0 e)
  told (Accepted n) e = accepted parts (lines-taken rule-bytes report-bytes _ (text-taken rule report e))

-- ---- the printout

pub printout : Printout
unfolding printout_of_both printout_at
printout input bytes =
    elim (dec_lt (length input) 2) [
      | yes l ↦ short (ap (printout_at input) (split-short input l)) (λ rule report p. omega (arith, (parts-fit p).0))
      | no n ↦ elim (dec_lt (length input) (rule_end input)) [
        | yes l ↦ short (ap (printout_at input) (split-long input (omega arith) l)) (λ rule report p. omega (arith, (parts-fit p).1))
        | no m ↦ whole (omega arith) (omega arith)
      ]
    ]
  where
    short : printout_of input ≡ printout_at input None → ((rule report : List ℕ) → Parts input rule report → ⊥) → Printed input (printout_of input)
    short e h = rw e (no-rule h)

    whole : 2 ≤ length input → rule_end input ≤ length input → Printed input (printout_of input)
    whole some fits = rw (printout-split input some fits) (told input bytes some fits _ refl)

-- ---- for C

module _ (rule report : List ℕ) (bytes : ℕ) (rule-bytes : Bytes rule) (report-bytes : Bytes report) where
  -- The evaluator's table, there being room for every report: what it has, and that its row 9 never applies.
  row-there : {k p : ℕ} → EvaluateRow rule report elements_most k p → PrintRow rule report bytes k p
  row-there (of-rule r) = of-rule r
  row-there (of-report i r) = of-report i r
  row-there (row-9 i j l) = absurd (omega (arith, j.within.few))

  -- The order of refusals is the table's.
  print-iff : (k p : ℕ) → (print_answer rule report bytes ≡ Refused k p) ↔ PrintRow rule report bytes k p
  print-iff k p = (
    λ e. ⊎_elim (λ t. row-there ((evaluate-iff rule report elements_most rule-bytes report-bytes k p).0 ((text-refused-iff rule report k p).0 t))) short
        ((print-refused-iff rule report bytes k p).0 e),
    λ row. (print-refused-iff rule report bytes k p).1 (back row),
  )
    where
      short : (n : ℕ) × (text_answer rule report ≡ Accepted n) × (bytes < n) × (9 ≡ k) × (0 ≡ p) → PrintRow rule report bytes k p
      short (n, t, l, nine, start) =
          rw (← nine, ← start) (row-9 (lines-taken rule-bytes report-bytes n t) (rw (text-counted rule report t) at l))

      back : {m q : ℕ} → PrintRow rule report bytes m q
          → (text_answer rule report ≡ Refused m q) ⊎ ((n : ℕ) × (text_answer rule report ≡ Accepted n) × (bytes < n) × (9 ≡ m) × (0 ≡ q))
      back {m} {q} (of-rule r) =
          inl ((text-refused-iff rule report m q).1 ((evaluate-iff rule report elements_most rule-bytes report-bytes m q).1 (of-rule r)))
      back {m} {q} (of-report i r) =
          inl ((text-refused-iff rule report m q).1 ((evaluate-iff rule report elements_most rule-bytes report-bytes m q).1 (of-report i r)))
      back (row-9 {text} (lines i j f c) l) =
          inr (length (accepted_printout rule report), both-accepted i j, rw (lines-only (lines i j f c)) at l, refl, refl)

pub print : Print
print rule report lent after r rule-bytes report-bytes x =
    record {
      follows = rw x.reply_is
          (follows_of (PrintRow rule report (length lent)) _ (print-iff rule report (length lent) rule-bytes report-bytes) (print-sound rule report (length lent)));
      kept = λ h. (refused-kept x h).0;
      uncounted = λ h. (refused-kept x h).1;
      counted = λ text y z. rw (lines-only y) (taken-given x z).counted;
      front = λ z.
          let g = taken-given x z in
          rw (g.counted, g.front, over-is text lent g.roomy, take-append_seam text (drop (length text) lent))
          (lines-taken rule-bytes report-bytes _ g.taken);
      behind = λ z.
          let g = taken-given x z in
          rw (g.counted, g.front, over-is text lent g.roomy) (drop-append_seam text (drop (length text) lent));
      few = λ other y. short y;
    }
  where
    text : List ℕ
    text = accepted_printout rule report

    short : {other : List ℕ} → LinesOf rule report other → length other ≤ 81920
    short (lines i j f c) = rw (lines-only (lines i j f c)) (text-few rule report (both-accepted i j))
