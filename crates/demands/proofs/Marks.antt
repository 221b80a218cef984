-- The evaluator follows its table, and its marks are what holds: demands 1 and 2 of pz_evaluate. Assumes nothing.
use Prim.Native.Nat.{ℕ, zero, suc, ◌+◌, ◌<◌}
use native.Mathlib.Omega.{arith}
use native.Mathlib.Numerals.{add-one}
use native.Mathlib.Nat.{add-zero}
use mathlib.Core.Path.{◌≡◌, refl, sym, ap, ◌∙◌}
use mathlib.Core.Bool.{Bool, true, false, cond}
use mathlib.Core.List.{List, []}
use mathlib.Core.Logic.{◌↔◌}
use lib.Dec.{ltb}
use lib.ListN.{length}
use Rattle.numbers.specs.Bytes.{Bytes}
use Rattle.numbers.specs.Bits.{bit}
use Rattle.numbers.specs.Lists.{over}
use Rattle.numbers.proofs.BitLaws.{word-past}
use Rattle.numbers.proofs.Lists.{over_none, over-length}
use Rattle.numbers.proofs.Tells.{IsTest, holds, fails, ltb-tests}
use Rattle.terms.specs.Answer.{number_of, by_answer, in_order, Answer, Accepted, Refused, count_of}
use Rattle.terms.proofs.AnswerLaws.{refused-not}
use Rattle.entry.specs.declared.entry.Entry.{Entry}
use Rattle.rules.specs.Rule.{rule_answer}
use Rattle.reports.specs.Report.{report_answer}
use Rattle.reports.specs.Elements.{labels_of, levels_of}
use Rattle.rules.specs.Entries.{entries_of}
use Rattle.grammar.specs.Rules.{IsRule}
use Rattle.grammar.specs.Reports.{Tree, size_t, IsReport}
use Rattle.grammar.proofs.Refusals.{rule-refused-iff, report-refused-iff}
use Rattle.grammar.proofs.Elements.{labels-tree, levels-tree, levels-elements}
use Rattle.meaning.specs.Marks.{word_of, verdict, selected}
use Rattle.meaning.specs.Rose.{labels_t, levels_t}
use Rattle.meaning.proofs.Rose.{tree-labels, tree-levels, tree-parent, tree-previous}
use Rattle.meaning.proofs.Reflect.{verdict-iff}
use Rattle.meaning.proofs.Words.{count_below}
use Rattle.marking.specs.Evaluation.{outcome, short_of_room, evaluation, words_written, meant_words}
use Rattle.marking.proofs.AnswerLaws.{outcome-sound}
use Rattle.marking.proofs.Means.{word_is, bit-iff, selected_is, past-kept, counted}
use Rattle.demands.specs.Demands.{Counts, nothing, with, without, TreeRelations, EvaluateRow, of-rule, of-report, row-9, Evaluate, Demand2}
use Rattle.demands.proofs.Follows.{clash, follows_of, other-uncounted}
use Rattle.demands.proofs.Readers.{is-taken, is-entries, taken_is, is-accepted, accepted-is}

-- ---- demand 1

module _ (rule report : List ℕ) (words : ℕ) where
  -- Where the rule is taken, the report and the room decide.
  later-row : Bytes report → {es : List Entry} → IsRule rule es → (k p : ℕ) → short_of_room words (report_answer report) ≡ Refused k p
      → EvaluateRow rule report words k p
  unfolding short_of_room
  later-row bytes i k p e = go (report_answer report) refl e where
    room : (n : ℕ) {b : Bool} → report_answer report ≡ Accepted n → IsTest (words < n) b → cond b (Refused 9 0) (Accepted n) ≡ Refused k p
        → EvaluateRow rule report words k p
    room n a (holds l) f =
        let (t, j) = accepted-is bytes a in
        let size : n ≡ size_t t = ap count_of (sym a ∙ is-accepted j) in
        let nine : 9 ≡ k = cc in
        let start : 0 ≡ p = cc in
        rw (← nine, ← start) (row-9 i j (rw size at l))
    room n a (fails m) f = refused-not (sym f)

    go : (a : Answer) → report_answer report ≡ a → in_order a (cond (ltb words (count_of a)) (Refused 9 0) a) ≡ Refused k p
        → EvaluateRow rule report words k p
    go (Accepted n) a f = room n a (ltb-tests words n) f
    go (Refused m q) a f = of-report i ((report-refused-iff report k p).0 (a ∙ f))

  -- The order of refusals is the table's.
  pub evaluate-iff : Bytes rule → Bytes report → (k p : ℕ) → (outcome rule report words ≡ Refused k p) ↔ EvaluateRow rule report words k p
  unfolding outcome short_of_room
  evaluate-iff rule-bytes bytes k p = (go (rule_answer rule) refl, back) where
    go : (a : Answer) → rule_answer rule ≡ a → in_order a (short_of_room words (report_answer report)) ≡ Refused k p
        → EvaluateRow rule report words k p
    go (Accepted n) a e = later-row bytes (taken_is rule-bytes a).1 k p e
    go (Refused m q) a e = of-rule ((rule-refused-iff rule k p).0 (a ∙ e))

    short : (n : ℕ) {b : Bool} → IsTest (words < n) b → words < n → cond b (Refused 9 0) (Accepted n) ≡ Refused 9 0
    short n (holds l) m = refl
    short n (fails h) m = absurd (h m)

    back : {m q : ℕ} → EvaluateRow rule report words m q
        → in_order (rule_answer rule) (in_order (report_answer report) (cond (ltb words (count_of (report_answer report))) (Refused 9 0) (report_answer report))) ≡ Refused m q
    back {m} {q} (of-rule r) = rw ((rule-refused-iff rule m q).1 r)
    back {m} {q} (of-report i r) = rw (is-taken i, (report-refused-iff report m q).1 r)
    back (row-9 {t = t} i j l) = rw (is-taken i, is-accepted j) (short (size_t t) (ltb-tests words (size_t t)) l)

pub evaluate : Evaluate
unfolding evaluation words_written
evaluate rule report marks after r rule-bytes bytes e =
    record {
      follows = rw e.answer (follows_of (EvaluateRow rule report (length marks)) a (evaluate-iff rule report (length marks) rule-bytes bytes) (outcome-sound rule report (length marks)));
      kept = λ h. e.marks_are ∙ still a (λ z. h (rw e.answer z));
      uncounted = λ h. let n : number_of a ≡ 0 → ⊥ = λ z. h (rw e.answer z) in (rw e.answer (other-uncounted a n), rw e.answer (unselected a n));
    }
  where
    a : Answer
    a = outcome rule report (length marks)

    still : (o : Answer) → (number_of o ≡ 0 → ⊥) → over (by_answer o (meant_words rule report) []) marks ≡ marks
    still (Accepted n) h = absurd (h refl)
    still (Refused k p) h = over_none marks

    unselected : (o : Answer) → (number_of o ≡ 0 → ⊥) → by_answer o (selected (length (entries_of rule)) (meant_words rule report)) 0 ≡ 0
    unselected (Accepted n) h = absurd (h refl)
    unselected (Refused k p) h = refl

-- ---- demand 2

-- A count of passing numbers is the count of those with a property that the test tells.
pub counts_of : (P : ℕ → Type 0) (f : ℕ → Bool) (n : ℕ) → ((s : ℕ) → s < n → (f s ≡ true) ↔ P s) → Counts P n (count_below n f)
unfolding count_below
counts_of P f zero told = nothing
counts_of P f (suc n) told = go (counts_of P f n (λ s l. told s (omega arith))) (f n) refl where
  go : Counts P n (count_below n f) → (b : Bool) → f n ≡ b → Counts P (suc n) (count_below n f + bit b)
  go before true e = rw (add-one (count_below n f)) (with before ((told n (omega arith)).0 e))
  go before false e = rw (add-zero (count_below n f)) (without before (λ h. clash (sym ((told n (omega arith)).1 h) ∙ e)))

module _ {report : List ℕ} {t : Tree} (j : IsReport report t) where
  -- The levels and labels that the layers below work on are the tree's.
  pub is-levels : levels_of report ≡ levels_t t 0
  is-levels = levels-tree report t j.bytes_are j.within ∙ tree-levels t 0

  pub is-labels : labels_of report ≡ labels_t t
  is-labels = labels-tree report t j.bytes_are j.within ∙ tree-labels t

  pub is-size : length (levels_t t 0) ≡ size_t t
  is-size = ap length (sym is-levels) ∙ levels-elements report ∙ ap count_of (is-accepted j)

pub tree_relations : TreeRelations
tree_relations t p i l = (rw (← tree-levels t 0) (tree-parent t i l p), rw (← tree-levels t 0) (tree-previous t i l p))

pub demand_2 : Demand2
unfolding word_of
demand_2 rule report marks after r es t i j e taken =
    let entries = is-entries i in
    let levels = is-levels j in
    let labels = is-labels j in
    let size : length (levels_of report) ≡ size_t t = ap length levels ∙ is-size j in
    let count = counted rule report marks r after e taken in
    record {
      elements = count.elements_are ∙ size;
      long = ap length e.marks_are ∙ over-length _ marks;
      marked = λ s k l m. rw (entries, levels, labels) at (bit-iff rule report marks r after e taken s k (rw size l) (rw entries m));
      unmarked = λ s k l m. rw (word_is rule report marks r after e taken s (rw size l)) (word-past (length (entries_of rule)) k _ (rw entries m));
      past = λ s l. past-kept rule report marks r after e taken s (rw size l);
      counted = rw (selected_is rule report marks r after e taken, size, entries, levels, labels)
          (counts_of _ (verdict es (levels_t t 0) (labels_t t)) (size_t t)
          (λ s l. verdict-iff (levels_t t 0) (labels_t t) es s i.entries.nonempty (rw (is-size j) l)));
    }
