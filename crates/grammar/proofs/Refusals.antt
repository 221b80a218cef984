-- When exactly a rule and a report get each number, and where: the readers' answers are the rows of document 01's table, told as
-- propositions about the first record to which a row applies. Assumes nothing.
use Prim.Native.Nat.{ℕ, ◌≤◌}
use native.Mathlib.Omega.{arith}
use mathlib.Core.Path.{◌≡◌, refl}
use mathlib.Core.List.{List}
use mathlib.Core.Logic.{◌⊎◌, inl, inr, ◌↔◌}
use lib.ListN.{length}
use Rattle.terms.specs.Frame.{start_of}
use Rattle.terms.specs.Answer.{Refused}
use Rattle.terms.specs.Limits.{entries_most}
use Rattle.tag.specs.Tags.{depth, opened_count}
use Rattle.tag.specs.Record.{tag_at}
use Rattle.rules.specs.Rule.{rule_answer, rule_faults}
use Rattle.reports.specs.Report.{tags_before, report_fault, report_answer}
use Rattle.grammar.specs.When.{Reached, Ended, RuleRow, in-row-2, in-row-3, in-row-4, RuleRefused, row-1, row-2, row-3, row-4}
use Rattle.grammar.specs.When.{ReportRow, in-row-6, in-row-7, in-row-8, ReportRefused, row-5, row-6, row-7, row-7-end, row-8}
use Rattle.grammar.proofs.Decides.{CleanTo, CleanEnd}
use Rattle.grammar.proofs.TagRows.{tag-fine-iff}
use Rattle.grammar.proofs.WhenRule.{fault-0-iff, rule-1-iff, rule-2-iff, rule-3-iff, rule-4-iff, rule-numbers}
use Rattle.grammar.proofs.WhenReport.{record-0-iff, report-5-iff, report-6-iff, report-7-iff, report-8-iff, report-numbers}

-- ---- no fault, and no row

module _ (fault : ℕ → ℕ) (Row : ℕ → Type 0) (told : (j : ℕ) → (fault j ≡ 0) ↔ (Row j → ⊥)) (s : List ℕ) where
  reached-iff : (i p : ℕ) → CleanTo fault s i p ↔ Reached Row s i p
  reached-iff i p = (
    λ r. record { begins = r.begins; there = r.there; clean = λ j l. (told j).0 (r.clean j l) },
    λ r. record { begins = r.begins; there = r.there; clean = λ j l. (told j).1 (r.clean j l) },
  )

  ended-iff : (i : ℕ) → CleanEnd fault s i ↔ Ended Row s i
  ended-iff i = (
    λ r. record { at_end = r.at_end; clean = λ j l. (told j).0 (r.clean j l) },
    λ r. record { at_end = r.at_end; clean = λ j l. (told j).1 (r.clean j l) },
  )

-- ---- a rule

module _ (s : List ℕ) where
  -- A record of a rule has no fault exactly where no row applies to it.
  rule-row : (i : ℕ) → (rule_faults s i ≡ 0) ↔ (RuleRow s i → ⊥)
  rule-row i = (none, clean) where
    none : rule_faults s i ≡ 0 → RuleRow s i → ⊥
    none z (in-row-4 l) = omega (arith, ((fault-0-iff s i (start_of s i)).0 z).0)
    none z (in-row-2 f) = ((fault-0-iff s i (start_of s i)).0 z).1.0 f
    none z (in-row-3 m) = ((fault-0-iff s i (start_of s i)).0 z).1.1 m

    clean : (RuleRow s i → ⊥) → rule_faults s i ≡ 0
    clean n =
        let few : entries_most ≤ i → ⊥ = λ l. n (in-row-4 l) in
        (fault-0-iff s i (start_of s i)).1 (omega arith, (λ f. n (in-row-2 f), λ m. n (in-row-3 m)))

  rule-reached : (i p : ℕ) → CleanTo (rule_faults s) s i p ↔ Reached (RuleRow s) s i p
  rule-reached = reached-iff (rule_faults s) (RuleRow s) rule-row s

  -- A rule is refused by a number at a place exactly where the table says so.
  pub rule-refused-iff : (k p : ℕ) → (rule_answer s ≡ Refused k p) ↔ RuleRefused s k p
  rule-refused-iff k p = (λ e. there e (rule-numbers s k p e), back) where
    there-1 : (q : ℕ) → rule_answer s ≡ Refused 1 q → RuleRefused s 1 q
    there-1 q e = let h = (rule-1-iff s q).0 e in rw h.0 (row-1 h.1)

    there-2 : (q : ℕ) → rule_answer s ≡ Refused 2 q → RuleRefused s 2 q
    there-2 q e = let h = (rule-2-iff s q).0 e in row-2 h.0 ((rule-reached _ q).0 h.1.1) h.1.2.0 h.1.2.1

    there-3 : (q : ℕ) → rule_answer s ≡ Refused 3 q → RuleRefused s 3 q
    there-3 q e =
        let h = (rule-3-iff s q).0 e in row-3 h.0 ((rule-reached _ q).0 h.1.1) h.1.2.0 h.1.2.1.0 h.1.2.1.1

    there-4 : (q : ℕ) → rule_answer s ≡ Refused 4 q → RuleRefused s 4 q
    there-4 q e = let h = (rule-4-iff s q).0 e in row-4 h.0 ((rule-reached _ q).0 h.1)

    there : rule_answer s ≡ Refused k p → (k ≡ 1) ⊎ ((k ≡ 2) ⊎ ((k ≡ 3) ⊎ (k ≡ 4))) → RuleRefused s k p
    there e (inl z) = rw z (there-1 p (rw z at e))
    there e (inr (inl z)) = rw z (there-2 p (rw z at e))
    there e (inr (inr (inl z))) = rw z (there-3 p (rw z at e))
    there e (inr (inr (inr z))) = rw z (there-4 p (rw z at e))

    back : {m q : ℕ} → RuleRefused s m q → rule_answer s ≡ Refused m q
    back (row-1 h) = (rule-1-iff s 0).1 (refl, h)
    back {q = q} (row-2 {i} z r l f) = (rule-2-iff s q).1 (z, (i, (rule-reached i q).1 r, (l, f)))
    back {q = q} (row-3 {i} z r l n m) = (rule-3-iff s q).1 (z, (i, (rule-reached i q).1 r, (l, (n, m))))
    back {q = q} (row-4 z r) = (rule-4-iff s q).1 (z, (rule-reached _ q).1 r)

-- ---- a report

module _ (s : List ℕ) where
  -- A record of a report has no fault exactly where no row applies to it.
  report-row : (i : ℕ) → (report_fault s i ≡ 0) ↔ (ReportRow s i → ⊥)
  unfolding report_fault
  report-row i = (none, clean) where
    d : ℕ
    d = depth (tags_before s i)

    e : ℕ
    e = opened_count (tags_before s i)

    none : report_fault s i ≡ 0 → ReportRow s i → ⊥
    none z (in-row-6 (inl f)) = ((record-0-iff s (start_of s i) d e).0 z).0 f
    none z (in-row-6 (inr m)) = ((tag-fine-iff d e (tag_at s (start_of s i))).0 ((record-0-iff s (start_of s i) d e).0 z).1).0 m
    none z (in-row-7 u) = ((tag-fine-iff d e (tag_at s (start_of s i))).0 ((record-0-iff s (start_of s i) d e).0 z).1).1.0 u
    none z (in-row-8 m) = ((tag-fine-iff d e (tag_at s (start_of s i))).0 ((record-0-iff s (start_of s i) d e).0 z).1).1.1 m

    clean : (ReportRow s i → ⊥) → report_fault s i ≡ 0
    clean n =
        (record-0-iff s (start_of s i) d e).1 (
          λ f. n (in-row-6 (inl f)),
          (tag-fine-iff d e (tag_at s (start_of s i))).1 (λ m. n (in-row-6 (inr m)), (λ u. n (in-row-7 u), λ m. n (in-row-8 m))),
        )

  report-reached : (i p : ℕ) → CleanTo (report_fault s) s i p ↔ Reached (ReportRow s) s i p
  report-reached = reached-iff (report_fault s) (ReportRow s) report-row s

  report-ended : (i : ℕ) → CleanEnd (report_fault s) s i ↔ Ended (ReportRow s) s i
  report-ended = ended-iff (report_fault s) (ReportRow s) report-row s

  -- A report is refused by a number at a place exactly where the table says so.
  pub report-refused-iff : (k p : ℕ) → (report_answer s ≡ Refused k p) ↔ ReportRefused s k p
  report-refused-iff k p = (λ e. there e (report-numbers s k p e), back) where
    there-5 : (q : ℕ) → report_answer s ≡ Refused 5 q → ReportRefused s 5 q
    there-5 q e = let h = (report-5-iff s q).0 e in rw h.0 (row-5 h.1)

    there-6 : (q : ℕ) → report_answer s ≡ Refused 6 q → ReportRefused s 6 q
    there-6 q e = let h = (report-6-iff s q).0 e in row-6 h.0 ((report-reached _ q).0 h.1.1) h.1.2

    there-7 : (q : ℕ) → report_answer s ≡ Refused 7 q → ReportRefused s 7 q
    there-7 q e =
        let h = (report-7-iff s q).0 e in
        elim h.1 [
          | inl r ↦ row-7 h.0 ((report-reached _ q).0 r.1) r.2
          | inr r ↦ rw r.3 (row-7-end h.0 ((report-ended _).0 r.1) r.2)
        ]

    there-8 : (q : ℕ) → report_answer s ≡ Refused 8 q → ReportRefused s 8 q
    there-8 q e = let h = (report-8-iff s q).0 e in row-8 h.0 ((report-reached _ q).0 h.1.1) h.1.2

    there : report_answer s ≡ Refused k p → (k ≡ 5) ⊎ ((k ≡ 6) ⊎ ((k ≡ 7) ⊎ (k ≡ 8))) → ReportRefused s k p
    there e (inl z) = rw z (there-5 p (rw z at e))
    there e (inr (inl z)) = rw z (there-6 p (rw z at e))
    there e (inr (inr (inl z))) = rw z (there-7 p (rw z at e))
    there e (inr (inr (inr z))) = rw z (there-8 p (rw z at e))

    back : {m q : ℕ} → ReportRefused s m q → report_answer s ≡ Refused m q
    back (row-5 h) = (report-5-iff s 0).1 (refl, h)
    back {q = q} (row-6 {i} z r f) = (report-6-iff s q).1 (z, (i, (report-reached i q).1 r, f))
    back {q = q} (row-7 {i} z r f) = (report-7-iff s q).1 (z, inl (i, (report-reached i q).1 r, f))
    back (row-7-end {i} z r o) = (report-7-iff s (length s)).1 (z, inr (i, (report-ended i).1 r, o, refl))
    back {q = q} (row-8 {i} z r f) = (report-8-iff s q).1 (z, (i, (report-reached i q).1 r, f))
