-- The promise of `mark_report` determines the answer, every place of the columns and every word of the buffer: any two results that
-- meet it are equal. So does that of a caller whose columns always have room.
-- Assumes nothing.
use Prim.Native.Nat.{ℕ}
use mathlib.Core.Path.{◌≡◌, sym, ap, ap₂}
use mathlib.Core.List.{List}
use Rattle.rules.specs.Rule.{rule_answer}
use Rattle.terms.specs.Answer.{Answer, Accepted, Refused}
use Rattle.layout.proofs.Only.{laid-columns-only}
use Rattle.marking.specs.Evaluation.{told, ColumnsAfter, ReportMarked, Evaluated}
use Rattle.marking.specs.declared.report.Evaluation.{Evaluation}
use Rattle.marking.specs.declared.report.Counted.{Counted}
use Rattle.marking.specs.declared.report.Marking.{Marking}
use Rattle.std.specs.Prelude.{Result, Ok, Err}
use Rattle.terms.specs.declared.refusal.Fault.{Fault}
use Rattle.terms.specs.declared.refusal.Refusal.{Refusal}
use Rattle.terms.proofs.FaultLaws.{fault-number-some, fault-only}
use Rattle.numbers.proofs.Only.{only}

pub evaluated-only : (rule report marks : List ℕ) {r r' : Evaluation} {m m' : List ℕ} → Evaluated rule report marks r m
    → Evaluated rule report marks r' m' → (r ≡ r') × (m ≡ m')
evaluated-only rule report marks p q = (only p.answer q.answer, only p.marks_are q.marks_are)

columns-only : (a : Answer) (report labels levels ups lefts : List ℕ) {l l' d d' u u' f f' : List ℕ}
    → ColumnsAfter a report labels levels ups lefts l d u f → ColumnsAfter a report labels levels ups lefts l' d' u' f'
    → (l ≡ l') × (d ≡ d') × (u ≡ u') × (f ≡ f')
unfolding ColumnsAfter
columns-only (Refused number place) report labels levels ups lefts p q =
    (only p.0 q.0, only p.1 q.1, only p.2 q.2, only p.3 q.3)
columns-only (Accepted n) report labels levels ups lefts p q =
    laid-columns-only report labels levels ups lefts p q

-- Two answers that are told alike are equal.
told-only : (r r' : Result Counted Refusal) → told r ≡ told r' → r ≡ r'
told-only (Ok c) (Ok d) e =
    ap₂ (λ (n k : ℕ). Ok (record { elements = n; selected = k })) (ap (λ (x : Evaluation). x.elements) e) (ap (λ (x : Evaluation). x.selected) e)
told-only (Ok c) (Err f) e = absurd (fault-number-some f.fault (sym (ap (λ (x : Evaluation). x.number) e)))
told-only (Err f) (Ok c) e = absurd (fault-number-some f.fault (ap (λ (x : Evaluation). x.number) e))
told-only (Err f) (Err g) e =
    ap₂ (λ (k : Fault) (n : ℕ). Err (record { fault = k; place = n })) (fault-only f.fault g.fault (ap (λ (x : Evaluation). x.number) e))
    (ap (λ (x : Evaluation). x.place) e)

pub report-marked-only : (rule report labels levels ups lefts marks : List ℕ) {r r' : Marking} {l l' d d' u u' f f' m m' : List ℕ}
    → ReportMarked rule report labels levels ups lefts marks r l d u f m → ReportMarked rule report labels levels ups lefts marks r' l' d' u' f' m'
    → (r ≡ r') × (m ≡ m') × (l ≡ l') × (d ≡ d') × (u ≡ u') × (f ≡ f')
report-marked-only rule report labels levels ups lefts marks {r} {r'} p q =
    let e = columns-only (rule_answer rule) report labels levels ups lefts p.columns_are q.columns_are in (
      ap₂ (λ (x : Result Counted Refusal) (n : ℕ). record { answer = x; entries = n }) (told-only r.answer r'.answer (only p.answer_is q.answer_is))
          (only p.entries_are q.entries_are),
      only p.marks_are q.marks_are,
      e.0,
      e.1,
      e.2,
      e.3,
    )
