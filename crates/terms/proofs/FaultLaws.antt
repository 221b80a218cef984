-- Laws of faults: none has number 0, and no two have one number; so a Result is known by what it answers. Assumes nothing.
use Prim.Native.Nat.{ℕ, ◌-◌}
use native.Mathlib.Omega.{arith}
use mathlib.Core.Path.{◌≡◌, refl, sym, ap, ◌∙◌}
use mathlib.Core.List.{[], ◌∷◌}
use lib.ListN.{get_or}
use Rattle.std.specs.Prelude.{Result, Ok, Err}
use Rattle.std.specs.Result.{IsErrAnd}
use Rattle.terms.specs.Answer.{Answer, count_of, number_of, place_of, number_of_fault, answered, fault_number}
use Rattle.terms.specs.declared.refusal.Fault.{Fault}
use Rattle.terms.specs.declared.refusal.Fault.TheVariants.{RuleSize, RuleRecord, RuleArgument, RuleFull, ReportSize, ReportRecord, ReportOrder, ReportFull, BufferShort, RuleAhead, StateBad, TallyBad, TextBad, TextFull}
use Rattle.terms.specs.declared.refusal.Refusal.{Refusal}

pub fault-number-some : (f : Fault) → number_of_fault f ≡ 0 → ⊥
unfolding number_of_fault
fault-number-some RuleSize z = omega arith
fault-number-some RuleRecord z = omega arith
fault-number-some RuleArgument z = omega arith
fault-number-some RuleFull z = omega arith
fault-number-some ReportSize z = omega arith
fault-number-some ReportRecord z = omega arith
fault-number-some ReportOrder z = omega arith
fault-number-some ReportFull z = omega arith
fault-number-some BufferShort z = omega arith
fault-number-some RuleAhead z = omega arith
fault-number-some StateBad z = omega arith
fault-number-some TallyBad z = omega arith
fault-number-some TextBad z = omega arith
fault-number-some TextFull z = omega arith

-- The fault with a number.
abbrev fault_with : ℕ → Fault
fault_with n =
    get_or (RuleSize ∷ RuleRecord ∷ RuleArgument ∷ RuleFull ∷ ReportSize ∷ ReportRecord ∷ ReportOrder ∷ ReportFull ∷ BufferShort ∷ RuleAhead ∷ StateBad ∷ TallyBad ∷ TextBad ∷ TextFull ∷ []) (n - 1) RuleSize

fault_back : (f : Fault) → fault_with (number_of_fault f) ≡ f
unfolding number_of_fault
fault_back RuleSize = refl
fault_back RuleRecord = refl
fault_back RuleArgument = refl
fault_back RuleFull = refl
fault_back ReportSize = refl
fault_back ReportRecord = refl
fault_back ReportOrder = refl
fault_back ReportFull = refl
fault_back BufferShort = refl
fault_back RuleAhead = refl
fault_back StateBad = refl
fault_back TallyBad = refl
fault_back TextBad = refl
fault_back TextFull = refl

pub fault-only : (f g : Fault) → number_of_fault f ≡ number_of_fault g → f ≡ g
fault-only f g e = sym (fault_back f) ∙ ap fault_with e ∙ fault_back g

abbrev refusal : Fault → ℕ → Refusal
refusal f n = record { fault = f; place = n }

-- Two Results of a reader that answer the same are equal.
pub answered-only : (r r' : Result ℕ Refusal) → answered r ≡ answered r' → r ≡ r'
answered-only (Ok n) (Ok m) e = ap (λ (a : Answer). Ok (count_of a)) e
answered-only (Ok n) (Err f) e = absurd (fault-number-some f.fault (sym (ap number_of e)))
answered-only (Err f) (Ok n) e = absurd (fault-number-some f.fault (ap number_of e))
answered-only (Err f) (Err g) e =
    let same : f.fault ≡ g.fault = fault-only f.fault g.fault (ap number_of e) in
    let there : f.place ≡ g.place = ap place_of e in
    ap (λ (k : Fault). Err (refusal k f.place)) same ∙ ap (λ (n : ℕ). Err (refusal g.fault n)) there

-- So are two of what has a fault or none, and nothing else.
pub fault-number-only : (r r' : Result Unit Fault) → fault_number r ≡ fault_number r' → r ≡ r'
fault-number-only (Ok x) (Ok y) e = refl
fault-number-only (Ok x) (Err f) e = absurd (fault-number-some f (sym e))
fault-number-only (Err f) (Ok x) e = absurd (fault-number-some f e)
fault-number-only (Err f) (Err g) e = ap (λ (k : Fault). Err k) (fault-only f g e)

-- What `?` hands on is the error that it met, whatever errors are.
pub handed-on : {A E : Type 0} (r : Result A E) (f : E) → IsErrAnd r (λ e. e ≡ f) → r ≡ Err f
handed-on {E} (Err e) f h = ap (λ (x : E). Err x) h
handed-on (Ok u) f h = absurd h
