-- Every promise of a public function of this crate determines the answer: any two results that meet it are equal. Assumes nothing.
use Rattle.numbers.proofs.Only.{only}
use Prim.Native.Nat.{ℕ}
use mathlib.Core.Path.{◌≡◌, refl, ap, ◌∙◌}
use mathlib.Core.Bool.{Bool, false}
use mathlib.Core.List.{List}
use Rattle.std.specs.Prelude.{Option, Result, Ok, Err}
use Rattle.terms.specs.Answer.{answered, fault_number}
use Rattle.terms.specs.declared.refusal.Fault.{Fault}
use Rattle.terms.specs.declared.refusal.Refusal.{Refusal}
use Rattle.terms.proofs.FaultLaws.{fault-number-some, fault-only, answered-only, fault-number-only}
use Rattle.tag.specs.Tags.{opens, closes, tag_fault, end_of}
use Rattle.tag.specs.Taken.{TagTaken, tag_of}
use Rattle.tag.specs.declared.tag.Tag.{Tag as CodeTag}
use Rattle.tag.specs.declared.tag.Tag.TheVariants.{Opening, Closing}
use Rattle.tag.specs.declared.tag.Untaken.{Untaken}

-- Whether an element may open.
pub open-fault-only : (depth elements : ℕ) (root_closed : Bool) (label : ℕ) (r r' : Result Unit Fault)
    → fault_number r ≡ tag_fault depth elements root_closed (opens label)
    → fault_number r' ≡ tag_fault depth elements root_closed (opens label) → r ≡ r'
open-fault-only depth elements root_closed label r r' p q = fault-number-only r r' (only p q)

-- Whether one may close.
pub close-fault-only : (depth : ℕ) (r r' : Result Unit Fault) → fault_number r ≡ tag_fault depth 0 false closes
    → fault_number r' ≡ tag_fault depth 0 false closes → r ≡ r'
close-fault-only depth r r' p q = fault-number-only r r' (only p q)

-- A tag that the code names is known by the tag.
tag-only : (t u : CodeTag) → tag_of t ≡ tag_of u → t ≡ u
tag-only (Opening l) (Opening k) e = cc
tag-only (Opening l) Closing e = cc
tag-only Closing (Opening l) e = cc
tag-only Closing Closing e = refl

abbrev untaken : Fault → Option ℕ → Untaken
untaken f l = record { fault = f; label = l }

-- What the record at an offset is taken for.
pub take-tag-only : (s : List ℕ) (at depth elements : ℕ) (r r' : Result CodeTag Untaken)
    → TagTaken s at depth elements r → TagTaken s at depth elements r' → r ≡ r'
take-tag-only s at depth elements (Ok t) (Ok u) (p, e) (p', e') = ap (λ (x : CodeTag). Ok x) (tag-only t u (only e e'))
take-tag-only s at depth elements (Ok t) (Err u) (p, e) (q, l) = absurd (fault-number-some u.fault (q ∙ p))
take-tag-only s at depth elements (Err u) (Ok t) (q, l) (p, e) = absurd (fault-number-some u.fault (q ∙ p))
take-tag-only s at depth elements (Err u) (Err v) (p, l) (q, m) =
    ap (λ (f : Fault). Err (untaken f u.label)) (fault-only u.fault v.fault (only p q))
    ∙ ap (λ (k : Option ℕ). Err (untaken v.fault k)) (only l m)

-- What a report that ends is answered.
pub end-of-only : (size depth elements : ℕ) (r r' : Result ℕ Refusal) → answered r ≡ end_of size depth elements
    → answered r' ≡ end_of size depth elements → r ≡ r'
end-of-only size depth elements r r' p q = answered-only r r' (only p q)
