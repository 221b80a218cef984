-- The promise of this crate's public function determines the answer: any two results that meet it are equal. Assumes nothing.
use Prim.Native.Nat.{ℕ}
use mathlib.Core.Path.{◌≡◌, sym, ap, ◌∙◌}
use mathlib.Core.List.{List}
use Rattle.std.specs.Prelude.{Result, Ok, Err}
use Rattle.numbers.proofs.Only.{only}
use Rattle.terms.specs.declared.refusal.Fault.{Fault}
use Rattle.terms.proofs.FaultLaws.{fault-number-some, fault-only}
use Rattle.entry.specs.Taken.{EntryTaken}
use Rattle.entry.specs.declared.entry.Entry.{Entry}
use Rattle.entry.specs.declared.entry.Taken.{Taken}

abbrev taken : Entry → ℕ → Taken
taken e n = record { entry = e; next = n }

-- What the record at an offset is taken for.
pub take-entry-only : (s : List ℕ) (own at : ℕ) (r r' : Result Taken Fault) → EntryTaken s own at r → EntryTaken s own at r' → r ≡ r'
take-entry-only s own at (Ok t) (Ok u) (p, e, n) (p', e', n') =
    ap (λ (x : Entry). Ok (taken x t.next)) (only e e') ∙ ap (λ (k : ℕ). Ok (taken u.entry k)) (only n n')
take-entry-only s own at (Ok t) (Err f) (p, e, n) q = absurd (fault-number-some f (q ∙ p))
take-entry-only s own at (Err f) (Ok t) q (p, e, n) = absurd (fault-number-some f (q ∙ p))
take-entry-only s own at (Err f) (Err g) p q = ap (λ (k : Fault). Err k) (fault-only f g (p ∙ sym q))
