-- Every promise of a public function of this crate determines the answer: any two results that meet it are equal. Assumes nothing.
use Prim.Native.Nat.{ℕ}
use mathlib.Core.Path.{◌≡◌}
use mathlib.Core.List.{List}
use Rattle.walk.specs.Walk.{Walked, Asked}
use Rattle.walk.specs.declared.walk.Walk.{Walk}
use Rattle.walk.specs.declared.walk.Ahead.{Ahead}
use Rattle.numbers.proofs.Only.{only}
use Rattle.terms.proofs.FaultLaws.{answered-only}

-- What a walk gives.
pub walk-rule-only : (rule : List ℕ) (label p q : ℕ) (r r' : Walk) → Walked rule label p q r → Walked rule label p q r' → r ≡ r'
walk-rule-only rule label p q r r' x y =
    rw (answered-only r.answer r'.answer (only x.answer_is y.answer_is), only x.ahead_is y.ahead_is, only x.word_is y.word_is)

-- What a walk gives that steps nowhere.
pub ask-rule-only : (rule : List ℕ) (r r' : Ahead) → Asked rule r → Asked rule r' → r ≡ r'
ask-rule-only rule r r' x y = rw (answered-only r.answer r'.answer (only x.answer_is y.answer_is), only x.ahead_is y.ahead_is)
