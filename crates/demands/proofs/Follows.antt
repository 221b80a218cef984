-- Answers follow their tables: from when exactly an answer refuses, by each of the layers below. Assumes nothing.
use Prim.Native.Nat.{ℕ}
use native.Mathlib.Omega.{arith}
use mathlib.Core.Path.{◌≡◌, refl, sym}
use mathlib.Core.Bool.{Bool, true, false, cond}
use mathlib.Core.Logic.{◌↔◌}
use Rattle.terms.specs.Answer.{number_of, place_of, count_of, Answer, Accepted, Refused}
use Rattle.terms.proofs.AnswerLaws.{Sound, refused-not}
use Rattle.numbers.proofs.Tells.{IsTest, holds, fails}
use Rattle.demands.specs.Demands.{Follows}

pub clash : true ≡ false → ⊥
clash e = let z : ◌≡◌ {A = ℕ} 0 1 = cc in omega arith

-- An answer whose refusals are the rows of a table, and none of them by 0, follows the table.
pub follows_of : (Row : (number place : ℕ) → Type 0) (a : Answer) → ((k p : ℕ) → (a ≡ Refused k p) ↔ Row k p) → Sound a
    → Follows Row (number_of a) (place_of a)
follows_of Row (Accepted n) told sound =
    record {
      taken_iff = (λ z k p r. refused-not (sym ((told k p).1 r)), λ h. refl);
      taken_place = λ z. refl;
      refused_iff = λ k p. (λ r. refused-not (sym ((told k p).1 r)), λ h. absurd (h.0 refl));
    }
follows_of Row (Refused m q) told sound =
    record {
      taken_iff = (λ z. absurd (sound z), λ h. absurd (h m q ((told m q).0 refl)));
      taken_place = λ z. absurd (sound z);
      refused_iff = λ k p. (
        λ r. let e = (told k p).1 r in (λ z. sound z, cc, cc),
        λ h. (told k p).0 (cc (h.1, h.2)),
      );
    }

-- A table of one row: its number is given at place 0 exactly where P holds.
pub one-row : (Row : (number place : ℕ) → Type 0) (P : Type 0) {b : Bool} (number : ℕ) → (number ≡ 0 → ⊥) → IsTest P b → (P → Row number 0)
    → ((k p : ℕ) → Row k p → P × (number ≡ k) × (0 ≡ p)) → Follows Row (cond b number 0) 0
one-row Row P number some (holds h) put take =
    record {
      taken_iff = (λ z. absurd (some z), λ n. absurd (n number 0 (put h)));
      taken_place = λ z. refl;
      refused_iff = λ k p. (λ r. let q = take k p r in (some, q.1, q.2), λ q. rw (← q.1, ← q.2) (put h));
    }
one-row Row P number some (fails n) put take =
    record {
      taken_iff = (λ z k p r. n (take k p r).0, λ h. refl);
      taken_place = λ z. refl;
      refused_iff = λ k p. (λ r. absurd (n (take k p r).0), λ q. absurd (q.0 refl));
    }

-- An answer of number 0 is an acceptance.
pub zero-accepted : (a : Answer) → Sound a → number_of a ≡ 0 → (n : ℕ) × (a ≡ Accepted n)
zero-accepted (Accepted n) sound z = (n, refl)
zero-accepted (Refused k p) sound z = absurd (sound z)

-- Nothing is counted by another number.
pub other-uncounted : (a : Answer) → (number_of a ≡ 0 → ⊥) → count_of a ≡ 0
other-uncounted (Accepted n) h = absurd (h refl)
other-uncounted (Refused k p) h = refl
