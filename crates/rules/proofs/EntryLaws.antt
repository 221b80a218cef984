-- Laws of the walk that checks a rule and fills the table of its entries at once: what it knows between two turns, whatever the rule is
-- answered in the end; and bounds on the answer. Assumes nothing.
use Prim.Native.Nat.{ℕ, suc, ◌+◌, ◌≤◌, ◌<◌}
use native.Mathlib.Omega.{arith}
use native.Mathlib.Numerals.{add-one}
use mathlib.Core.Path.{◌≡◌, refl, sym, ap, ◌∙◌}
use mathlib.Core.Bool.{Bool, true, false, cond, ◌||◌}
use mathlib.Core.List.{List, [], ◌∷◌, ◌++◌}
use lib.ListN.{length, set}
use Rattle.terms.specs.Answer.{count_of, number_of_fault, Answer, Accepted, Refused}
use Rattle.numbers.specs.First.{first}
use Rattle.terms.specs.Frame.{start_of}
use Rattle.std.specs.Prelude.{Err}
use Rattle.terms.specs.declared.refusal.Fault.{Fault}
use Rattle.terms.proofs.FaultLaws.{fault-number-some}
use Rattle.entry.specs.Entry.{entry_at, rule_fault}
use Rattle.entry.specs.Taken.{EntryTaken}
use Rattle.rules.specs.Rule.{rule_answer, rule_faults, rule_stops, rule_answer_at}
use Rattle.entry.specs.declared.entry.Entry.{Entry}
use borrow.Author.Tests.{lt-ltb, le-ltb}
use lib.Dec.{ltb, eqb}
use Rattle.entry.specs.declared.entry.Taken.{Taken}
use Rattle.terms.proofs.Reading.{mid_start, mid-ended, mid-faulty, mid-reached}
use Rattle.entry.proofs.TakenLaws.{rule-sound}
use Rattle.rules.proofs.RuleLaws.{RuleMid, Onward, rule-accepts, rule-refuses}
use Rattle.terms.specs.Limits.{entries_most, rule_most}
use Rattle.numbers.proofs.First.{first-le, first-before}
use Rattle.rules.specs.Entries.{entries_before, entries_of, entries_read, seen_from, seen}
use Rattle.numbers.specs.Lists.{listed, put_at}
use Rattle.numbers.proofs.Lists.{listed-length}
use native.Mathlib.Nat.{add-zero, zero-add}
use Rattle.terms.proofs.AnswerLaws.{refused-not, Within, within-either, refused-within, accepted-within, within-size}

-- As many entries as records.
pub entries-length : (s : List ℕ) (i : ℕ) → length (entries_before s i) ≡ i
entries-length s i = listed-length i _

-- No more entries are read than a rule may have.
pub entries-read-few : (s : List ℕ) → length (entries_read s) ≤ entries_most
unfolding entries_read
entries-read-few s = few (ltb (length s) 1 || ltb rule_most (length s))
  where
    few : (big : Bool) → length (cond big [] (entries_before s (first (rule_stops s) entries_most))) ≤ entries_most
    few true = omega arith
    few false = omega (arith, entries-length s (first (rule_stops s) entries_most), first-le (rule_stops s) entries_most)

-- The entries of an accepted rule of n entries, and of a refused one.
pub entries-taken : (s : List ℕ) (n : ℕ) → Accepted n ≡ rule_answer s → entries_of s ≡ entries_before s n
unfolding entries_of
entries-taken s n a = rw (← a)

module _ (s : List ℕ) {i at : ℕ} (m : RuleMid s i at) (l : i ≤ entries_most) (some : 1 ≤ length s) (few : length s ≤ rule_most) where
  entries-is : first (rule_stops s) entries_most ≡ i → entries_read s ≡ entries_before s i
  unfolding entries_read
  entries-is q = rw (le-ltb (length s) 1 some, le-ltb rule_most (length s) few, q)

  entries-ended : at ≡ length s → entries_read s ≡ entries_before s i
  unfolding rule_stops
  entries-ended q = entries-is (mid-ended s (rule_faults s) m q entries_most l)

  entries-stopped : (at ≡ length s → ⊥) → (rule_fault s i at ≡ 0 → ⊥) → entries_read s ≡ entries_before s i
  unfolding rule_stops
  entries-stopped ne f = entries-is (mid-faulty s (rule_faults s) m ne (λ z. f (ap (λ (x : ℕ). rule_fault s i x) (sym m.begins) ∙ z)) entries_most l)

-- Where a walk of a rule stops: what the rule is answered, and which entries have been read.
pub record Halted (s : List ℕ) (i : ℕ) (answer : Answer) : Type 0 where
  pub answer_is : answer ≡ rule_answer s
  pub read_is : entries_read s ≡ entries_before s i

module _ (s : List ℕ) {i at : ℕ} (m : RuleMid s i at) (l : i ≤ entries_most) (some : 1 ≤ length s) (few : length s ≤ rule_most) where
  pub halts-ended : at ≡ length s → Halted s i (Accepted i)
  halts-ended q = record { answer_is = rule-accepts s some few m l q; read_is = entries-ended s m l some few q }

  pub halts-faulty : (at ≡ length s → ⊥) → (f : Fault) → EntryTaken s i at (Err f) → Halted s i (Refused (number_of_fault f) at)
  halts-faulty ne f e =
      let wrong : (rule_fault s i at ≡ 0 → ⊥) = λ z. fault-number-some f (e ∙ z) in
      record {
        answer_is = ap (λ (k : ℕ). Refused k at) e ∙ rule-refuses s some few m l ne wrong;
        read_is = entries-stopped s m l some few ne wrong;
      }

pub entries_none : (s : List ℕ) → length s < 1 → entries_read s ≡ []
unfolding entries_read
entries_none s h = rw (lt-ltb (length s) 1 h)

pub entries-many : (s : List ℕ) → rule_most < length s → entries_read s ≡ []
unfolding entries_read
entries-many s h = rw (le-ltb (length s) 1 (omega arith), lt-ltb rule_most (length s) h)

-- The entries read of an accepted rule are its entries.
pub entries-taken-all : (s : List ℕ) (n : ℕ) → Accepted n ≡ rule_answer s → entries_read s ≡ entries_of s
unfolding entries_read rule_answer rule_answer_at
entries-taken-all s n a =
    go (ltb (length s) 1 || ltb rule_most (length s)) (eqb (start_of s (first (rule_stops s) entries_most)) (length s)) a ∙ sym (entries-taken s n a)
  where
    go : (big end : Bool)
        → Accepted n ≡ cond big (Refused 1 0) (cond end (Accepted (first (rule_stops s) entries_most)) (Refused (rule_faults s (first (rule_stops s) entries_most)) (start_of s (first (rule_stops s) entries_most))))
        → cond big [] (entries_before s (first (rule_stops s) entries_most)) ≡ entries_before s n
    go true end z = refused-not (sym z)
    go false false z = refused-not (sym z)
    go false true z = ap (λ (x : Answer). entries_before s (count_of x)) (sym z)

-- One entry more.
pub entries-more : (s : List ℕ) {i at : ℕ} → RuleMid s i at → entries_before s (i + 1) ≡ entries_before s i ++ (entry_at s at ∷ [])
unfolding listed
entries-more s {i} {at} m =
    ap (entries_before s) (add-one i) ∙ ap (λ (x : ℕ). entries_before s i ++ (entry_at s x ∷ [])) m.begins

-- ---- whoever sees the entries

module _ {V : Type 0} (then : V → ℕ → Entry → V) where
  -- One entry more.
  seen-more : (v : V) (i : ℕ) (es : List Entry) (e : Entry) → then (seen_from then v i es) (i + length es) e ≡ seen_from then v i (es ++ (e ∷ []))
  unfolding seen_from
  seen-more v i [] e = ap (λ (k : ℕ). then v k e) (add-zero i)
  seen-more v i (x ∷ es) e =
      ap (λ (k : ℕ). then (seen_from then (then v i x) (suc i) es) k e) (omega arith) ∙ seen-more (then v i x) (suc i) es e

  -- Between two turns of the walk.
  pub record VisitMid (s : List ℕ) (v₀ v : V) (i at : ℕ) : Type 0 where
    pub mid : RuleMid s i at
    pub few : i ≤ entries_most
    pub seen_so : v ≡ seen then v₀ (entries_before s i)

  module _ (s : List ℕ) (v₀ : V) where
    pub visit-start : VisitMid s v₀ v₀ 0 0
    unfolding listed seen_from
    visit-start = record { mid = mid_start _ _; few = omega arith; seen_so = refl }

    -- Where nothing is read nothing is seen.
    pub visit-kept : entries_read s ≡ [] → v₀ ≡ seen then v₀ (entries_read s)
    unfolding seen_from
    visit-kept e = rw e refl

    module _ {v : V} {i at : ℕ} (m : VisitMid s v₀ v i at) where
      pub visit-turn : (t : Taken) → Onward s i at t → {v' : V} → v' ≡ then v i t.entry → VisitMid s v₀ v' (i + 1) t.next
      visit-turn t o e =
          record {
            mid = o.mid;
            few = omega (arith, o.few);
            seen_so = e ∙ ap (λ (x : Entry). then v i x) o.entry-is ∙ ap (λ (x : V). then x i (entry_at s at)) m.seen_so
                ∙ ap (λ (k : ℕ). then (seen then v₀ (entries_before s i)) k (entry_at s at)) (sym (zero-add _ ∙ entries-length s i))
                ∙ seen-more v₀ 0 (entries_before s i) (entry_at s at) ∙ ap (seen then v₀) (sym (entries-more s m.mid));
          }

      pub visit-done : {r : Answer} → Halted s i r → v ≡ seen then v₀ (entries_read s)
      visit-done h = m.seen_so ∙ ap (seen then v₀) (sym h.read_is)

-- A table that sees entries has them stored from a place on.
pub seen-stored : (es table : List Entry) (i : ℕ) → seen_from set table i es ≡ put_at table i es
unfolding seen_from put_at
seen-stored [] table i = refl
seen-stored (e ∷ es) table i = seen-stored es (set table i e) (suc i)

-- ---- a rule

module _ (s : List ℕ) where
  -- The record at which reading a rule stops begins within the rule.
  rule-stop : start_of s (first (rule_stops s) entries_most) ≤ length s
  unfolding rule_stops
  rule-stop =
      (mid-reached s (rule_faults s)
      (λ i f. let r = (rule-sound s i (start_of s i) f).1 in omega (arith, r.ends, r.long))
      (first (rule_stops s) entries_most) (first-before (rule_stops s) entries_most)
      ).within

  rule-end-within : Within (length s) entries_most (rule_answer_at s (first (rule_stops s) entries_most))
  unfolding rule_answer_at
  rule-end-within =
      within-either (length s) entries_most _ _ (eqb (start_of s (first (rule_stops s) entries_most)) (length s))
      (accepted-within (length s) entries_most (first (rule_stops s) entries_most) (first-le (rule_stops s) entries_most))
      (refused-within (length s) entries_most (rule_faults s (first (rule_stops s) entries_most)) (start_of s (first (rule_stops s) entries_most)) rule-stop)

  -- And its place is at most 512.
  pub rule-small : Within rule_most entries_most (rule_answer s)
  unfolding rule_answer
  rule-small = within-size (length s) rule_most entries_most 1 _ rule-end-within
