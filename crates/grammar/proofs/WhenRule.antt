-- When exactly the rule reader gives each number, and where: rows 0 to 4 of document 01's table of numbers, for every list.
-- The cases of a record's fault, then one law for each row. Assumes nothing.
use Prim.Native.Nat.{ℕ, ◌≤◌, ◌<◌}
use native.Mathlib.Omega.{arith}
use native.Mathlib.Decide.{dec_lt}
use mathlib.Core.Path.{◌≡◌, refl, subst, ◌∙◌}
use mathlib.Core.List.{List}
use mathlib.Core.Logic.Iff
use mathlib.Core.Logic.{◌⊎◌, inl, inr, ◌↔◌, ⊎_elim}
use lib.Dec.{leb}
use lib.ListN.{length}
use Rattle.numbers.specs.First.{first}
use Rattle.terms.specs.Frame.{frame_of, kind_at, broken, start_of}
use Rattle.terms.specs.Kinds.{row_of, rule_length}
use Rattle.entry.specs.Entry.{entry_at, misdirected, rule_fault}
use Rattle.rules.specs.Rule.{rule_stops, rule_answer_at, rule_answer, rule_faults}
use Rattle.terms.specs.Answer.{Answer, Accepted, Refused}
use Rattle.terms.specs.declared.kind.Numbers.{Numbers}
use Rattle.terms.specs.declared.kind.Numbers.TheVariants.{Nothing, Label, Entries}
use Rattle.terms.specs.declared.kind.Row.{Row}
use Rattle.entry.specs.declared.entry.Entry.{Entry}
use Rattle.grammar.specs.When.{Sized, Faulty, Outside}
use Rattle.grammar.specs.When.{Misdirected, bad-label, bad-a, bad-b, MisdirectedAt}
use Rattle.grammar.proofs.Chain.{Distinct, chain-numbers, chain-first-iff, chain-second-iff, chain-third-iff, chain-none-iff}
use Rattle.grammar.proofs.Decides.{CleanTo, CleanEnd, Decided, by_end, by-fault, answer-iff, unsized-iff, sized-iff, size-cases}
use Rattle.grammar.proofs.Frame.{broken-told}
use Rattle.numbers.proofs.Tells.{IsTest, fails, test_iff, or-tests, and-tests, ltb-tests, leb-tests}
use Rattle.terms.specs.Limits.{entries_most, label_most, rule_most}
use Rattle.terms.proofs.AnswerLaws.{Sound}

-- ---- the fault of one record

module _ (row : Row) (own : ℕ) (e : Entry) where
  misdirected-told-at : (h : Numbers) → row.numbers ≡ h → IsTest (Misdirected row own e) (misdirected h row.arguments own e)
  unfolding misdirected
  misdirected-told-at Nothing q = fails never where
    never : Misdirected row own e → ⊥
    never (bad-label l o) = let z : ◌≡◌ {A = ℕ} 0 1 = cc in omega arith
    never (bad-a l o) = let z : ◌≡◌ {A = ℕ} 0 1 = cc in omega arith
    never (bad-b l t o) = let z : ◌≡◌ {A = ℕ} 0 1 = cc in omega arith
  misdirected-told-at Label q = test_iff (or-tests (ltb-tests e.a 1) (ltb-tests label_most e.a)) (bad-label q, back) where
    back : Misdirected row own e → Outside e.a
    back (bad-label l o) = o
    back (bad-a l o) = let z : ◌≡◌ {A = ℕ} 0 1 = cc in absurd (omega arith)
    back (bad-b l t o) = let z : ◌≡◌ {A = ℕ} 0 1 = cc in absurd (omega arith)
  misdirected-told-at Entries q =
      test_iff (or-tests (leb-tests own e.a) (and-tests (leb-tests 2 row.arguments) (leb-tests own e.b))) (there, back) where
        there : (own ≤ e.a) ⊎ ((2 ≤ row.arguments) × (own ≤ e.b)) → Misdirected row own e
        there (inl o) = bad-a q o
        there (inr (t, o)) = bad-b q t o

        back : Misdirected row own e → (own ≤ e.a) ⊎ ((2 ≤ row.arguments) × (own ≤ e.b))
        back (bad-label l o) = let z : ◌≡◌ {A = ℕ} 0 1 = cc in absurd (omega arith)
        back (bad-a l o) = inl o
        back (bad-b l t o) = inr (t, o)

  -- The test of row 3 passes exactly where an entry is misdirected.
  misdirected-told : IsTest (Misdirected row own e) (misdirected row.numbers row.arguments own e)
  misdirected-told = misdirected-told-at row.numbers refl

module _ (s : List ℕ) (own at : ℕ) where
  broken-at : IsTest (Faulty rule_length s at) (broken (frame_of s at (row_of (kind_at s at)).length))
  broken-at = broken-told rule_length s at

  misdirected-at : IsTest (MisdirectedAt s own at) (misdirected (row_of (kind_at s at)).numbers (row_of (kind_at s at)).arguments own (entry_at s at))
  misdirected-at = misdirected-told (row_of (kind_at s at)) own (entry_at s at)

  distinct : Distinct 4 2 3
  distinct =
      record {
        some_x = omega arith;
        some_y = omega arith;
        some_z = omega arith;
        x_y = omega arith;
        x_z = omega arith;
        y_z = omega arith;
      }

  under : (entries_most ≤ own → ⊥) ↔ (own < entries_most)
  under = (λ n. omega arith, λ l h. omega arith)

  -- A record gets 4 exactly where it is the 65th or a later one.
  fault-4-iff : (rule_fault s own at ≡ 4) ↔ (entries_most ≤ own)
  unfolding rule_fault
  fault-4-iff = chain-first-iff 4 2 3 distinct (leb-tests entries_most own) broken-at misdirected-at

  -- A record gets 2 exactly where it is one of the first 64 and faulty.
  fault-2-iff : (rule_fault s own at ≡ 2) ↔ ((own < entries_most) × Faulty rule_length s at)
  unfolding rule_fault
  fault-2-iff = Iff.trans (chain-second-iff 4 2 3 distinct (leb-tests entries_most own) broken-at misdirected-at) (Iff.and under Iff.rfl)

  -- A record gets 3 exactly where it is one of the first 64, not faulty, and misdirected.
  fault-3-iff : (rule_fault s own at ≡ 3) ↔ ((own < entries_most) × ((Faulty rule_length s at → ⊥) × MisdirectedAt s own at))
  unfolding rule_fault
  fault-3-iff = Iff.trans (chain-third-iff 4 2 3 distinct (leb-tests entries_most own) broken-at misdirected-at) (Iff.and under Iff.rfl)

  -- A record gets no number exactly where none of these is so.
  pub fault-0-iff : (rule_fault s own at ≡ 0) ↔ ((own < entries_most) × ((Faulty rule_length s at → ⊥) × (MisdirectedAt s own at → ⊥)))
  unfolding rule_fault
  fault-0-iff = Iff.trans (chain-none-iff 4 2 3 distinct (leb-tests entries_most own) broken-at misdirected-at) (Iff.and under Iff.rfl)

  -- A record at fault gets 4, 2 or 3.
  fault-numbers : (k : ℕ) → rule_fault s own at ≡ k → (k ≡ 0 → ⊥) → (k ≡ 4) ⊎ ((k ≡ 2) ⊎ (k ≡ 3))
  unfolding rule_fault
  fault-numbers k e n =
      chain-numbers 4 2 3 (leb entries_most own) (broken (frame_of s at (row_of (kind_at s at)).length))
      (misdirected (row_of (kind_at s at)).numbers (row_of (kind_at s at)).arguments own (entry_at s at)) k e n

-- ---- the rule's answer

module _ (s : List ℕ) where
  rule-sound : (j : ℕ) → rule_faults s j ≡ 0 → Faulty rule_length s (start_of s j) → ⊥
  rule-sound j e = ((fault-0-iff s j (start_of s j)).0 e).1.0

  rule-capped : (i : ℕ) → ((j : ℕ) → j < i → rule_faults s j ≡ 0) → i ≤ entries_most
  rule-capped i clean =
      elim (dec_lt entries_most i) [
        | yes l ↦ absurd (omega (arith, clean entries_most l, (fault-4-iff s entries_most (start_of s entries_most)).1 (omega arith)))
        | no l ↦ omega arith
      ]

  later-iff : (a : Answer) → (rule_answer_at s (first (rule_stops s) entries_most) ≡ a) ↔ Decided (rule_faults s) s Accepted a
  unfolding rule_answer_at rule_stops
  later-iff a = answer-iff (rule_faults s) s rule_length entries_most rule-sound (λ i clean l. rule-capped i clean) Accepted a

  refused-there : (k p : ℕ) → Decided (rule_faults s) s Accepted (Refused k p)
      → (i : ℕ) × CleanTo (rule_faults s) s i p × (rule_fault s i p ≡ k)
  refused-there k p (by_end i r e) = let z : ◌≡◌ {A = ℕ} 0 1 = cc in absurd (omega arith)
  refused-there k p (by-fault i q r e) =
      let same : q ≡ p = cc in
      let at = subst (CleanTo (rule_faults s) s i) same r.reached in (i, at, cc at.begins)

  refused-back : (k p i : ℕ) → (k ≡ 0 → ⊥) → CleanTo (rule_faults s) s i p → rule_fault s i p ≡ k
      → Decided (rule_faults s) s Accepted (Refused k p)
  refused-back k p i n r e =
      let f : rule_faults s i ≡ k = cc r.begins in by-fault i p (record { reached = r; at_fault = λ z. n (cc) }) (cc)

  -- A number from 2 on is given exactly where the size is right and a record is reached that gets it.
  row-iff : (k p : ℕ) (Row : ℕ → Type 0) → 2 ≤ k → ((i : ℕ) → (rule_fault s i p ≡ k) ↔ Row i)
      → (rule_answer s ≡ Refused k p) ↔ (Sized rule_most s × ((i : ℕ) × CleanTo (rule_faults s) s i p × Row i))
  unfolding rule_answer
  row-iff k p Row l rows =
      Iff.trans (sized-iff 1 rule_most s _ (Refused k p) (λ e. let z : 1 ≡ k = cc in omega arith))
      (Iff.and Iff.rfl (Iff.trans (later-iff (Refused k p)) (
        λ d. let r = refused-there k p d in (r.0, r.1, (rows r.0).0 r.2),
        λ r. refused-back k p r.0 (λ z. omega arith) r.1 ((rows r.0).1 r.2),
      )))

  later-numbers : (k p : ℕ) → Decided (rule_faults s) s Accepted (Refused k p) → (k ≡ 4) ⊎ ((k ≡ 2) ⊎ (k ≡ 3))
  later-numbers k p (by_end i r e) = let z : ◌≡◌ {A = ℕ} 0 1 = cc in absurd (omega arith)
  later-numbers k p (by-fault i q r e) = let f : rule_faults s i ≡ k = cc in fault-numbers s i (start_of s i) k f (λ z. r.at_fault (f ∙ z))

  -- Row 1 is given exactly to a rule of 0 bytes or over 512, at 0.
  pub rule-1-iff : (p : ℕ) → (rule_answer s ≡ Refused 1 p) ↔ ((p ≡ 0) × ((length s ≡ 0) ⊎ (rule_most < length s)))
  unfolding rule_answer
  rule-1-iff p = unsized-iff 1 rule_most s _ p (λ e. never (later-numbers 1 p ((later-iff (Refused 1 p)).0 e))) where
    never : (◌≡◌ {A = ℕ} 1 4) ⊎ ((◌≡◌ {A = ℕ} 1 2) ⊎ (◌≡◌ {A = ℕ} 1 3)) → ⊥
    never h = elim h [ inl z ↦ omega arith | inr h2 ↦ elim h2 [ inl z ↦ omega arith | inr z ↦ omega arith ] ]

  -- Row 2 is given exactly at the first record at fault, where it is one of the first 64 and faulty.
  pub rule-2-iff : (p : ℕ)
      → (rule_answer s ≡ Refused 2 p) ↔ (Sized rule_most s × ((i : ℕ) × CleanTo (rule_faults s) s i p × ((i < entries_most) × Faulty rule_length s p)))
  rule-2-iff p = row-iff 2 p _ (omega arith) (λ i. fault-2-iff s i p)

  -- Row 3 is given exactly at the first record at fault, where it is one of the first 64, not faulty, and misdirected.
  pub rule-3-iff : (p : ℕ) → (rule_answer s ≡ Refused 3 p)
      ↔ (Sized rule_most s × ((i : ℕ) × CleanTo (rule_faults s) s i p × ((i < entries_most) × ((Faulty rule_length s p → ⊥) × MisdirectedAt s i p))))
  rule-3-iff p = row-iff 3 p _ (omega arith) (λ i. fault-3-iff s i p)

  -- Row 4 is given exactly where a 65th record begins after 64 without fault, and there.
  pub rule-4-iff : (p : ℕ) → (rule_answer s ≡ Refused 4 p) ↔ (Sized rule_most s × CleanTo (rule_faults s) s entries_most p)
  rule-4-iff p =
      Iff.trans (row-iff 4 p _ (omega arith) (λ i. fault-4-iff s i p)) (Iff.and Iff.rfl (
        λ r. let e : r.0 ≡ entries_most = omega (arith, rule-capped r.0 r.1.clean, r.2) in
            subst (λ (i : ℕ). CleanTo (rule_faults s) s i p) e r.1,
        λ r. (entries_most, r, omega arith),
      ))

  -- A rule is accepted exactly where its size is right and it ends after its entries, 64 or fewer, none of them at fault.
  pub rule-accepted-iff : (n : ℕ) → (rule_answer s ≡ Accepted n) ↔ (Sized rule_most s × (CleanEnd (rule_faults s) s n × (n ≤ entries_most)))
  unfolding rule_answer
  rule-accepted-iff n =
      Iff.trans (sized-iff 1 rule_most s _ (Accepted n) (λ e. let z : ◌≡◌ {A = ℕ} 0 1 = cc in omega arith))
      (Iff.and Iff.rfl (Iff.trans (later-iff (Accepted n)) (there, λ r. by_end n r.0 refl))) where
        there : Decided (rule_faults s) s Accepted (Accepted n) → CleanEnd (rule_faults s) s n × (n ≤ entries_most)
        there (by_end i r e) = let same : i ≡ n = cc in let q = subst (CleanEnd (rule_faults s) s) same r in (q, rule-capped n q.clean)
        there (by-fault i p r e) = let z : ◌≡◌ {A = ℕ} 0 1 = cc in absurd (omega arith)

  refused-cases : (k p : ℕ) → rule_answer s ≡ Refused k p → (Refused 1 0 ≡ Refused k p) ⊎ Decided (rule_faults s) s Accepted (Refused k p)
  unfolding rule_answer
  refused-cases k p e = elim (size-cases 1 rule_most s _ (Refused k p) e) [ inl q ↦ inl q | inr q ↦ inr ((later-iff (Refused k p)).0 q) ]

  -- A rule is refused with no number but 1, 2, 3 and 4.
  pub rule-numbers : (k p : ℕ) → rule_answer s ≡ Refused k p → (k ≡ 1) ⊎ ((k ≡ 2) ⊎ ((k ≡ 3) ⊎ (k ≡ 4)))
  rule-numbers k p e = go (refused-cases k p e) where
    later : (k ≡ 4) ⊎ ((k ≡ 2) ⊎ (k ≡ 3)) → (k ≡ 1) ⊎ ((k ≡ 2) ⊎ ((k ≡ 3) ⊎ (k ≡ 4)))
    later (inl z) = inr (inr (inr z))
    later (inr (inl z)) = inr (inl z)
    later (inr (inr z)) = inr (inr (inl z))

    go : (Refused 1 0 ≡ Refused k p) ⊎ Decided (rule_faults s) s Accepted (Refused k p) → (k ≡ 1) ⊎ ((k ≡ 2) ⊎ ((k ≡ 3) ⊎ (k ≡ 4)))
    go (inl q) = inl (cc)
    go (inr d) = later (later-numbers k p d)

  -- A refusal's number is not 0.
  pub rule-answer-sound : Sound (rule_answer s)
  rule-answer-sound = go (rule_answer s) refl
    where
      go : (a : Answer) → rule_answer s ≡ a → Sound a
      go (Accepted n) e z = tt
      go (Refused k p) e z =
          ⊎_elim (λ x. omega arith) (⊎_elim (λ x. omega arith) (⊎_elim (λ x. omega arith) (λ x. omega arith))) (rule-numbers k p e)

  -- The place of a refusal is 0 or lies within the rule.
  pub rule-place : (k p : ℕ) → rule_answer s ≡ Refused k p → p ≤ length s
  rule-place k p e = go (refused-cases k p e) where
    go : (Refused 1 0 ≡ Refused k p) ⊎ Decided (rule_faults s) s Accepted (Refused k p) → p ≤ length s
    go (inl q) = let z : p ≡ 0 = cc in omega arith
    go (inr d) = omega (arith, (refused-there k p d).1.there)
