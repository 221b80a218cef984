-- When exactly the report reader gives each number, and where: rows 0 and 5 to 8 of document 01's table, for every list.
-- Assumes nothing.
use Prim.Native.Nat.{ℕ, ◌≤◌, ◌<◌}
use native.Mathlib.Omega.{arith}
use mathlib.Core.Path.{◌≡◌, refl, sym, ◌∙◌, subst}
use mathlib.Core.Bool.{Bool, true, false, cond, ◌||◌, ◌&&◌}
use mathlib.Core.List.{List}
use mathlib.Core.Logic.{◌↔◌, ◌⊎◌, inl, inr, ⊎_elim}
use lib.Dec.{ltb, eqb}
use lib.ListN.{length}
use Rattle.numbers.specs.First.{first}
use Rattle.terms.specs.Frame.{frame_of, kind_at, broken, start_of, stops_at}
use Rattle.tag.specs.Tags.{Tag, depth, opened_count, tag_fault, end_of}
use Rattle.tag.specs.Record.{report_length, tag_at, record_fault}
use Rattle.reports.specs.Report.{tags_before, report_fault, report_stops, report_answer_at, report_answer, last_record}
use Rattle.terms.specs.Answer.{Answer, Accepted, Refused}
use Rattle.grammar.specs.When.{Faulty, Sized, Row6, Row7, Row8}
use Rattle.numbers.proofs.Tells.{IsTest, holds, fails, or-tests, eqb-tests, pick-later}
use Rattle.grammar.proofs.Chain.{chain, chain-numbers, chain-first-iff, chain-second-iff, chain-third-iff}
use Rattle.grammar.proofs.Frame.{broken-told, start-far}
use Rattle.grammar.proofs.Decides.{answers, CleanTo, CleanEnd, Decided, by_end, by-fault, answer-iff, ended-first, size_first}
use Rattle.grammar.proofs.Decides.{unsized-iff, sized-iff}
use Rattle.grammar.proofs.TagRows.{mislabels, unbalances, overfills, mislabels-told, unbalances-told, overfills-told}
use Rattle.grammar.proofs.TagRows.{tag-fault-is, numbers-distinct}
use Rattle.terms.specs.Limits.{report_most}
use Rattle.terms.proofs.AnswerLaws.{Sound}

-- A row applies at the first record with a fault, which begins at p: `row` takes where the record begins, how many elements are open
-- before it, and how many have been opened.
abbrev pub AtFirst : List ℕ → ℕ → (ℕ → ℕ → ℕ → Type 0) → Type 0
AtFirst s p row = (i : ℕ) × CleanTo (report_fault s) s i p × row p (depth (tags_before s i)) (opened_count (tags_before s i))

-- Row 7 at the end: no record has a fault, and the report ends with an element open; the place is its length.
abbrev pub EndsOpen : List ℕ → ℕ → Type 0
EndsOpen s p = (i : ℕ) × CleanEnd (report_fault s) s i × (0 < depth (tags_before s i)) × (p ≡ length s)

-- Row 0: no record has a fault, and the report ends with no element open and n opened.
abbrev pub EndsWell : List ℕ → ℕ → Type 0
EndsWell s n = (i : ℕ) × CleanEnd (report_fault s) s i × (depth (tags_before s i) ≡ 0) × (opened_count (tags_before s i) ≡ n)

-- ---- one record

cond-or : (a b c f : Bool) → cond a 6 (chain 6 7 8 b c f) ≡ chain 6 7 8 (a || b) c f
cond-or true b c f = refl
cond-or false b c f = refl

module _ (s : List ℕ) (at d e : ℕ) where
  abbrev tag : Tag
  tag = tag_at s at

  abbrev cracked : Bool
  cracked = broken (frame_of s at (report_length (kind_at s at)))

  abbrev row6 : Bool
  row6 = cracked || mislabels tag

  record_is : record_fault s at d e ≡ chain 6 7 8 row6 (unbalances d e tag) (overfills d e tag)
  unfolding record_fault
  record_is = rw (tag-fault-is d e tag) (cond-or cracked (mislabels tag) (unbalances d e tag) (overfills d e tag))

  row-6-told : IsTest (Row6 s at) row6
  row-6-told = or-tests (broken-told report_length s at) (mislabels-told tag)

  -- A record gets number 6 exactly where row 6 applies to it.
  record-6-iff : (record_fault s at d e ≡ 6) ↔ Row6 s at
  record-6-iff = rw record_is (chain-first-iff 6 7 8 numbers-distinct row-6-told (unbalances-told d e tag) (overfills-told d e tag))

  -- A record gets number 7 exactly where row 7 applies to it.
  record-7-iff : (record_fault s at d e ≡ 7) ↔ Row7 s at d e
  record-7-iff =
      let r = chain-second-iff 6 7 8 numbers-distinct row-6-told (unbalances-told d e tag) (overfills-told d e tag) in
      rw record_is (λ q. let h = r.0 q in record { not_6 = h.0; unbalanced = h.1 }, λ h. r.1 (h.not_6, h.unbalanced))

  -- A record gets number 8 exactly where row 8 applies to it.
  record-8-iff : (record_fault s at d e ≡ 8) ↔ Row8 s at d e
  record-8-iff =
      let r = chain-third-iff 6 7 8 numbers-distinct row-6-told (unbalances-told d e tag) (overfills-told d e tag) in
      rw record_is (
        λ q. let h = r.0 q in record { not_6 = h.0; not_7 = h.1.0; too_much = h.1.1 },
        λ h. r.1 (h.not_6, (h.not_7, h.too_much)),
      )

  -- A record gets no number exactly where it is not faulty and its tag gets none.
  pub record-0-iff : (record_fault s at d e ≡ 0) ↔ ((Faulty report_length s at → ⊥) × (tag_fault d e (eqb d 0 && ltb 0 e) (tag_at s at) ≡ 0))
  unfolding record_fault
  record-0-iff = pick-later 6 _ 0 (broken-told report_length s at) (omega arith) (λ q. q, λ q. q)

  -- A record gets no other number.
  record-numbers : (k : ℕ) → record_fault s at d e ≡ k → (k ≡ 0 → ⊥) → (k ≡ 6) ⊎ ((k ≡ 7) ⊎ (k ≡ 8))
  record-numbers k q n = chain-numbers 6 7 8 row6 (unbalances d e tag) (overfills d e tag) k (sym record_is ∙ q) n

-- ---- the report

module _ (s : List ℕ) where
  -- There are no more records than bytes.
  capped : (i : ℕ) → ((j : ℕ) → j < i → report_fault s j ≡ 0) → start_of s i ≤ length s → i ≤ length s
  capped i clean h = omega (arith, start-far s 0 i (omega arith))

  -- A record that gets no number is not faulty.
  pub clean-unfaulty : (j : ℕ) → report_fault s j ≡ 0 → Faulty report_length s (start_of s j) → ⊥
  unfolding report_fault
  clean-unfaulty j z = ((record-0-iff s (start_of s j) (depth (tags_before s j)) (opened_count (tags_before s j))).0 z).0

  abbrev ends : ℕ → Answer
  ends i = end_of (length s) (depth (tags_before s i)) (opened_count (tags_before s i))

  -- What a report of the right size is answered.
  abbrev later : Answer
  later = answers (report_fault s) s ends (first (stops_at (report_fault s) s) (length s))

  later-iff : (a : Answer) → (later ≡ a) ↔ Decided (report_fault s) s ends a
  later-iff = answer-iff (report_fault s) s report_length (length s) clean-unfaulty capped ends

  answer_is : report_answer s ≡ size_first 5 report_most s later
  unfolding report_answer report_answer_at report_stops
  answer_is = refl

  -- Every answer but number 5's is given exactly where the size is right and it is that of the end or of the first record at fault.
  report-decided-iff : (a : Answer) → (Refused 5 0 ≡ a → ⊥) → (report_answer s ≡ a) ↔ (Sized report_most s × Decided (report_fault s) s ends a)
  report-decided-iff a n =
      let r = sized-iff 5 report_most s _ a n in
      rw answer_is (λ e. let h = r.0 e in (h.0, (later-iff a).0 h.1), λ h. r.1 (h.0, (later-iff a).1 h.1))

  -- ---- the end

  end-accepted-iff : (d e n : ℕ) → (end_of (length s) d e ≡ Accepted n) ↔ ((d ≡ 0) × (e ≡ n))
  unfolding end_of
  end-accepted-iff d e n = go (eqb-tests d 0) where
    go : {b : Bool} → IsTest (d ≡ 0) b → (cond b (Accepted e) (Refused 7 (length s)) ≡ Accepted n) ↔ ((d ≡ 0) × (e ≡ n))
    go (holds h) = (λ q. (h, cc), λ q. cc q.1)
    go (fails h) = (λ q. let z : ◌≡◌ {A = ℕ} 0 1 = cc in absurd (omega arith), λ q. absurd (h q.0))

  end-refused-iff : (d e k p : ℕ) → (end_of (length s) d e ≡ Refused k p) ↔ ((k ≡ 7) × ((0 < d) × (p ≡ length s)))
  unfolding end_of
  end-refused-iff d e k p = go (eqb-tests d 0) where
    go : {b : Bool} → IsTest (d ≡ 0) b → (cond b (Accepted e) (Refused 7 (length s)) ≡ Refused k p) ↔ ((k ≡ 7) × ((0 < d) × (p ≡ length s)))
    go (holds h) = (λ q. let z : ◌≡◌ {A = ℕ} 0 1 = cc in absurd (omega arith), λ q. absurd (omega (arith, q.1.0)))
    go (fails h) = (λ q. (cc, (omega arith, cc)), λ q. cc (q.0, q.1.1))

  -- ---- the numbers

  fault-at : (i p : ℕ) → CleanTo (report_fault s) s i p → report_fault s i ≡ record_fault s p (depth (tags_before s i)) (opened_count (tags_before s i))
  unfolding report_fault
  fault-at i p r = rw r.begins

  module _ (k p : ℕ) (row : ℕ → ℕ → ℕ → Type 0) (row-iff : (at d e : ℕ) → (record_fault s at d e ≡ k) ↔ row at d e) (some : k ≡ 0 → ⊥) where
    decided-row : Decided (report_fault s) s ends (Refused k p) → AtFirst s p row ⊎ ((k ≡ 7) × EndsOpen s p)
    decided-row (by_end i r e) = let h = (end-refused-iff _ _ k p).0 e in inr (h.0, (i, r, h.1.0, h.1.1))
    decided-row (by-fault i q f e) =
        let b : q ≡ p = cc in
        let r : CleanTo (report_fault s) s i p = subst (CleanTo (report_fault s) s i) b f.reached in
        inl (i, r, (row-iff _ _ _).0 (sym (fault-at i p r) ∙ cc))

    row-decided : AtFirst s p row ⊎ ((k ≡ 7) × EndsOpen s p) → Decided (report_fault s) s ends (Refused k p)
    row-decided (inl h) =
        let q : report_fault s h.0 ≡ k = fault-at h.0 p h.1 ∙ (row-iff _ _ _).1 h.2 in
        by-fault h.0 p (record { reached = h.1; at_fault = λ z. some (sym q ∙ z) }) (cc)
    row-decided (inr h) = by_end h.1.0 h.1.1 ((end-refused-iff _ _ k p).1 (h.0, (h.1.2, h.1.3)))

    -- A number but 5 and 0 is given exactly where its row applies at the first record with a fault, or at the end where it is 7.
    report-row-iff : (k ≡ 5 → ⊥) → (report_answer s ≡ Refused k p) ↔ (Sized report_most s × (AtFirst s p row ⊎ ((k ≡ 7) × EndsOpen s p)))
    report-row-iff n =
        let d = report-decided-iff (Refused k p) (λ e. n (cc)) in
        (λ e. let h = d.0 e in (h.0, decided-row h.1), λ h. d.1 (h.0, row-decided h.1))

    -- A number but 5, 7 and 0 is given exactly where its row applies at the first record with a fault.
    report-record-iff : (k ≡ 5 → ⊥) → (k ≡ 7 → ⊥) → (report_answer s ≡ Refused k p) ↔ (Sized report_most s × AtFirst s p row)
    report-record-iff n m =
        let r = report-row-iff n in
        (λ e. let h = r.0 e in (h.0, ⊎_elim (λ a. a) (λ z. absurd (m z.0)) h.1), λ h. r.1 (h.0, inl h.1))

  never-5 : (at d e : ℕ) → (record_fault s at d e ≡ 5) ↔ ⊥
  never-5 at d e = (
    λ q. ⊎_elim (λ z. omega arith) (⊎_elim (λ z. omega arith) (λ z. omega arith)) (record-numbers s at d e 5 q (omega arith)),
    λ z. absurd z,
  )

  decided-5 : (p : ℕ) → Decided (report_fault s) s ends (Refused 5 p) → ⊥
  decided-5 p d = ⊎_elim (λ h. h.2) (λ h. omega (arith, h.0)) (decided-row 5 p (λ at d e. ⊥) never-5 (omega arith) d)

  -- Number 5 is given exactly to a report of 0 bytes or over 40,960, at 0.
  pub report-5-iff : (p : ℕ) → (report_answer s ≡ Refused 5 p) ↔ ((p ≡ 0) × ((length s ≡ 0) ⊎ (report_most < length s)))
  report-5-iff p = rw answer_is (unsized-iff 5 report_most s later p (λ e. decided-5 p ((later-iff (Refused 5 p)).0 e)))

  -- Number 6 is given exactly where the first record with a fault is faulty or has a label outside 1..999, where it begins.
  pub report-6-iff : (p : ℕ) → (report_answer s ≡ Refused 6 p) ↔ (Sized report_most s × AtFirst s p (λ at d e. Row6 s at))
  report-6-iff p = report-record-iff 6 p (λ at d e. Row6 s at) (record-6-iff s) (omega arith) (omega arith) (omega arith)

  -- Number 7 is given exactly where the first record with a fault closes with nothing open or opens after the root closed, where it
  -- begins, and where no record has a fault and the report ends with an element open, at its length.
  pub report-7-iff : (p : ℕ) → (report_answer s ≡ Refused 7 p) ↔ (Sized report_most s × (AtFirst s p (Row7 s) ⊎ EndsOpen s p))
  report-7-iff p =
      let r = report-row-iff 7 p (Row7 s) (record-7-iff s) (omega arith) (omega arith) in
      (λ e. let h = r.0 e in (h.0, ⊎_elim inl (λ z. inr z.1) h.1), λ h. r.1 (h.0, ⊎_elim inl (λ z. inr (refl, z)) h.1))

  -- Number 8 is given exactly where the first record with a fault opens at level 64 or a 4,097th element, where it begins.
  pub report-8-iff : (p : ℕ) → (report_answer s ≡ Refused 8 p) ↔ (Sized report_most s × AtFirst s p (Row8 s))
  report-8-iff p = report-record-iff 8 p (Row8 s) (record-8-iff s) (omega arith) (omega arith) (omega arith)

  -- A report is accepted with n elements exactly where no record has a fault and it ends with no element open and n opened.
  pub report-accepted-iff : (n : ℕ) → (report_answer s ≡ Accepted n) ↔ (Sized report_most s × EndsWell s n)
  report-accepted-iff n =
      let d = report-decided-iff (Accepted n) (λ e. let z : ◌≡◌ {A = ℕ} 0 1 = cc in absurd (omega arith)) in
      (λ e. let h = d.0 e in (h.0, well h.1), λ h. d.1 (h.0, decided h.1))
    where
      well : Decided (report_fault s) s ends (Accepted n) → EndsWell s n
      well (by_end i r e) = let h = (end-accepted-iff _ _ n).0 e in (i, r, h.0, h.1)
      well (by-fault i p f e) = let z : ◌≡◌ {A = ℕ} 0 1 = cc in absurd (omega arith)

      decided : EndsWell s n → Decided (report_fault s) s ends (Accepted n)
      decided h = by_end h.0 h.1 ((end-accepted-iff _ _ n).1 (h.2, h.3))

  decided-numbers : (k p : ℕ) → Decided (report_fault s) s ends (Refused k p) → ((k ≡ 6) ⊎ ((k ≡ 7) ⊎ (k ≡ 8))) × (p ≤ length s)
  decided-numbers k p (by_end i r e) = let h = (end-refused-iff _ _ k p).0 e in (inr (inl h.0), omega (arith, h.1.1))
  decided-numbers k p (by-fault i q f e) =
      let b : report_fault s i ≡ k = cc in
      let c : q ≡ p = cc in
      (record-numbers s q _ _ k (sym (fault-at i q f.reached) ∙ b) (λ z. f.at_fault (b ∙ z)), omega (arith, f.reached.there))

  refused-numbers : (k p : ℕ) → report_answer s ≡ Refused k p → ((k ≡ 5) ⊎ ((k ≡ 6) ⊎ ((k ≡ 7) ⊎ (k ≡ 8)))) × (p ≤ length s)
  refused-numbers k p e = go (eqb-tests k 5) where
    go : {b : Bool} → IsTest (k ≡ 5) b → ((k ≡ 5) ⊎ ((k ≡ 6) ⊎ ((k ≡ 7) ⊎ (k ≡ 8)))) × (p ≤ length s)
    go (holds h) = (inl h, omega (arith, ((report-5-iff p).0 (rw h at e)).0))
    go (fails n) =
        let r = decided-numbers k p ((report-decided-iff (Refused k p) (λ q. n (cc))).0 e).1 in (inr r.0, r.1)

  -- No number but 5, 6, 7 and 8 is given to a refused report.
  pub report-numbers : (k p : ℕ) → report_answer s ≡ Refused k p → (k ≡ 5) ⊎ ((k ≡ 6) ⊎ ((k ≡ 7) ⊎ (k ≡ 8)))
  report-numbers k p e = (refused-numbers k p e).0

  -- A refusal's number is not 0.
  pub report-answer-sound : Sound (report_answer s)
  report-answer-sound = go (report_answer s) refl
    where
      go : (a : Answer) → report_answer s ≡ a → Sound a
      go (Accepted n) e z = tt
      go (Refused k p) e z =
          ⊎_elim (λ x. omega arith) (⊎_elim (λ x. omega arith) (⊎_elim (λ x. omega arith) (λ x. omega arith))) (report-numbers k p e)

  -- The place of a refusal is not past the report's end.
  pub report-place : (k p : ℕ) → report_answer s ≡ Refused k p → p ≤ length s
  report-place k p e = (refused-numbers k p e).1

  -- Where a report ends without a fault, reading stops.
  pub report-last : (i : ℕ) → CleanEnd (report_fault s) s i → last_record s ≡ i
  unfolding report_stops
  report-last i r = ended-first (report_fault s) s (length s) i (capped i r.clean (omega (arith, r.at_end))) r
