-- A report's bytes and its tags, both ways: the tags that are read where tags were written, and the bytes that stand where tags are
-- read. So a byte string is accepted exactly where it is the bytes of a tree within the limits, and of one only.
-- Assumes nothing.
use Prim.Native.Nat.{ℕ, zero, suc, ◌+◌, ◌*◌, ◌≤◌, ◌<◌}
use native.Mathlib.Nat.{add_assoc, add-zero, eq-or-lt_of_le, le_of_suc-le-suc, not-suc-le-zero}
use native.Mathlib.Numerals.{add-one}
use native.Mathlib.Omega.{arith}
use native.Mathlib.Decide.{dec_lt}
use mathlib.Core.Path.{◌≡◌, refl, sym, ap, ◌∙◌, subst}
use mathlib.Core.Bool.{Bool, cond}
use mathlib.Core.List.{List, [], ◌∷◌, ◌++◌, append_assoc, append-nil}
use mathlib.Core.Logic.{◌↔◌, ⊎_elim}
use lib.ListN.{length, drop, length-append}
use lib.Seq.{drop-length}
use Rattle.numbers.specs.Bytes.{word_at, number_at}
use Rattle.terms.specs.Frame.{kind_at, next_of, start_of}
use Rattle.tag.specs.Tags.{Tag, opens, closes, opened_count}
use Rattle.tag.specs.Record.{report_length, tag_at}
use Rattle.reports.specs.Report.{tags_before, report_fault, report_answer, tags_of}
use Rattle.terms.specs.Answer.{Accepted}
use Rattle.numbers.specs.Bytes.{two_bytes, Bytes}
use Rattle.grammar.specs.Legal.{Fit, Legal}
use Rattle.grammar.specs.Reports.{Tree, tag_bytes, bytes_of, tags_t, size_t, Within}
use Rattle.grammar.specs.When.{Faulty}
use Rattle.grammar.proofs.Decides.{CleanEnd}
use Rattle.numbers.proofs.TwoBytes.{number-back, number-shift, bytes-split}
use Rattle.numbers.proofs.Tells.{IsTest, holds, fails, eqb-tests}
use Rattle.grammar.proofs.Frame.{Sound, sound-unfaulty, unfaulty-sound, start-strict}
use Rattle.grammar.proofs.Fits.{fit-snoc}
use Rattle.grammar.proofs.Trees.{bytes-append, bytes-size, tree-some, tags-size, tags-start-only, tags-only, legal-tree, tree-legal}
use Rattle.grammar.proofs.WhenReport.{record-0-iff, clean-unfaulty, report-accepted-iff, report-last}
use Rattle.numbers.specs.Lists.{listed}

-- ---- reading where a tag was written

tag_back : (t : Tag) (ys : List ℕ) → tag_at (tag_bytes t ++ ys) 0 ≡ t
unfolding tag_at tag_bytes two_bytes word_at
tag_back (opens l) ys = ap opens (number-back l ys)
tag_back closes ys = refl

next-back : (t : Tag) (ys : List ℕ) → next_of (tag_bytes t ++ ys) 0 ≡ length (tag_bytes t)
unfolding next_of tag_bytes two_bytes word_at
next-back (opens l) ys = refl
next-back closes ys = refl

sound_back : (t : Tag) (ys : List ℕ) → Sound report_length (tag_bytes t ++ ys) 0
unfolding tag_bytes two_bytes word_at report_length
sound_back (opens l) ys = record { left = omega arith; known = λ e. omega arith; right = refl; fits = omega arith }
sound_back closes ys = record { left = omega arith; known = λ e. omega arith; right = refl; fits = omega arith }

-- What stands after some bytes is read as it is by itself.
module _ (xs ys : List ℕ) where
  number-front : number_at (xs ++ ys) (length xs) ≡ number_at ys 0
  number-front = rw add-zero at (number-shift xs ys 0)

  tag-front : tag_at (xs ++ ys) (length xs) ≡ tag_at ys 0
  unfolding tag_at
  tag-front = rw (number-shift xs ys 2, number-shift xs ys 4)

  next-front : next_of (xs ++ ys) (length xs) ≡ length xs + next_of ys 0
  unfolding next_of
  next-front = omega (arith, number-front)

  sound-front : Sound report_length ys 0 → Sound report_length (xs ++ ys) (length xs)
  sound-front h =
      record {
        left = omega (arith, h.left, length-append xs ys);
        known = rw (number-shift xs ys 2) h.known;
        right = rw (number-front, number-shift xs ys 2) h.right;
        fits = omega (arith, h.fits, number-front, length-append xs ys);
      }

-- The first records of s are those of the tags.
pub record Reads (s : List ℕ) (ts : List Tag) : Type 0 where
  pub starts : start_of s (length ts) ≡ length (bytes_of ts)
  pub reads : tags_before s (length ts) ≡ ts
  pub whole : (j : ℕ) → j < length ts → Faulty report_length s (start_of s j) → ⊥

length-snoc : (us : List Tag) (t : Tag) → length (us ++ (t ∷ [])) ≡ suc (length us)
length-snoc us t = length-append us (t ∷ []) ∙ add-one (length us)

bytes-snoc : (us : List Tag) (t : Tag) → bytes_of (us ++ (t ∷ [])) ≡ bytes_of us ++ tag_bytes t
unfolding bytes_of
bytes-snoc us t = bytes-append us (t ∷ []) ∙ ap (λ (b : List ℕ). bytes_of us ++ b) (append-nil (tag_bytes t))

-- What holds below n and at n holds below n + 1.
below_more : (P : ℕ → Type 0) (n : ℕ) → ((j : ℕ) → j < n → P j) → P n → (j : ℕ) → j < suc n → P j
below_more P n h z j l = ⊎_elim (λ e. subst P (sym e) z) (h j) (eq-or-lt_of_le (le_of_suc-le-suc l))

reads_more : (us : List Tag) (t : Tag) (ys s : List ℕ) → s ≡ bytes_of us ++ (tag_bytes t ++ ys) → Reads s us → Reads s (us ++ (t ∷ []))
unfolding start_of listed
reads_more us t ys s e r =
    let tag : tag_at s (start_of s (length us)) ≡ t = rw (r.starts, e) (tag-front (bytes_of us) (tag_bytes t ++ ys) ∙ tag_back t ys) in
    let unfaulty : Sound report_length s (start_of s (length us)) = rw (r.starts, e) (sound-front (bytes_of us) (tag_bytes t ++ ys) (sound_back t ys)) in
    let next : next_of s (start_of s (length us)) ≡ length (bytes_of us) + length (tag_bytes t) =
    rw (r.starts, e) (next-front (bytes_of us) (tag_bytes t ++ ys) ∙ ap (λ (n : ℕ). length (bytes_of us) + n) (next-back t ys)) in
    record {
      starts = rw (length-snoc us t, bytes-snoc us t, length-append) next;
      reads = rw (length-snoc us t, r.reads, tag);
      whole =
          rw (length-snoc us t) (below_more (λ j. Faulty report_length s (start_of s j) → ⊥) (length us) r.whole
          (sound-unfaulty report_length s (start_of s (length us)) unfaulty));
    }

reads_all : (ts us : List Tag) (rest s : List ℕ) → s ≡ bytes_of us ++ (bytes_of ts ++ rest) → Reads s us → Reads s (us ++ ts)
unfolding bytes_of
reads_all [] us rest s e r = rw append-nil r
reads_all (t ∷ ts) us rest s e r =
    let a : s ≡ bytes_of us ++ (tag_bytes t ++ (bytes_of ts ++ rest)) = e ∙ simp append_assoc in
    let b : s ≡ bytes_of (us ++ (t ∷ [])) ++ (bytes_of ts ++ rest) = a ∙ simp (bytes-snoc, append_assoc) in
    rw append_assoc at (reads_all ts (us ++ (t ∷ [])) rest s b (reads_more us t (bytes_of ts ++ rest) s a r))

-- Where a list begins with the bytes of some tags, its first records are those of the tags.
pub tags-back : (ts : List Tag) (rest s : List ℕ) → s ≡ bytes_of ts ++ rest → Reads s ts
unfolding bytes_of start_of listed
tags-back ts rest s e = reads_all ts [] rest s e (record { starts = refl; reads = refl; whole = λ j l. absurd (not-suc-le-zero l) })

-- Two starts at one place are those of one record.
start-only : (s : List ℕ) (i j : ℕ) → start_of s i ≡ start_of s j → i ≡ j
start-only s i j e =
    elim (dec_lt i j) [
      | yes l ↦ absurd (omega (arith, start-strict s i j l))
      | no a ↦ elim (dec_lt j i) [ yes l ↦ absurd (omega (arith, start-strict s j i l)) | no b ↦ omega arith ]
    ]

-- Two sequences of tags with the same bytes are one.
bytes-only : (ts us : List Tag) → bytes_of ts ≡ bytes_of us → ts ≡ us
bytes-only ts us e =
    let s = bytes_of ts in
    let r = tags-back ts [] s (sym (append-nil s)) in
    let q = tags-back us [] s (e ∙ sym (append-nil (bytes_of us))) in
    let n : length ts ≡ length us = start-only s (length ts) (length us) (r.starts ∙ ap length e ∙ sym q.starts) in
    sym r.reads ∙ ap (tags_before s) n ∙ q.reads

-- ---- the bytes where a tag is read

module _ (s : List ℕ) (bytes : Bytes s) where
  -- From a record on, a byte string is its length, its kind, and what follows them.
  head_bytes : (at : ℕ) → at + 4 ≤ length s → drop at s ≡ two_bytes (number_at s at) ++ (two_bytes (kind_at s at) ++ drop (at + 4) s)
  head_bytes at h =
      bytes-split s at bytes (omega arith)
      ∙ ap (λ (b : List ℕ). two_bytes (number_at s at) ++ b) (rw add_assoc at (bytes-split s (at + 2) bytes (omega arith)))

  closes-bytes : (at : ℕ) → at + 4 ≤ length s → kind_at s at ≡ 2 → number_at s at ≡ 2
      → drop at s ≡ tag_bytes closes ++ drop (at + 2 + number_at s at) s
  unfolding tag_bytes
  closes-bytes at h k q = head_bytes at h ∙ rw (k, q, add_assoc at 2 2) (sym (append_assoc (two_bytes 2) (two_bytes 2) (drop (at + 4) s)))

  opens-bytes : (at : ℕ) → at + 6 ≤ length s → kind_at s at ≡ 1 → number_at s at ≡ 4
      → drop at s ≡ tag_bytes (opens (number_at s (at + 4))) ++ drop (at + 2 + number_at s at) s
  unfolding tag_bytes
  opens-bytes at h k q =
      head_bytes at (omega arith)
      ∙ rw (k, q, add_assoc at 2 4, bytes-split s (at + 4) bytes (omega arith), add_assoc at 4 2) (simp append_assoc)

  -- Where a record is not faulty, its tag's bytes stand there, and then the next record.
  record-bytes : (at : ℕ) → Sound report_length s at → drop at s ≡ tag_bytes (tag_at s at) ++ drop (next_of s at) s
  unfolding tag_at next_of report_length
  record-bytes at r = go (eqb-tests (kind_at s at) 1) (eqb-tests (kind_at s at) 2) r.known r.right where
    go : {b c : Bool} → IsTest (kind_at s at ≡ 1) b → IsTest (kind_at s at ≡ 2) c
        → (◌≡◌ {A = ℕ} (cond b 4 (cond c 2 0)) 0 → ⊥) → number_at s at ≡ cond b 4 (cond c 2 0)
        → drop at s ≡ tag_bytes (cond b (opens (number_at s (at + 4))) closes) ++ drop (at + 2 + number_at s at) s
    go (holds k) c n q = opens-bytes at (omega (arith, r.fits, q)) k q
    go (fails m) (holds k) n q = closes-bytes at r.left k q
    go (fails m) (fails k) n q = absurd (n refl)

  -- Where its first i records are not faulty, a byte string is the bytes of their tags, and then what is left.
  bytes_read : (i : ℕ) → ((j : ℕ) → j < i → Faulty report_length s (start_of s j) → ⊥)
      → s ≡ bytes_of (tags_before s i) ++ drop (start_of s i) s
  unfolding bytes_of start_of listed
  bytes_read zero h = refl
  bytes_read (suc i) h =
      let at = start_of s i in
      let r = record-bytes at (unfaulty-sound report_length s at (h i (omega arith))) in
      bytes_read i (λ j l. h j (omega arith))
      ∙ ap (λ (b : List ℕ). bytes_of (tags_before s i) ++ b) r
      ∙ sym (append_assoc (bytes_of (tags_before s i)) (tag_bytes (tag_at s at)) (drop (next_of s at) s))
      ∙ ap (λ (b : List ℕ). b ++ drop (next_of s at) s) (sym (bytes-snoc (tags_before s i) (tag_at s at)))

-- ---- records without a fault are tags that fit

module _ (s : List ℕ) where
  -- Where the first i records get no number, their tags fit.
  pub clean-fit : (i : ℕ) → ((j : ℕ) → j < i → report_fault s j ≡ 0) → Fit 0 0 (tags_before s i)
  unfolding report_fault listed Fit
  clean-fit zero h = tt
  clean-fit (suc i) h =
      (fit-snoc (tags_before s i) (tag_at s (start_of s i))).1
      (clean-fit i (λ j l. h j (omega arith)), ((record-0-iff s (start_of s i) _ _).0 (h i (omega arith))).1)

  -- Where the first i records are not faulty and their tags fit, they get no number.
  fit-clean : (i : ℕ) → Fit 0 0 (tags_before s i) → ((j : ℕ) → j < i → Faulty report_length s (start_of s j) → ⊥)
      → (j : ℕ) → j < i → report_fault s j ≡ 0
  unfolding report_fault listed
  fit-clean zero f h j l = absurd (not-suc-le-zero l)
  fit-clean (suc i) f h j l =
      let r = (fit-snoc (tags_before s i) (tag_at s (start_of s i))).0 f in
      below_more (λ k. report_fault s k ≡ 0) i (fit-clean i r.0 (λ k m. h k (omega arith)))
      ((record-0-iff s (start_of s i) _ _).1 (h i (omega arith), r.1)) j l

-- ---- acceptance

-- A list that is the bytes of a tree within the limits ends after the tree's tags, without a fault.
tree-ended : (s : List ℕ) (t : Tree) → s ≡ bytes_of (tags_t t) → Within t → CleanEnd (report_fault s) s (length (tags_t t))
tree-ended s t e w =
    let r = tags-back (tags_t t) [] s (e ∙ sym (append-nil (bytes_of (tags_t t)))) in
    record {
      at_end = r.starts ∙ sym (ap length e);
      clean = fit-clean s (length (tags_t t)) (rw r.reads (tree-legal t w).fit) r.whole;
    }

tree-reads : (s : List ℕ) (t : Tree) → s ≡ bytes_of (tags_t t) → tags_before s (length (tags_t t)) ≡ tags_t t
tree-reads s t e = (tags-back (tags_t t) [] s (e ∙ sym (append-nil (bytes_of (tags_t t))))).reads

-- The bytes of a tree within the limits are accepted, with as many elements as it has.
pub tree-accepted : (s : List ℕ) (t : Tree) → s ≡ bytes_of (tags_t t) → Within t → report_answer s ≡ Accepted (size_t t)
tree-accepted s t e w =
    let q = tree-reads s t e in
    let size : length s ≡ 10 * size_t t = ap length e ∙ bytes-size t in
    (report-accepted-iff s (size_t t)).1 (
      record { some = omega (arith, tree-some t); few = omega (arith, w.few) },
      (length (tags_t t), tree-ended s t e w, rw q (tree-legal t w).ended, rw q (tags-size t)),
    )

-- A byte string that ends after i records without a fault is the bytes of their tags.
ended-bytes : (s : List ℕ) → Bytes s → (i : ℕ) → CleanEnd (report_fault s) s i → s ≡ bytes_of (tags_before s i)
ended-bytes s bytes i r =
    let z : drop (start_of s i) s ≡ [] = rw r.at_end (drop-length s) in
    bytes_read s bytes i (λ j l. clean-unfaulty s j (r.clean j l)) ∙ rw z (append-nil (bytes_of (tags_before s i)))

bytes-some : (s : List ℕ) (ts : List Tag) → s ≡ bytes_of ts → 1 ≤ length s → ts ≡ [] → ⊥
unfolding bytes_of
bytes-some s ts e l z = let n : s ≡ [] = e ∙ ap bytes_of z in omega (arith, ap length n)

-- An accepted byte string is the bytes of a tree within the limits.
pub accepted-tree : (s : List ℕ) → Bytes s → (n : ℕ) → report_answer s ≡ Accepted n
    → (t : Tree) × (s ≡ bytes_of (tags_t t)) × Within t × (size_t t ≡ n)
accepted-tree s bytes n e =
    let h = (report-accepted-iff s n).0 e in
    let ts = tags_before s h.1.0 in
    let b = ended-bytes s bytes h.1.0 h.1.1 in
    let l : Legal 0 0 ts = record { fit = clean-fit s h.1.0 h.1.1.clean; ended = h.1.2 } in
    let t = legal-tree ts l (bytes-some s ts b h.0.some) in
    (t.0, b ∙ ap bytes_of t.1, t.2, sym (tags-size t.0) ∙ ap opened_count (sym t.1) ∙ h.1.3)

-- A byte string is accepted with n elements exactly where it is the bytes of a tree within the limits that has n elements.
pub report-iff : (s : List ℕ) → Bytes s → (n : ℕ)
    → (report_answer s ≡ Accepted n) ↔ ((t : Tree) × (s ≡ bytes_of (tags_t t)) × Within t × (size_t t ≡ n))
report-iff s bytes n = (accepted-tree s bytes n, λ h. tree-accepted s h.0 h.1 h.2 ∙ ap Accepted h.3)

-- The tags of a tree's bytes are the tree's.
pub tags-are : (s : List ℕ) (t : Tree) → s ≡ bytes_of (tags_t t) → Within t → tags_of s ≡ tags_t t
tags-are s t e w = ap (tags_before s) (report-last s (length (tags_t t)) (tree-ended s t e w)) ∙ tree-reads s t e

-- Two trees with the same bytes are one.
pub report-only : (t u : Tree) → bytes_of (tags_t t) ≡ bytes_of (tags_t u) → t ≡ u
report-only t u e = tags-only t u (bytes-only (tags_t t) (tags_t u) e)

-- ---- bytes that begin others

-- What is read before a record begins with what is read before an earlier one.
before-begins : (s : List ℕ) (m n : ℕ) → m ≤ n → (vs : List Tag) × (tags_before s n ≡ tags_before s m ++ vs)
unfolding listed
before-begins s m zero h = let e : m ≡ 0 = omega arith in ([], rw e refl)
before-begins s m (suc n) h =
    ⊎_elim (λ e. ([], rw e (sym (append-nil (tags_before s (suc n))))))
    (λ l. let r = before-begins s m n (le_of_suc-le-suc l) in (
      r.0 ++ (tag_at s (start_of s n) ∷ []),
      ap (λ (ts : List Tag). ts ++ (tag_at s (start_of s n) ∷ [])) r.1 ∙ append_assoc (tags_before s m) r.0 (tag_at s (start_of s n) ∷ []),
    ))
    (eq-or-lt_of_le h)

-- Where the bytes of some tags begin those of others, the tags begin the others.
pub tags-begin : (us ts : List Tag) (rest : List ℕ) → bytes_of us ++ rest ≡ bytes_of ts → (more : List Tag) × (ts ≡ us ++ more)
tags-begin us ts rest e =
    let s = bytes_of ts in
    let r = tags-back us rest s (sym e) in
    let q = tags-back ts [] s (sym (append-nil s)) in
    let fewer : length us ≤ length ts =
    elim (dec_lt (length ts) (length us)) [
      | yes l ↦ absurd (omega (arith, start-strict s (length ts) (length us) l, r.starts, q.starts, ap length e, length-append (bytes_of us) rest))
      | no n ↦ omega (arith, n)
    ] in
    let more = before-begins s (length us) (length ts) fewer in
    (more.0, sym q.reads ∙ more.1 ∙ ap (λ (vs : List Tag). vs ++ more.0) r.reads)

-- ---- a report that lost its end

-- A tree's bytes begin those of another tree only where both trees are one, and then nothing follows.
tree-begins-only : (t u : Tree) (rest : List ℕ) → bytes_of (tags_t u) ≡ bytes_of (tags_t t) ++ rest → (t ≡ u) × (rest ≡ [])
tree-begins-only t u rest e =
    let more = tags-begin (tags_t t) (tags_t u) rest (sym e) in
    let same = tags-start-only t u more.0 [] (sym more.1 ∙ sym (append-nil (tags_t u))) in
    (same.0, empty-rest rest (omega (arith, ap (λ (v : Tree). length (bytes_of (tags_t v))) same.0, ap length e, length-append (bytes_of (tags_t t)) rest)))
  where
    empty-rest : (l : List ℕ) → length l ≡ 0 → l ≡ []
    empty-rest [] h = refl
    empty-rest (x ∷ xs) h = absurd (omega arith)

-- An accepted report that lost any part of its end is not accepted: no tag that is missing is guessed.
pub report-cut : (s rest : List ℕ) → Bytes s → Bytes (s ++ rest) → (m n : ℕ) → report_answer (s ++ rest) ≡ Accepted n
    → report_answer s ≡ Accepted m → rest ≡ []
report-cut s rest b c m n whole part =
    let t = accepted-tree s b m part in
    let u = accepted-tree (s ++ rest) c n whole in
    (tree-begins-only t.0 u.0 rest (sym u.1 ∙ ap (λ (l : List ℕ). l ++ rest) t.1)).1
