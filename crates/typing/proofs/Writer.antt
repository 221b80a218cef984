-- What a row puts, form by form: there is room for each of its parts, and once these are put, so is the whole. Assumes nothing.
use Prim.Native.Nat.{ℕ, ◌+◌, ◌-◌, ◌*◌, ◌≤◌, ◌<◌}
use native.Mathlib.Omega.{arith}
use mathlib.Core.Path.{◌≡◌, refl, sym, ◌∙◌}
use mathlib.Core.List.{List, []}
use mathlib.Core.Logic.{inl, inr}
use lib.ListN.{length}
use Rattle.paths.specs.Syntax.{Test}
use Rattle.paths.specs.Translation.{put_t, put_p, put_s}
use Rattle.terms.specs.Limits.{entries_most}
use Rattle.spell.specs.declared.own.Written.{Written}
use Rattle.spell.specs.Promises.{PartPut}
use Rattle.spell.specs.Filled.{part_entries, Asks, Puts}
use Rattle.spell.proofs.Changes.{last_in, asks-as, puts-as, asks-few, asks-last, puts-last, asks-first, asks-second, puts-both}
use Rattle.spell.proofs.PartLaws.{part-grows, part-puts}
use Rattle.parse.specs.Rows.{HeldT}
use Rattle.parse.specs.declared.tree.Row.{Row}
use Rattle.typing.specs.Writing.{put_steps, HeldSteps, TestAsks, TestPuts, StepAsks, StepPuts, StepsAsk, StepsPut}
use Rattle.typing.proofs.Trees.{last_plain, last_tested, plain-grows, tested-grows, test-grows, path-grows, steps-grow, turned, turned-puts}
use Rattle.typing.proofs.Below.{OfStep, Says, leaf-is, not_is, or_is, path-is, before-is, plain-is, tested-is, turned-held, none_before, steps-is, steps-row}

-- What the writer has still to do: less where more entries are written, and where as many are, less for a row below.
abbrev pub todo : (entries n : ℕ) → ℕ
todo entries n = 256 * (entries_most - entries) + 3 * n

-- ---- a test

module _ {rows : List Row} {n : ℕ} {p : Row} (s : Says rows n p) {rule : List ℕ} {w : Written} where
  -- true and label N: there is room for the entry, so once the part is put, the test is.
  pub leaf-put : {rule₁ : List ℕ} {w₁ : Written} → TestAsks rows n rule w → p.form ≤ 2 → PartPut p.form p.first rule w rule₁ w₁
      → TestPuts rows n rule w rule₁ w₁
  leaf-put (t, x, a) l q u y =
      let i = leaf-is s t x l in
      puts-as (leaf-is s u y l).1 (part-puts p.form p.first (i.0, omega (arith, l), inl l) (asks-as i.1 a) q)

  -- not TEST: the test, which stands below, and one entry
  module _ (h : p.form ≡ 3) where
    -- There is room for the test,
    pub not_first : TestAsks rows n rule w → (p.first < n) × TestAsks rows p.first rule w
    not_first (t, x, a) =
        let i = not_is s t x h in
        (i.1, (i.0, i.2, asks-first (λ k. put_t i.0) (λ k. last_plain 3) refl (λ k. plain-grows 3) (asks-as i.3 a)))

    -- and once it is put, for the entry, so once that is, the whole is put.
    pub not-put : {rule₁ rule₂ : List ℕ} {w₁ w₂ : Written} {j : ℕ} → TestPuts rows p.first rule w rule₁ w₁ → j ≡ last_in w₁
        → TestAsks rows n rule w → PartPut 3 j rule₁ w₁ rule₂ w₂ → TestPuts rows n rule w rule₂ w₂
    not-put {j = j} q d (t, x, a) r u y =
        let i = not_is s t x h in
        let v = q i.0 i.2 in
        let b = asks-last (part_entries 3) d (asks-second (λ k. put_t i.0) (λ k. last_plain 3) refl v (asks-as i.3 a)) in
        let m = not_is s u y h in
        puts-as m.3 (puts-both (λ k. put_t m.0) (λ k. last_plain 3) refl (q m.0 m.2)
        (puts-last (part_entries 3) d (part-puts 3 j (omega arith, omega arith, inr (omega (arith, v.more))) b r)))

  -- (TEST or TEST): the left test, the right test, which stand below, and one entry
  module _ (h : p.form ≡ 4) where
    -- There is room for the left test,
    pub or-first : TestAsks rows n rule w → (p.first < n) × TestAsks rows p.first rule w
    or-first (t, x, a) =
        let i = or_is s t x h in
        let g = tested-grows 4 (test-grows i.1) in
        let b = asks-first (λ k. put_t i.0) (λ k. last_tested 4 (put_t i.1)) refl (λ k. g) (asks-as i.6 a) in
        (i.2, (i.0, i.4, b))

    module _ {rule₁ : List ℕ} {w₁ : Written} (q : TestPuts rows p.first rule w rule₁ w₁) where
      -- once it is put, for all that is left,
      or_left : (t : Test) (x : HeldT rows t n) → Asks (put_t t) rule w → Asks (last_tested 4 (put_t (or_is s t x h).1)) rule₁ w₁
      or_left t x a =
          let i = or_is s t x h in asks-second (λ k. put_t i.0) (λ k. last_tested 4 (put_t i.1)) refl (q i.0 i.4) (asks-as i.6 a)

      -- so for the right test;
      pub or-second : TestAsks rows n rule w → (p.second < n) × (w.entries < w₁.entries) × TestAsks rows p.second rule₁ w₁
      or-second (t, x, a) =
          let i = or_is s t x h in
          let b = asks-first (λ k. put_t i.1) (part_entries 4) refl (part-grows 4) (or_left t x a) in
          (i.3, (q i.0 i.4).more, (i.1, i.5, b))

      -- and once that is put too, for the entry, so once that is, the whole is put.
      pub or_put : {rule₂ rule₃ : List ℕ} {w₂ w₃ : Written} {j : ℕ} → TestPuts rows p.second rule₁ w₁ rule₂ w₂ → j ≡ last_in w₁
          → TestAsks rows n rule w → PartPut 4 j rule₂ w₂ rule₃ w₃ → TestPuts rows n rule w rule₃ w₃
      or_put {j = j} r d (t, x, a) o u y =
          let i = or_is s t x h in
          let v = r i.1 i.5 in
          let b = asks-second (λ m. put_t i.1) (part_entries 4) d v (or_left t x a) in
          let e = or_is s u y h in
          puts-as e.6 (puts-both (λ m. put_t e.0) (λ m. last_tested 4 (put_t e.1)) refl (q e.0 e.4)
          (puts-both (λ m. put_t e.1) (part_entries 4) d (r e.1 e.5)
          (part-puts 4 j (omega arith, omega arith, inr (omega (arith, v.more))) b o)))

  -- <PATH>: "true", and the path's steps from last to first
  module _ (h : OfStep p.form) where
    -- There is room for "true", so it is put;
    pub path-first : {rule₁ : List ℕ} {w₁ : Written} → TestAsks rows n rule w → PartPut 1 0 rule w rule₁ w₁
        → Puts (part_entries 1 0) rule w rule₁ w₁
    path-first (t, x, a) q =
        let i = path-is s t x h in
        let b = asks-first (λ k. part_entries 1 0) (λ k. put_p i.0) refl (λ k. path-grows i.0) (asks-as i.2 a) in
        part-puts 1 0 (omega arith, omega arith, inl (omega arith)) b q

    module _ {rule₁ : List ℕ} {w₁ : Written} (q : Puts (part_entries 1 0) rule w rule₁ w₁) (l : n ≤ entries_most) where
      -- then there is for the steps,
      pub path-second : TestAsks rows n rule w → StepsAsk rows n rule₁ w₁
      unfolding HeldSteps put_steps
      path-second (t, x, a) =
          let i = path-is s t x h in
          let b = asks-second (λ k. part_entries 1 0) (λ k. put_p i.0) refl q (asks-as i.2 a) in
          (turned i.0 [], turned-held rows i.0 [] n 0 l i.1 refl, asks-as (λ es. sym (turned-puts i.0 [] es)) b)

      -- and once these are, the whole is put.
      pub path-put : {rule₂ : List ℕ} {w₂ : Written} → StepsPut rows n rule₁ w₁ rule₂ w₂ → TestPuts rows n rule w rule₂ w₂
      unfolding HeldSteps put_steps
      path-put r t x =
          let i = path-is s t x h in
          let b = r (turned i.0 []) (turned-held rows i.0 [] n 0 l i.1 refl) in
          puts-as i.2 (puts-both (λ k. part_entries 1 0) (λ k. put_p i.0) refl q (puts-as (λ es. sym (turned-puts i.0 [] es)) b))

  -- ---- a step

  -- AXIS and AXIS*: there is room for the step's own entries, so once they are put, the step is.
  pub plain-put : {rule₁ : List ℕ} {w₁ : Written} {j : ℕ} → 6 ≤ p.form → p.form < 14 → 1 ≤ w.entries → j ≡ last_in w → StepAsks rows n rule w
      → PartPut p.form j rule w rule₁ w₁ → StepPuts rows n rule w rule₁ w₁
  plain-put {j = j} l m o d (st, b, x, a) q st' b' x' =
      let c = asks-last (part_entries p.form) d (asks-as (plain-is s st b x l m) a) in
      puts-as (plain-is s st' b' x' l m)
      (puts-last (part_entries p.form) d (part-puts p.form j (omega (arith, l), omega (arith, m), inr o) c q))

  -- ?TEST and (AXIS?TEST)*: the test, which stands below, and the step's own entries
  module _ (k : 6 ≤ p.form → 14 ≤ p.form) where
    -- There is room for the test,
    pub tested-first : StepAsks rows n rule w → (p.first < n) × TestAsks rows p.first rule w
    tested-first (st, b, x, a) =
        let i = tested-is s st b x k in
        let c = asks-first (λ j. put_t i.0) (part_entries p.form) refl (part-grows p.form) (asks-as i.5 a) in
        (i.1, (i.0, i.2, c))

    -- and once it is put, for the step's own entries, so once these are, the step is put.
    pub tested-put : {rule₁ rule₂ : List ℕ} {w₁ w₂ : Written} {j : ℕ} → TestPuts rows p.first rule w rule₁ w₁ → j ≡ last_in w
        → StepAsks rows n rule w → PartPut p.form j rule₁ w₁ rule₂ w₂ → StepPuts rows n rule w rule₂ w₂
    tested-put {j = j} q d (st, b, x, a) r st' b' x' =
        let i = tested-is s st b x k in
        let v = q i.0 i.2 in
        let c = asks-second (λ j. put_t i.0) (part_entries p.form) d v (asks-as i.5 a) in
        let m = tested-is s st' b' x' k in
        puts-as m.5 (puts-both (λ j. put_t m.0) (part_entries p.form) d (q m.0 m.2)
        (part-puts p.form j (omega (arith, i.3), i.4, inr (omega (arith, v.more))) c r))

-- ---- a step and those before it

-- There is room for the step,
pub steps_first : (rows : List Row) (n : ℕ) {rule : List ℕ} {w : Written} → 1 ≤ n → StepsAsk rows n rule w → (n ≤ entries_most) × StepAsks rows n rule w
steps_first rows n l (sts, x, a) =
    let i = steps-is rows sts n l x in
    let b = asks-first (λ k. put_s i.0) (λ k. put_steps i.2) refl (λ k. steps-grow i.2) (asks-as i.6 a) in
    (i.3, (i.0, i.1, i.4, b))

module _ {rows : List Row} {n : ℕ} {p : Row} (s : Says rows n p) (l : 1 ≤ n)
    {rule rule₁ : List ℕ} {w w₁ : Written} (q : StepPuts rows n rule w rule₁ w₁) where
  -- once it is put, for those before it: it put an entry, and none past 64,
  steps-second : StepsAsk rows n rule w → (w.entries < w₁.entries) × (w₁.entries ≤ entries_most) × (p.second ≤ entries_most) × StepsAsk rows p.second rule₁ w₁
  steps-second (sts, x, a) =
      let i = steps-is rows sts n l x in
      let v = q i.0 i.1 i.4 in
      let b = asks-second (λ k. put_s i.0) (λ k. put_steps i.2) refl v (asks-as i.6 a) in
      rw (before-is s i.0 i.1 i.4) (v.more, asks-few (steps-grow i.2) b, steps-row rows i.2 i.1 i.5, (i.2, i.5, b))

  -- and where there is none, it is all;
  steps-last : p.second ≡ 0 → StepsPut rows n rule w rule₁ w₁
  steps-last h sts x =
      let i = steps-is rows sts n l x in
      let e = before-is s i.0 i.1 i.4 in
      puts-as (λ es. i.6 es ∙ none_before rows i.2 i.1 (sym e ∙ h) i.5 (put_s i.0 es)) (q i.0 i.1 i.4)

  -- else all are put once those before it are.
  steps-puts : {rule₂ : List ℕ} {w₂ : Written} → StepsPut rows p.second rule₁ w₁ rule₂ w₂ → StepsPut rows n rule w rule₂ w₂
  steps-puts r sts x =
      let i = steps-is rows sts n l x in
      let u = rw (before-is s i.0 i.1 i.4) at r in
      puts-as i.6 (puts-both (λ k. put_s i.0) (λ k. put_steps i.2) refl (q i.0 i.1 i.4) (u i.2 i.5))

-- ---- a path's steps, one after the other

-- From row n on, steps have been put; the next is in row `row`. There is room for it and those before it, and once they are put, all are.
pub record Along (rows : List Row) (n : ℕ) (rule : List ℕ) (w : Written) (row : ℕ) (rule₁ : List ℕ) (w₁ : Written) : Type 0 where
  pub some : 1 ≤ row
  pub begun : 1 ≤ w₁.entries
  pub as_long : length rule₁ ≡ length rule
  pub less_to_do : todo w₁.entries row ≤ todo w.entries n
  pub asks : StepsAsk rows row rule₁ w₁
  pub whole : (rule₂ : List ℕ) (w₂ : Written) → StepsPut rows row rule₁ w₁ rule₂ w₂ → StepsPut rows n rule w rule₂ w₂

pub along-none : (rows : List Row) (n : ℕ) (rule : List ℕ) (w : Written) → 1 ≤ n → 1 ≤ w.entries → StepsAsk rows n rule w → Along rows n rule w n rule w
along-none rows n rule w l m a =
    record { some = l; begun = m; as_long = refl; less_to_do = omega arith; asks = a; whole = λ rule₂ w₂ r. r }

module _ {rows : List Row} {n row : ℕ} {rule rule₁ rule₂ : List ℕ} {w w₁ w₂ : Written} (a : Along rows n rule w row rule₁ w₁)
    {p : Row} (s : Says rows row p) (q : StepPuts rows row rule₁ w₁ rule₂ w₂) where
  -- The first step of the path is put: all are.
  pub along-last : p.second ≡ 0 → StepsPut rows n rule w rule₂ w₂
  along-last h = a.whole rule₂ w₂ (steps-last s a.some q h)

  module _ (h : p.second ≡ 0 → ⊥) where
    -- Another was put, so there is less to do,
    pub along-less : todo w₂.entries p.second < todo w₁.entries row
    along-less = let (i, j, k, x) = steps-second s a.some q a.asks in omega (arith, i, j, k, a.some)

    -- and one step more is put.
    pub along-more : length rule₂ ≡ length rule₁ → Along rows n rule w p.second rule₂ w₂
    along-more e =
        let (i, j, k, x) = steps-second s a.some q a.asks in
        record {
          some = omega (arith, h);
          begun = omega (arith, i);
          as_long = e ∙ a.as_long;
          less_to_do = omega (arith, along-less, a.less_to_do);
          asks = x;
          whole = λ rule₃ w₃ r. a.whole rule₃ w₃ (steps-puts s a.some q r);
        }
