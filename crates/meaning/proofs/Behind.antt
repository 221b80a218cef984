-- A table of entries that grows: entries put behind it change nothing in what the entries before mean. Assumes nothing.
use Prim.Native.Nat.{ℕ, zero, suc, ◌≤◌, ◌<◌}
use native.Mathlib.Nat.{not-suc-le-zero, le_of_suc-le-suc, eq-or-lt_of_le}
use native.Mathlib.Omega.{arith}
use mathlib.Core.Path.{◌≡◌, refl, sym, ap}
use mathlib.Core.List.{List, ◌++◌}
use mathlib.Core.Logic.{⊎_elim}
use borrow.Author.Tests.{ne_eqb}
use lib.ListN.{length, get_or, get_or-append}
use Rattle.entry.specs.declared.entry.Entry.{Entry}
use Rattle.grammar.specs.Rules.{no_entry}
use Rattle.meaning.specs.Meaning.{Below, Holds}

module _ (levels labels : List ℕ) where
  -- What is known below k is what holds.
  pub below_holds : (es : List Entry) (k i : ℕ) → i < k → Below levels labels es k i ≡ Holds levels labels es i
  unfolding Holds Below
  below_holds es zero i l = absurd (not-suc-le-zero l)
  below_holds es (suc k) i l =
      ⊎_elim (λ e. ap (λ (j : ℕ). Below levels labels es (suc j) i) (sym e))
      (λ m. rw (ne_eqb i k (λ e. omega arith), Below) (below_holds es k i m))
      (eq-or-lt_of_le (le_of_suc-le-suc l))

  -- Entries put behind a table do not change what is known below k.
  pub below-kept : (es fs : List Entry) (k i : ℕ) → k ≤ length es → Below levels labels (es ++ fs) k i ≡ Below levels labels es k i
  unfolding Below
  below-kept es fs zero i l = refl
  below-kept es fs (suc k) i l =
      let m : k ≤ length es = omega arith in
      let e = get_or es k no_entry in
      rw (get_or-append es fs no_entry k l, below-kept es fs k i m, below-kept es fs k e.a m, below-kept es fs k e.b m)

  -- Entries put behind a table do not change what an entry means.
  pub holds_kept : (es fs : List Entry) (i : ℕ) → i < length es → Holds levels labels (es ++ fs) i ≡ Holds levels labels es i
  unfolding Holds
  holds_kept es fs i l = below-kept es fs (suc i) i l
