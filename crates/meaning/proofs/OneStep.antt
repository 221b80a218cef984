-- What an engine may use instead of the whole tree: a mark, from marks of the entries before it. Every kind but until asks one step
-- at most by its row; until by one step: `until-is` of proofs/Tests.antt. Assumes nothing.
use Prim.Native.Nat.{ℕ, zero, suc, ◌≤◌, ◌<◌}
use native.Mathlib.Nat.{not-suc-le-zero, le_of_suc-le-suc, eq-or-lt_of_le}
use native.Mathlib.Omega.{arith}
use native.Mathlib.Decide.{dec_lt}
use mathlib.Core.Path.{◌≡◌, refl, ap, sym, ◌∙◌}
use mathlib.Core.Bool.{Bool}
use mathlib.Core.List.{List}
use mathlib.Core.Logic.{⊎_elim}
use borrow.Author.Tests.{eq-eqb, ne_eqb}
use lib.ListN.{length, get_or}
use Rattle.entry.specs.declared.entry.Entry.{Entry}
use Rattle.grammar.specs.Rules.{no_entry, RuleEntries}
use Rattle.grammar.proofs.Entries.{formed-kind, formed-a, formed-b}
use Rattle.terms.specs.Kinds.{row_of, shape_of}
use Rattle.meaning.specs.Marks.{means_here, means, below, mark}

module _ (levels labels : List ℕ) (entries : List Entry) where
  abbrev entry : ℕ → Entry
  entry i = get_or entries i no_entry

  -- What the kind of entry i means over marks of its a and b.
  abbrev pub means_over : ℕ → (a b : ℕ → Bool) → ℕ → Bool
  means_over i a b = means levels labels (shape_of (entry i).kind) (entry i).a a b

  -- What is known of the entries below k is their marks.
  below-mark : (k i : ℕ) → i < k → below levels labels entries k i ≡ mark levels labels entries i
  unfolding mark below
  below-mark zero i l = absurd (not-suc-le-zero l)
  below-mark (suc k) i l =
      ⊎_elim (λ e. ap (λ (j : ℕ). below levels labels entries (suc j) i) (sym e))
      (λ m. rw (ne_eqb i k (λ e. omega arith), below) (below-mark k i m))
      (eq-or-lt_of_le (le_of_suc-le-suc l))

  mark-below : (i : ℕ) → mark levels labels entries i
      ≡ means_over i (below levels labels entries i (entry i).a) (below levels labels entries i (entry i).b)
  unfolding mark below
  mark-below i = rw (eq-eqb i i refl, below)

  -- The mark of entry i is what its kind means over the marks of its a and b, where these are below i.
  mark-is : (i : ℕ) → (entry i).a < i → (entry i).b < i → mark levels labels entries i
      ≡ means_over i (mark levels labels entries (entry i).a) (mark levels labels entries (entry i).b)
  mark-is i la lb = rw (mark-below i, below-mark i (entry i).a, below-mark i (entry i).b)

  -- Kinds 1 and 2 ask nothing of a and b.
  pub plain : (k l : ℕ) (a b a' b' : ℕ → Bool) → 1 ≤ k → k < 3 → means levels labels (shape_of k) l a b ≡ means levels labels (shape_of k) l a' b'
  unfolding row_of means means_here
  plain zero l a b a' b' m n = absurd (omega arith)
  plain (suc zero) l a b a' b' m n = refl
  plain (suc (suc zero)) l a b a' b' m n = refl
  plain (suc (suc (suc k))) l a b a' b' m n = absurd (omega arith)

  -- So it is for every entry of a rule: kinds 1 and 2 ask nothing of a and b.
  pub mark-rule : RuleEntries entries → (i : ℕ) → i < length entries → mark levels labels entries i
      ≡ means_over i (mark levels labels entries (entry i).a) (mark levels labels entries (entry i).b)
  mark-rule rule i l =
      let w = rule.formed i l in
      elim (dec_lt (entry i).kind 3) [
        | yes m ↦ mark-below i ∙ plain (entry i).kind _ _ _ _ _ (formed-kind i (entry i) w).0 m
        | no m ↦ mark-is i (formed-a i (entry i) w (omega arith)) (formed-b i (entry i) w (omega arith))
      ]
