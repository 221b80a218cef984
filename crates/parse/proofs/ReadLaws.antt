-- A whole text: laws of the returns, and that what is promised has one result only. Assumes nothing.
use Prim.Native.Nat.{ℕ, zero, suc, ◌≤◌, ◌<◌}
use native.Mathlib.Omega.{arith}
use mathlib.Core.Path.{◌≡◌, refl, sym, ap, ◌∙◌}
use mathlib.Core.Bool.{Bool, true, false, ◌||◌}
use mathlib.Core.List.{List, [], ◌∷◌, ◌++◌}
use borrow.Author.Tests.{eqb-true, eqb-false, ltb-true, ltb-false}
use lib.Arith.{lt_of_le-ne}
use lib.Dec.{eqb, ltb}
use lib.ListN.{length, take, drop, drop_of_length-le, length-drop, length-take, length-append}
use Rattle.parse.specs.declared.tree.Row.{Row}
use Rattle.terms.specs.Answer.{number_of, place_of, Refused}
use Rattle.grammar.specs.When.{Sized}
use Rattle.paths.specs.Syntax.{Test}
use Rattle.paths.specs.Spelling.{pieces_t, text_of, Text, StopsAt}
use Rattle.paths.specs.Answer.{TextOf, TextGets, bad-size, no_text, is-text, text_most}
use Rattle.paths.proofs.Machine.{test, run, next, stopped}
use Rattle.paths.proofs.Ahead.{spell-ahead}
use Rattle.paths.proofs.Count.{table-count, table-bytes}
use Rattle.paths.proofs.Unambiguous.{text-only}
use Rattle.paths.proofs.Answer.{gets-only}
use Rattle.paths.proofs.Place.{run-halts, halts-stops, text-iff}
use Rattle.parse.specs.declared.tree.Parsed.TheVariants.{Done, Bad}
use Rattle.std.specs.Prelude.{Result, Ok, Err, is_err}
use Rattle.words.specs.declared.words.Stray.{Stray}
use Rattle.words.specs.Words.{stray}
use Rattle.parse.specs.declared.tree.Counts.{Counts}
use Rattle.parse.specs.Rows.{no_rows}
use Rattle.parse.specs.Promises.{TestParsed, Read, TreeRead}

-- ---- reading from the first byte

over : (v : Bool) (l : List ℕ) → 0 < length l → run v [] l ≡ stopped l
unfolding run next
over v [] h = absurd (omega arith)
over v (b ∷ l) h = refl

-- Where the machine stops is the place, and the string is no text.
stops-here : (s : List ℕ) (p : ℕ) → p ≤ length s → run false (test ∷ []) s ≡ stopped (drop p s) → (Text s → ⊥) × StopsAt s p
stops-here s p l e =
    let (q, z, k) = halts-stops s (drop p s) (run-halts s false (test ∷ []) (drop p s) e) in
    let m : q ≡ p = same q z.within k in
    (λ x. let u = (text-iff s).1 x in let y : ◌≡◌ {A = ℕ} 0 1 = cc in omega arith, rw m at z) where
      same : (q : ℕ) → q ≤ length s → s ≡ take q s ++ drop p s → q ≡ p
      same q i k = omega (arith, ap length k, length-append (take q s) (drop p s), length-take q s, length-drop p s)

pub read-bad : (s : List ℕ) (rows : List Row) (p : ℕ) → TestParsed false s 0 0 rows (Bad p) rows → Read s rows (stray p) rows
read-bad s rows p (m, g) = stops-here s p m (g [])

module _ (s : List ℕ) (rows after : List Row) where
  pub read-over : (e n b : ℕ) (v : Bool) → TestParsed false s 0 0 rows (Done e v n b) after → (e ≡ length s → ⊥) → Read s rows (stray e) after
  read-over e n b v (f, g, t) h =
      stops-here s e f.within (g [] ∙ over v (drop e s) (omega (arith, length-drop e s, lt_of_le-ne f.within h)))

  pub read_whole : (e n b : ℕ) (v : Bool) → TestParsed false s 0 0 rows (Done e v n b) after → e ≡ length s → Read s rows (Ok (record { entries = n; bytes = b })) after
  unfolding text_of
  read_whole e n b v (f, g, t) h =
      let y : length s ≤ e = omega arith in
      let w : drop e s ≡ [] = drop_of_length-le s y in (
        t.tree,
        t.labels,
        t.reads ∙ rw (w, spell-ahead false (pieces_t t.tree [])),
        t.counts ∙ sym (table-count t.tree),
        t.weighs ∙ sym (table-bytes t.tree),
        t.noted,
      )

-- ---- the size first

or-false : (a b : Bool) → (a || b) ≡ false → (a ≡ false) × (b ≡ false)
or-false false b e = (refl, e)
or-false true b e = let z : ◌≡◌ {A = ℕ} 0 1 = cc in absurd (omega arith)

pub sized-so : (s : List ℕ) → (eqb (length s) 0 || ltb text_most (length s)) ≡ false → Sized text_most s
sized-so s e =
    let (a, b) = or-false _ _ e in
    record { some = go (length s) (eqb-false (length s) 0 a); few = ltb-false text_most (length s) b } where
      go : (n : ℕ) → (n ≡ 0 → ⊥) → 1 ≤ n
      go zero h = absurd (h refl)
      go (suc n) h = omega arith

not-sized : (s : List ℕ) → (eqb (length s) 0 || ltb text_most (length s)) ≡ true → Sized text_most s → ⊥
not-sized s e z = go (eqb (length s) 0) refl e where
  go : (a : Bool) → eqb (length s) 0 ≡ a → (a || ltb text_most (length s)) ≡ true → ⊥
  go true i e = omega (arith, eqb-true (length s) 0 i, z.some)
  go false i e = omega (arith, ltb-true text_most (length s) e, z.few)

pub tree-size : (s : List ℕ) → (eqb (length s) 0 || ltb text_most (length s)) ≡ true → TreeRead s (stray 0) no_rows
tree-size s e = (bad-size (not-sized s e), refl)

module _ (s : List ℕ) (z : Sized text_most s) (rows : List Row) where
  -- The rows stay where there is a tree, and are cleared where there is none.
  pub tree-text : (r : Result Counts Stray) → is_err r ≡ false → Read s no_rows r rows → TreeRead s r rows
  tree-text (Ok n) h (t, g, q, i, j, k) = (t, record { sized = z; labels = g; spelt = q }, i, j, k)
  tree-text (Err e) h x = absurd (cc)

  pub tree-stopped : (r : Result Counts Stray) → is_err r ≡ true → Read s no_rows r rows → TreeRead s r no_rows
  tree-stopped (Ok n) h x = absurd (cc)
  tree-stopped (Err e) h x = (no_text z x.0 x.1, refl)

-- ---- one result only

no_place : (s : List ℕ) (t : Test) (p : ℕ) → TextOf s t → TextGets s (Refused 13 p) [] → ⊥
no_place s t p x g = let z = ap number_of (gets-only s g (is-text x)).0 in omega arith

-- Any two results that meet the promise are equal: the outcome, and every number of the rows.
pub tree-only : (s : List ℕ) (o q : Result Counts Stray) (rows others : List Row) → TreeRead s o rows → TreeRead s q others → (o ≡ q) × (rows ≡ others)
tree-only s (Ok n) (Ok m) rows others (t, x, i, j, h) (u, y, k, l, g) =
    let same : t ≡ u = text-only t u (sym x.spelt ∙ y.spelt) in
    (rw (i, j, k, l, same), h ∙ rw (g, same))
tree-only s (Ok n) (Err q) rows others (t, x, i, j, h) (g, r) = absurd (no_place s t q.place x g)
tree-only s (Err p) (Ok m) rows others (g, r) (t, x, i, j, h) = absurd (no_place s t p.place x g)
tree-only s (Err p) (Err q) rows others (g, r) (f, k) =
    let same : p.place ≡ q.place = ap place_of (gets-only s g f).0 in (rw same, r ∙ sym k)
