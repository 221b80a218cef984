-- Typed rules and the tally follow their tables; and a typed rule means what its text means. Assumes nothing.
use Prim.Native.Nat.{ℕ, ◌+◌, ◌≤◌}
use native.Mathlib.Omega.{arith}
use mathlib.Core.Path.{◌≡◌, refl, sym, ◌∙◌}
use mathlib.Core.Bool.{Bool, true, false, cond}
use mathlib.Core.List.{List}
use mathlib.Core.Logic.{◌⊎◌, inl, inr}
use lib.ListN.{length, take, drop}
use lib.Seq.{take-append_seam, drop-append_seam}
use Rattle.numbers.proofs.Lists.{over-is}
use Rattle.numbers.proofs.Tells.{IsTest, holds, fails, or-tests, not-tests, eqb-tests}
use Rattle.terms.specs.Limits.{entries_most}
use Rattle.terms.specs.Answer.{Refused}
use Rattle.entry.specs.declared.entry.Entry.{Entry}
use Rattle.meaning.specs.Rose.{labels_t, levels_t}
use Rattle.tally.specs.Tally.{Full, Balanced, tally_refused, risen}
use Rattle.tally.specs.declared.export.Tally.{Tally}
use Rattle.tally.proofs.Laws.{refused-not, risen-balanced}
use Rattle.paths.specs.Syntax.{Test}
use Rattle.paths.specs.Translation.{table_of}
use Rattle.paths.specs.Answer.{TextOf, TextGets, bad-size, no_text, bytes_for}
use Rattle.paths.proofs.Agrees.{table-selects}
use Rattle.paths.proofs.BackOnly.{table-back}
use Rattle.paths.proofs.Rule.{table_rule}
use Rattle.paths.proofs.Unambiguous.{text-only}
use Rattle.typing.specs.Typed.{Typed}
use Rattle.typing.specs.declared.export.PathReply.{PathReply}
use Rattle.typing.proofs.Answered.{by_row, zero-iff, nine-iff, fourteen-iff, thirteen-iff, refused-kept, place-zero, taken-bytes}
use Rattle.demands.specs.Demands.{Follows, TallyRow, row-12, CountVerdict, PathRow, row-13-size, row-13, row-14, row-9, ReadPath, TypedMeans}
use Rattle.demands.proofs.Follows.{one-row}

-- ---- the tally

refused-told : (t : Tally) → IsTest (Full t ⊎ (Balanced t → ⊥)) (tally_refused t)
unfolding tally_refused
refused-told t = or-tests (eqb-tests t.seen 4294967295) (not-tests (eqb-tests t.seen (t.selected + t.passed_over)))

tally-row : (t : Tally) (k p : ℕ) → TallyRow t k p → (Full t ⊎ (Balanced t → ⊥)) × (12 ≡ k) × (0 ≡ p)
tally-row t k p (row-12 h) = (h, refl, refl)

pub count_verdict : CountVerdict
count_verdict t after verdict number e =
    record {
      follows = rw e.number_is (one-row (TallyRow t) _ 12 (omega arith) (refused-told t) row-12 (tally-row t));
      kept = λ h. e.tally_is ∙ still (tally_refused t) (λ z. h (e.number_is ∙ z));
      counted = λ z. rises (tally_refused t) refl (sym e.number_is ∙ z);
    }
  where
    still : (b : Bool) → (◌≡◌ {A = ℕ} (cond b 12 0) 0 → ⊥) → cond b t (risen t verdict) ≡ t
    still true h = refl
    still false h = absurd (h refl)

    rises : (b : Bool) → tally_refused t ≡ b → ◌≡◌ {A = ℕ} (cond b 12 0) 0 → (after ≡ risen t verdict) × Balanced after
    rises true f z = absurd (omega arith)
    rises false f z =
        let up : after ≡ risen t verdict = e.tally_is ∙ rw f in (up, rw up (risen-balanced t verdict (refused-not t f).1))

-- ---- a typed rule

module _ (text rule after : List ℕ) (r : PathReply) (typed : Typed text rule r after) where
  -- Row by row: what the table says is what is answered.
  row-given : {k p : ℕ} → PathRow text (length rule) k p → (r.number ≡ 0 → ⊥) × (r.number ≡ k) × (r.place ≡ p)
  row-given (row-13-size h) = let (n, p) = (thirteen-iff text rule r after typed 0).1 (inl (h, refl)) in (λ z. omega (arith, n), n, p)
  row-given {p = q} (row-13 z h k) = let (n, p) = (thirteen-iff text rule r after typed q).1 (inr (z, h, k)) in (λ z. omega (arith, n), n, p)
  row-given (row-14 {t} y h) =
      let n = (fourteen-iff text rule r after typed).1 (t, y, h) in (λ z. omega (arith, n), n, place-zero text rule r after typed (λ e. omega (arith, n)))
  row-given (row-9 {t} y l h) =
      let n = (nine-iff text rule r after typed).1 (t, y, (l, h)) in (λ z. omega (arith, n), n, place-zero text rule r after typed (λ e. omega (arith, n)))

  row-there : (k p : ℕ) → r.number ≡ k → r.place ≡ p → (r.number ≡ 0 → ⊥) → PathRow text (length rule) k p
  row-there k p e f n =
      by_row text rule r after typed (λ q g. stops g) (λ t y h. put (row-14 y h)) (λ t y h. put (row-9 y h.0 h.1))
      (λ t y h. absurd (n ((zero-iff text rule r after typed).1 (t, y, h))))
    where
      put : {m q : ℕ} → PathRow text (length rule) m q → PathRow text (length rule) k p
      put {m} {q} row =
          let (u, v, w) = row-given row in
          let number : k ≡ m = sym e ∙ v in
          let place : p ≡ q = sym f ∙ w in rw (number, place) row

      stops : {q : ℕ} {es : List Entry} → TextGets text (Refused 13 q) es → PathRow text (length rule) k p
      stops (bad-size h) = put (row-13-size h)
      stops (no_text z h s) = put (row-13 z h s)

  -- 0 exactly where no row applies.
  path-follows : Follows (PathRow text (length rule)) r.number r.place
  path-follows =
      record {
        taken_iff = (λ z k p row. (row-given row).0 z, λ none. only (eqb-tests r.number 0) none);
        taken_place = λ z. place-zero text rule r after typed (λ e. omega arith);
        refused_iff = λ k p. (λ row. row-given row, λ h. row-there k p h.1 h.2 h.0);
      }
    where
      only : {b : Bool} → IsTest (r.number ≡ 0) b → ((k p : ℕ) → PathRow text (length rule) k p → ⊥) → r.number ≡ 0
      only (holds z) none = z
      only (fails n) none = absurd (none r.number r.place (row-there _ _ refl refl n))

-- The call has taken the text of tree t, and left its rule at the front of the buffer.
module _ (text lent after : List ℕ) (r : PathReply) (t : Test) (typed : Typed text lent r after) (zero : r.number ≡ 0) (spelt : TextOf text t) where
  -- The rule, as its caller finds it.
  abbrev rule : List ℕ
  rule = take r.written after

  -- It has few enough entries, and its bytes are those of the tree's table.
  few : length (table_of t) ≤ entries_most
  few =
      let (u, y, (l, m)) = (zero-iff text lent r after typed).0 zero in
      let same : u ≡ t = text-only u t (sym y.spelt ∙ spelt.spelt) in rw same at l

  rule-is : rule ≡ bytes_for t
  rule-is =
      let (u, y, (l, m)) = (zero-iff text lent r after typed).0 zero in
      let same : u ≡ t = text-only u t (sym y.spelt ∙ spelt.spelt) in
      let room : length (bytes_for t) ≤ length lent = rw same at m in
      let (count, front) = taken-bytes text lent r after typed spelt zero in
      rw (count, front, over-is (bytes_for t) lent room) (take-append_seam (bytes_for t) (drop (length (bytes_for t)) lent))

pub read_path : ReadPath
read_path text rule after r typed =
    record {
      follows = path-follows text rule after r typed;
      kept = λ h. (refused-kept text rule r after typed h).0;
      uncounted = λ h. (refused-kept text rule r after typed h).1;
      counted = λ t y z. (taken-bytes text rule r after typed y z).0;
      front = λ t y z.
          record {
            entries = table_rule t y.labels (few text rule after r t typed z y);
            bytes_are = rule-is text rule after r t typed z y;
          };
      behind = λ z. rest z ((zero-iff text rule r after typed).0 z);
    }
  where
    rest : r.number ≡ 0 → (t : Test) × TextOf text t × ((length (table_of t) ≤ entries_most) × (length (bytes_for t) ≤ length rule))
        → drop r.written after ≡ drop r.written rule
    rest z (t, y, (l, m)) =
        let (count, left) = taken-bytes text rule r after typed y z in
        rw (count, left, over-is (bytes_for t) rule m) (drop-append_seam (bytes_for t) (drop (length (bytes_for t)) rule))

pub typed_means : TypedMeans
typed_means text rule after r u typed z y = (λ t s. table-selects (levels_t t 0) (labels_t t) u s, table-back u)
