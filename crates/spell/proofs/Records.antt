-- The bytes of one record, put number by number. Assumes nothing.
use Prim.Native.Nat.{ℕ, zero, suc, ◌+◌, ◌%◌, ◌/◌, ◌≤◌}
use native.Mathlib.Omega.{arith}
use native.Mathlib.Nat.{add-zero}
use mathlib.Core.Path.{◌≡◌, sym, ap}
use mathlib.Core.List.{List, [], ◌∷◌, ◌++◌}
use borrow.Author.Tests.{le-leb}
use lib.ListN.{length, set}
use Rattle.terms.specs.Kinds.{row_of}
use Rattle.terms.proofs.Rows.{row-measured}
use Rattle.numbers.specs.Bytes.{two_bytes}
use Rattle.grammar.specs.Rules.{body_of, record_of}
use Rattle.text.specs.Rendered.{Put}
use Rattle.text.proofs.PutLaws.{put-none, put_one, put_then, put_as}
use Rattle.paths.specs.Translation.{entry}
use Rattle.spell.specs.Promises.{numbers, RoomFor, Spelt}
use Rattle.spell.proofs.Adding.{one-bytes}

-- ---- numbers

-- The two bytes of a number, stored.
pub number-puts : (x : ℕ) (rule : List ℕ) (at low high : ℕ) → low ≡ x % 256 → high ≡ x / 256
    → Put (two_bytes x) rule at (at + 2) (set (set rule at low) (at + 1) high)
unfolding two_bytes
number-puts x rule at low high l h =
    let e : at + 1 + 1 ≡ at + 2 = omega arith in rw (sym e, ← l, ← h) (put_then (put_one low rule at) (put_one high (set rule at low) (at + 1)))

-- A body has no number,
body-none : (k a b : ℕ) → k ≡ 0 → numbers k a b ≡ []
unfolding body_of
body-none k a b e = rw e

-- one,
body-one : (k a b : ℕ) → k ≡ 1 → numbers k a b ≡ two_bytes a
unfolding body_of two_bytes
body-one k a b e = rw e

-- or two.
body-two : (k a b : ℕ) → (k ≡ 0 → ⊥) → (k ≡ 1 → ⊥) → numbers k a b ≡ two_bytes a ++ two_bytes b
unfolding body_of
body-two k a b h i = rw (le-leb 1 k (omega (arith, h)), le-leb 2 k (omega (arith, h, i)))

-- Where it has one, two bytes are its own;
pub body-first : (k a b : ℕ) → (k ≡ 0 → ⊥) → 2 ≤ length (numbers k a b)
unfolding body_of two_bytes
body-first k a b h = rw (le-leb 1 k (omega (arith, h))) (omega arith)

-- where it has two, four.
pub body-both : (k a b : ℕ) → (k ≡ 0 → ⊥) → (k ≡ 1 → ⊥) → length (numbers k a b) ≡ 4
unfolding two_bytes
body-both k a b h i = ap length (body-two k a b h i)

-- A number that was put ends two bytes on.
pub number-next : (x : ℕ) {rule after : List ℕ} {at r : ℕ} → Put (two_bytes x) rule at r after → r ≡ at + 2
unfolding two_bytes
number-next x p = p.next_is

-- Each number that a body has, put behind the one before it, is the body.
module _ (k a b : ℕ) {rule : List ℕ} {at : ℕ} where
  pub puts_none : k ≡ 0 → Put (numbers k a b) rule at at rule
  puts_none e = put_as (sym (body-none k a b e)) (rw add-zero at (put-none rule at))

  pub puts_one : {r : ℕ} {after : List ℕ} → k ≡ 1 → Put (two_bytes a) rule at r after → Put (numbers k a b) rule at r after
  puts_one e p = put_as (sym (body-one k a b e)) p

  pub puts-two : {r s : ℕ} {mid after : List ℕ} → (k ≡ 0 → ⊥) → (k ≡ 1 → ⊥) → Put (two_bytes a) rule at r mid → Put (two_bytes b) mid r s after
      → Put (numbers k a b) rule at s after
  puts-two h i p q = put_as (sym (body-two k a b h i)) (put_then p q)

-- ---- one record

-- A record has two bytes for its length, two for its kind, and its body.
record-length : (kind a b : ℕ) → length (record_of (entry kind a b)) ≡ 4 + length (numbers (row_of kind).arguments a b)
unfolding record_of two_bytes body_of
record-length kind a b = omega arith

-- Where there is room for a record, there are that many bytes.
pub record-room : (kind a b : ℕ) {rule : List ℕ} {at : ℕ} → RoomFor (entry kind a b ∷ []) rule at
    → at + (4 + length (numbers (row_of kind).arguments a b)) ≤ length rule
record-room kind a b k = omega (arith, k.enough, ap length (one-bytes (entry kind a b)), record-length kind a b)

-- Its length, its kind and its body, put one behind the other, are the record.
pub record-spelt : (kind a b : ℕ) {rule one two three : List ℕ} {at r s t : ℕ}
    → Put (two_bytes (row_of kind).length) rule at r one → Put (two_bytes kind) one r s two
    → Put (numbers (row_of kind).arguments a b) two s t three → Spelt (entry kind a b ∷ []) rule at t three
unfolding record_of body_of
record-spelt kind a b p q u = record { bytes_are = put_as (sym (one-bytes (entry kind a b))) (put_then p (put_then q u)) }

-- No kind's length is more than 6.
pub length-small : (kind : ℕ) → (row_of kind).length ≤ 6
length-small kind = go (row_of kind).length (λ h. let m = row-measured kind h in omega (arith, m.long, m.few)) where
  go : (n : ℕ) → ((n ≡ 0 → ⊥) → n ≤ 6) → n ≤ 6
  go zero h = omega arith
  go (suc n) h = h (λ e. omega (arith, e))
