-- Records put one behind the other, in a buffer that has room for all of them; and what is written then. Assumes nothing.
use Prim.Native.Nat.{ℕ, ◌+◌}
use native.Mathlib.Omega.{arith}
use native.Mathlib.Nat.{add-zero}
use mathlib.Core.Path.{◌≡◌, sym, ap, ◌∙◌}
use mathlib.Core.List.{List, [], ◌∷◌, ◌++◌, append-nil}
use lib.ListN.{length, length-append}
use lib.Seq.{length-sets}
use Rattle.numbers.specs.Lists.{put_at}
use Rattle.entry.specs.declared.entry.Entry.{Entry}
use Rattle.grammar.specs.Rules.{record_of, rule_bytes}
use Rattle.text.specs.Rendered.{Put}
use Rattle.text.proofs.PutLaws.{put-none, put_then, put_as}
use Rattle.spell.specs.declared.own.Written.{Written}
use Rattle.spell.specs.declared.put.Writer.{Writer}
use Rattle.spell.specs.Promises.{written, RoomFor, Spelt, Adds}
use Rattle.spell.specs.Writing.{Spells}

-- ---- records

-- A list that is spelt like another has room where that has,
pub room_as : {es fs : List Entry} {rule : List ℕ} {at : ℕ} → rule_bytes es ≡ rule_bytes fs → RoomFor es rule at → RoomFor fs rule at
room_as e a = record { enough = omega (arith, a.enough, ap length e) }

-- and where the writer has put that, it has put the list.
pub spells-as : {es fs : List Entry} {w after : Writer} → rule_bytes es ≡ rule_bytes fs → Spells fs w after → Spells es w after
spells-as e p = record { spelt = record { bytes_are = put_as (sym e) p.spelt.bytes_are }; same_buffer = p.same_buffer }

-- A buffer that bytes are put into is as long as it was.
pub put-length : {bytes rule after : List ℕ} {at r : ℕ} → Put bytes rule at r after → length after ≡ length rule
unfolding put_at
put-length {bytes} {rule} {at = at} p = ap length p.bytes_are ∙ length-sets rule at bytes

-- The bytes of one entry are its record.
pub one-bytes : (e : Entry) → rule_bytes (e ∷ []) ≡ record_of e
unfolding rule_bytes
one-bytes e = append-nil (record_of e)

-- Those of more are the first one's and the others'.
more_bytes : (e : Entry) (es : List Entry) → rule_bytes (e ∷ es) ≡ rule_bytes (e ∷ []) ++ rule_bytes es
unfolding rule_bytes
more_bytes e es = rw (one-bytes e)

more-length : (e : Entry) (es : List Entry) → length (rule_bytes (e ∷ es)) ≡ length (rule_bytes (e ∷ [])) + length (rule_bytes es)
more-length e es = ap length (more_bytes e es) ∙ length-append (rule_bytes (e ∷ [])) (rule_bytes es)

module _ {e : Entry} {es : List Entry} {rule : List ℕ} {at : ℕ} where
  -- Where there is room for entries, there is for the first;
  pub room-first : RoomFor (e ∷ es) rule at → RoomFor (e ∷ []) rule at
  room-first a = record { enough = omega (arith, a.enough, more-length e es) }

  module _ {rule₁ : List ℕ} {r : ℕ} (p : Spelt (e ∷ []) rule at r rule₁) where
    -- once it is put, for the others;
    pub room_next : RoomFor (e ∷ es) rule at → RoomFor es rule₁ r
    room_next a = record { enough = omega (arith, a.enough, more-length e es, p.bytes_are.next_is, put-length p.bytes_are) }

    -- and once these are, all are put.
    pub spelt-next : {rule₂ : List ℕ} {s : ℕ} → Spelt es rule₁ r s rule₂ → Spelt (e ∷ es) rule at s rule₂
    spelt-next q = record { bytes_are = put_as (sym (more_bytes e es)) (put_then p.bytes_are q.bytes_are) }

-- ---- what is written

-- No entry is put.
pub adds_none : (rule : List ℕ) (w : Written) → Adds [] rule w rule w
unfolding rule_bytes
adds_none rule w = record { count_is = sym (add-zero w.entries); spelt = record { bytes_are = rw add-zero at (put-none rule w.bytes) } }

-- What is promised of entries determines what is written and every byte of the buffer.
pub adds-only : {es : List Entry} {rule rule₁ rule₂ : List ℕ} {w w₁ w₂ : Written}
    → Adds es rule w rule₁ w₁ → Adds es rule w rule₂ w₂ → (w₁ ≡ w₂) × (rule₁ ≡ rule₂)
adds-only {w₁ = w₁} {w₂ = w₂} p q =
    let entries = p.count_is ∙ sym q.count_is in
    let bytes = p.spelt.bytes_are.next_is ∙ sym q.spelt.bytes_are.next_is in
    (same w₁ w₂ entries bytes, p.spelt.bytes_are.bytes_are ∙ sym q.spelt.bytes_are.bytes_are) where
      same : (u v : Written) → u.entries ≡ v.entries → u.bytes ≡ v.bytes
          → written u.entries u.bytes ≡ written v.entries v.bytes
      same u v i j = rw (i, j)
