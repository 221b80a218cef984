-- One part: when it fits; what is put of it; and what that is to a caller who fills a buffer from its front. Assumes nothing.
use Prim.Native.Nat.{ℕ, ◌+◌, ◌-◌, ◌≤◌}
use native.Mathlib.Omega.{arith}
use mathlib.Core.Path.{◌≡◌, sym, ap, subst, ◌∙◌}
use mathlib.Core.Bool.{true, false, ◌||◌, ◌&&◌}
use mathlib.Core.List.{List}
use mathlib.Core.Logic.{◌⊎◌}
use lib.Dec.{leb}
use lib.ListN.{length, length-append}
use Rattle.numbers.proofs.Tells.{IsTest, true-iff, leb-tests, or-tests, and-tests}
use Rattle.grammar.specs.Rules.{rule_bytes}
use Rattle.grammar.proofs.Rules.{rule-append}
use Rattle.text.proofs.PutLaws.{put_then, put_as}
use Rattle.terms.specs.Limits.{entries_most}
use Rattle.spell.specs.declared.own.Written.{Written}
use Rattle.spell.specs.Forms.{own_entries, form_entries, form_bytes}
use Rattle.spell.specs.Promises.{written, RoomFor, Spelt, Adds, part_fits, added, PartPut}
use Rattle.spell.specs.Filled.{part_entries, Asks, Puts}
use Rattle.spell.proofs.FormLaws.{entries-few, bytes-few, Sized, own-sized}
use Rattle.spell.proofs.Adding.{adds_none}
use Rattle.spell.proofs.Changes.{Grows}

-- ---- when a part fits

-- It is a form; from "not" on an entry is written; and there are entries and bytes left.
abbrev pub Fits : (form size : ℕ) (w : Written) → Type 0
Fits form size w =
    ((((1 ≤ form) × (form ≤ 17)) × ((form ≤ 2) ⊎ (1 ≤ w.entries))) × (w.entries + form_entries form ≤ entries_most))
    × (form_bytes form ≤ size - w.bytes)

pub fits-tests : (form size : ℕ) (w : Written) → IsTest (Fits form size w) (part_fits form size w)
unfolding part_fits
fits-tests form size w =
    let known = and-tests (leb-tests 1 form) (leb-tests form 17) in
    let named = or-tests (leb-tests form 2) (leb-tests 1 w.entries) in
    and-tests (and-tests (and-tests known named) (leb-tests (w.entries + form_entries form) entries_most))
    (leb-tests (form_bytes form) (size - w.bytes))

-- The test as it is made: what the part comes to and what is left of the buffer are found first.
pub fits-is : (form size : ℕ) (w : Written) {own bytes left : ℕ} → own ≡ form_entries form → bytes ≡ form_bytes form → left ≡ size - w.bytes
    → ((((leb 1 form && leb form 17) && (leb form 2 || leb 1 w.entries)) && leb (w.entries + own) entries_most) && leb bytes left)
    ≡ part_fits form size w
unfolding part_fits
fits-is form size w o b l = rw (o, b, l)

module _ (form argument : ℕ) (rule : List ℕ) (w : Written) (e : part_fits form (length rule) w ≡ true) where
  -- Where the test passes, it is one of the table's forms,
  known : Sized argument w.entries form
  known = let x = (true-iff (fits-tests form (length rule) w)).0 e in own-sized argument w.entries form x.0.0.0.0 x.0.0.0.1

  -- there are entries left,
  pub fits-few : w.entries + form_entries form ≤ entries_most
  fits-few = ((true-iff (fits-tests form (length rule) w)).0 e).0.1

  -- and bytes,
  pub fits-room : RoomFor (own_entries form argument w.entries) rule w.bytes
  fits-room = record { enough = omega (arith, known.1, ((true-iff (fits-tests form (length rule) w)).0 e).1, (bytes-few form).0) }

  -- and the own entries are what is added;
  pub fits-adds : {rule₁ rule₂ : List ℕ} {own end entries bytes : ℕ} → own ≡ form_entries form
      → Spelt (own_entries form argument w.entries) rule w.bytes end rule₁ → rule₁ ≡ rule₂ → entries ≡ w.entries + own → bytes ≡ end
      → PartPut form argument rule w rule₂ (written entries bytes)
  unfolding added
  fits-adds o p r n b = rw e (record { count_is = omega (arith, n, o, known.0); spelt = rw (b, ← r) p })

-- where it fails, nothing is.
pub misfit-adds : (form argument : ℕ) (rule : List ℕ) (w : Written) → part_fits form (length rule) w ≡ false
    → PartPut form argument rule w rule w
unfolding added
misfit-adds form argument rule w e = rw e (adds_none rule w)

-- ---- for a caller

-- A part takes no entry away.
pub part-grows : (form argument : ℕ) → Grows (part_entries form argument)
unfolding part_entries
part-grows form argument =
    record {
      longer = λ es. omega (arith, length-append es (own_entries form argument (length es)));
      larger = λ es.
          let fs = own_entries form argument (length es) in
          omega (arith, ap length (rule-append es fs), length-append (rule_bytes es) (rule_bytes fs));
    }

-- A form whose own entries can be put behind so many: one of the table's, and from "not" on there is an entry.
abbrev pub Ready : (form entries : ℕ) → Type 0
Ready form entries = (1 ≤ form) × (form ≤ 17) × ((form ≤ 2) ⊎ (1 ≤ entries))

module _ (form argument : ℕ) {rule : List ℕ} {w : Written} (k : Ready form w.entries) (a : Asks (part_entries form argument) rule w) where
  -- Where a buffer has room for a part, the part fits,
  asked-fits : part_fits form (length rule) w ≡ true
  unfolding part_entries
  asked-fits =
      let fs = own_entries form argument (length a.es) in
      let (i, j) = own-sized argument (length a.es) form k.0 k.1 in
      let few : w.entries + form_entries form ≤ entries_most = omega (arith, a.few, a.filled.entries_are, length-append a.es fs, i) in
      let bytes = ap length (rule-append a.es fs) ∙ length-append (rule_bytes a.es) (rule_bytes fs) in
      let room : form_bytes form ≤ length rule - w.bytes = omega (arith, a.room, a.filled.bytes_are.next_is, bytes, j) in
      (true-iff (fits-tests form (length rule) w)).1 ((((k.0, k.1), k.2), few), room)

  -- and what is promised of it is that it is put.
  pub part-puts : {rule' : List ℕ} {w' : Written} → PartPut form argument rule w rule' w' → Puts (part_entries form argument) rule w rule' w'
  unfolding added part_entries
  part-puts {rule'} {w'} x =
      record {
        more = omega (arith, p.count_is, (own-sized argument w.entries form k.0 k.1).0, (entries-few form).0);
        fills = λ before es y.
            let fs = own_entries form argument (length es) in
            let q = subst (λ (n : ℕ). Adds (own_entries form argument n) rule w rule' w') y.entries_are p in
            record {
              entries_are = omega (arith, q.count_is, y.entries_are, length-append es fs);
              bytes_are = put_as (sym (rule-append es fs)) (put_then y.bytes_are q.spelt.bytes_are);
            };
      } where
        p : Adds (own_entries form argument w.entries) rule w rule' w'
        p = rw asked-fits at x
