-- When a tag is taken, what it may read and write then, and what each return of the code promises. Assumes nothing.
use Prim.Native.Nat.{ℕ, pred, ◌-◌, ◌≤◌, ◌<◌}
use native.Mathlib.Omega.{arith}
use borrow.Author.Tests.{ne_eqb, eqb-false, lt-ltb, le-ltb}
use mathlib.Core.Path.{◌≡◌, refl, ap, subst, ◌∙◌}
use mathlib.Core.Bool.{Bool, true, false, cond, ◌||◌}
use mathlib.Core.List.{List}
use lib.Dec.{leb, eqb}
use lib.ListN.{length, replicate}
use Rattle.entry.specs.declared.entry.Entry.{Entry}
use Rattle.terms.specs.Limits.{elements_most, levels_most, outside}
use Rattle.tag.specs.Tags.{Tag, opens, closes, tag_fault}
use Rattle.tag.proofs.RecordLaws.{open-sound, close-sound}
use Rattle.meaning.specs.OnePass.{fresh, fault, step_word, opened_word}
use Rattle.state.specs.Promises.{readable, parent_in, sibling_in, WordsRead, start_number, state_number, StateStarted, StateOpened, StateClosed}
use Rattle.state.specs.Front.{bad_front, FrontRead, WordsFound}
use Rattle.fields.specs.Fields.{state_size, bad_size, present_word}
use Rattle.fields.proofs.FieldLaws.{size-iff, size-passed}
use Rattle.std.specs.Prelude.{Result, Ok, Err, Some}
use Rattle.terms.specs.Answer.{number_of_fault}
use Rattle.terms.specs.declared.refusal.Fault.{Fault}
use Rattle.terms.specs.declared.refusal.Fault.TheVariants.{StateBad}
use Rattle.state.specs.State.{depth_in, elements_in, root_in, presence_in, open_place, last_place, state_of, bad, Good}
use Rattle.state.specs.Stores.{start_after, opened_bytes, closed_bytes}
use Rattle.state.specs.declared.state.Words.{Words}
use Rattle.state.specs.declared.places.Front.{Front}
use Rattle.state.proofs.GoodLaws.{good-iff}
use Rattle.state.proofs.StateLaws.{parent-read, sibling-read, zeros-fresh, zeros-good, zeros-bytes}
use Rattle.numbers.specs.Bytes.{Bytes, word_at}
use Rattle.numbers.proofs.BitLaws.{pred-sub}

-- ---- when a tag is taken

module _ (s : List ℕ) (t : Tag) where
  -- Only where the state passes the test and the tag has no fault there.
  pub state-taken : state_number s t ≡ 0 → Good s × (◌≡◌ {A = ℕ} (fault (state_of s) t) 0)
  unfolding state_number
  state-taken z = go (bad s) refl z where
    go : (b : Bool) → bad s ≡ b → cond b 11 (fault (state_of s) t) ≡ 0 → Good s × (◌≡◌ {A = ℕ} (fault (state_of s) t) 0)
    go true q r = absurd (omega arith)
    go false q r = ((good-iff s).0 q, r)

  -- Where the state passes the test, the tag's fault is the number.
  pub state-number : Good s → state_number s t ≡ fault (state_of s) t
  unfolding state_number
  state-number g = rw ((good-iff s).1 g)

-- An opening that is taken finds the root open.
open-unshut : (d e l : ℕ) (c : Bool) → tag_fault d e c (opens l) ≡ 0 → c ≡ false
unfolding tag_fault
open-unshut d e l c z = go (outside l) c (leb levels_most d || leb elements_most e) z where
  go : (o q p : Bool) → ◌≡◌ {A = ℕ} (cond o 6 (cond q 7 (cond p 8 0))) 0 → q ≡ false
  go true q p r = absurd (omega arith)
  go false true p r = absurd (omega arith)
  go false false p r = refl

module _ (s : List ℕ) where
  -- An opening that is taken finds a level and an element left, and the root open.
  pub opens-room : (l : ℕ) → fault (state_of s) (opens l) ≡ 0 → (depth_in s < levels_most) × (elements_in s < elements_most) × (root_in s ≡ 1 → ⊥)
  unfolding state_of
  opens-room l z =
      let r = open-sound (depth_in s) (elements_in s) l _ z in
      (r.0, r.1, eqb-false (root_in s) 1 (open-unshut (depth_in s) (elements_in s) l _ z))

  -- A closing that is taken finds an element open.
  pub closes-room : fault (state_of s) closes ≡ 0 → 0 < depth_in s
  unfolding state_of
  closes-room z = close-sound (depth_in s) (elements_in s) _ z

  -- What an opening that is taken may read and write.
  pub opens-fine : (l : ℕ) → state_number s (opens l) ≡ 0 → (length s ≡ state_size) × (depth_in s < levels_most) × (elements_in s < elements_most)
  opens-fine l z =
      let r = state-taken s (opens l) z in
      let q = opens-room l r.1 in
      (r.0.long, q.0, q.1)

  -- What a closing that is taken may.
  pub closes-fine : state_number s closes ≡ 0 → (length s ≡ state_size) × (0 < depth_in s) × (depth_in s ≤ levels_most)
  closes-fine z = let r = state-taken s closes z in (r.0.long, closes-room r.1, r.0.fair.shallow)

-- ---- the test, as the code has it

module _ (s : List ℕ) where
  -- A state of another size is bad: 11.
  pub number-other-size : (t : Tag) → (length s ≡ state_size → ⊥) → number_of_fault StateBad ≡ state_number s t
  unfolding state_number bad bad_size number_of_fault
  number-other-size t n = rw (ne_eqb (length s) state_size n)

  -- Of the right size it is bad by the numbers in front of its words alone.
  bad-front : length s ≡ state_size → bad s ≡ bad_front s
  unfolding bad
  bad-front long = rw ((size-iff (length s)).1 long)

  -- They are bad: 11.
  pub number-bad : (t : Tag) {f : Fault} → length s ≡ state_size → FrontRead s (Err f) → number_of_fault f ≡ state_number s t
  unfolding state_number number_of_fault
  number-bad t long h = rw (h.1, bad-front long, h.0)

  -- They are not: the number of the tag.
  number-fault : (t : Tag) (k : ℕ) → length s ≡ state_size → bad_front s ≡ false → k ≡ fault (state_of s) t → k ≡ state_number s t
  unfolding state_number
  number-fault t k long h e = rw (bad-front long, h) e

  pub number-opens : (l k : ℕ) {f : Front} → length s ≡ state_size → FrontRead s (Ok f)
      → k ≡ tag_fault f.depth f.elements (eqb f.root 1) (opens l) → k ≡ state_number s (opens l)
  unfolding state_of
  number-opens l k long h e = number-fault (opens l) k long h.0 (rw (← h.1, ← h.2, ← h.3) e)

  pub number-closes : (k : ℕ) {f : Front} → length s ≡ state_size → FrontRead s (Ok f) → k ≡ tag_fault f.depth 0 false closes → k ≡ state_number s closes
  unfolding state_of tag_fault
  number-closes k long h e = number-fault closes k long h.0 (rw (← h.1) e)

-- What was read of an equal state.
pub front-of : {s b : List ℕ} (r : Result Front Fault) → b ≡ s → FrontRead b r → FrontRead s r
front-of r e h = subst (λ (x : List ℕ). FrontRead x r) e h

-- ---- what is read

module _ (s : List ℕ) where
  -- Nothing of a state of another size, ..
  pub unread-size : (length s ≡ state_size → ⊥) → readable s ≡ false
  unfolding readable bad bad_size
  unread-size n = rw (ne_eqb (length s) state_size n)

  module _ (long : length s ≡ state_size) where
    -- .. of a bad one, ..
    pub unread-bad : {f : Fault} → FrontRead s (Err f) → readable s ≡ false
    unfolding readable
    unread-bad h = rw (bad-front s long, h.0)

    module _ {f : Front} (h : FrontRead s (Ok f)) where
      -- .. and where no level is left.
      pub unread-full : levels_most ≤ f.depth → readable s ≡ false
      unfolding readable
      unread-full l = rw (bad-front s long, h.0, le-ltb (depth_in s) levels_most (rw h.1 at l))

      -- Else both words.
      pub words-there : {p q : ℕ} → f.depth < levels_most → p ≡ cond (eqb f.depth 0) 0 (word_at 8 s (open_place (pred f.depth)))
          → q ≡ present_word (presence_in s) f.depth (word_at 8 s (last_place f.depth)) → WordsFound s (Some (record { parent = p; sibling = q }))
      unfolding readable
      words-there l p q = (rw (bad-front s long, h.0, lt-ltb (depth_in s) levels_most (rw h.1 at l)), rw h.1 at p, rw h.1 at q)

-- The word of an opening that is taken, from the words that were read.
pub opened-read : (es : List Entry) (s : List ℕ) (l : ℕ) (r : Words) → WordsRead s r → state_number s (opens l) ≡ 0
    → step_word es l r.parent r.sibling (length es) ≡ opened_word es (state_of s) l
unfolding opened_word readable
opened-read es s l r w z =
    let low = (opens-fine s l z).1 in
    let good = (good-iff s).1 (state-taken s (opens l) z).0 in
    let p : r.parent ≡ parent_in s = w.parent_is ∙ rw (good, lt-ltb (depth_in s) levels_most low) in
    let q : r.sibling ≡ sibling_in s = w.sibling_is ∙ rw (good, lt-ltb (depth_in s) levels_most low) in
    rw (parent-read es s (omega arith), sibling-read es s low, p, q)

-- ---- what is written

module _ (s : List ℕ) (b : Bool) (tested : b ≡ bad_size (length s)) where
  -- Start with another size.
  pub start-refused : b ≡ true → StateStarted s (number_of_fault StateBad) s
  unfolding start_number start_after number_of_fault
  start-refused e = record { number_is = rw (← tested, e); state_is = rw (← tested, e) }

  -- Start with 1,040 bytes.
  pub start-done : (after : List ℕ) → b ≡ false → after ≡ replicate (length s) 0 → StateStarted s 0 after
  unfolding start_number start_after
  start-done after e f =
      record {
        number_is = rw (← tested, e);
        state_is = rw (← tested, e) (f ∙ ap (λ (n : ℕ). replicate n 0) (size-passed (length s) b tested e));
      }

-- What start leaves, if it is not refused, is zeros: the fresh state, one that passes the test, and bytes.
module _ (s : List ℕ) (z : start_number s ≡ 0) where
  start-zeros : start_after s ≡ replicate state_size 0
  unfolding start_number start_after
  start-zeros = go (bad_size (length s)) z where
    go : (b : Bool) → ◌≡◌ {A = ℕ} (cond b 11 0) 0 → cond b s (replicate state_size 0) ≡ replicate state_size 0
    go true e = absurd (omega arith)
    go false e = refl

  pub start-fresh : state_of (start_after s) ≡ fresh
  start-fresh = rw start-zeros (zeros-fresh state_size)

  pub start-good : Good (start_after s)
  start-good = rw start-zeros zeros-good

  pub start-bytes : Bytes (start_after s)
  start-bytes = rw start-zeros (zeros-bytes state_size)

module _ (s : List ℕ) (k : ℕ) {after : List ℕ} where
  -- An opening that is refused: the number, and the bytes as they were.
  pub open-refused : (l w : ℕ) → k ≡ state_number s (opens l) → (k ≡ 0 → ⊥) → after ≡ s → StateOpened s l w k after
  open-refused l w e n a = record { number_is = e; state_is = rw (← e, ne_eqb k 0 n) a }

  -- One that is taken: what opening writes.
  pub open-taken : (l w : ℕ) {d e : ℕ} → k ≡ state_number s (opens l) → k ≡ 0 → d ≡ depth_in s → e ≡ elements_in s
      → after ≡ opened_bytes d e w s → StateOpened s l w k after
  open-taken l w n z dd ee aa = record { number_is = n; state_is = rw (← n, z, ← dd, ← ee) aa }

  -- A closing that is refused.
  pub close-refused : k ≡ state_number s closes → (k ≡ 0 → ⊥) → after ≡ s → StateClosed s k after
  close-refused e n a = record { number_is = e; state_is = rw (← e, ne_eqb k 0 n) a }

  -- One that is taken: what closing writes.
  pub close-taken : {d : ℕ} → k ≡ state_number s closes → k ≡ 0 → d ≡ depth_in s → after ≡ closed_bytes (d - 1) s → StateClosed s k after
  close-taken {d} n z dd aa = record { number_is = n; state_is = rw (← n, z, ← dd, ← pred-sub d) aa }
