-- The bytes after a tag that is taken are the state of the step table after it, pass the test again, and are bytes.
-- Assumes nothing.
use Prim.Native.Nat.{ℕ, pred, ◌^◌, ◌≤◌, ◌<◌}
use native.Mathlib.Nat.{lt_of_lt_of_le}
use native.Mathlib.Numerals.{add-one}
use native.Mathlib.Omega.{arith}
use mathlib.Core.Path.{◌≡◌, refl, sym, ◌∙◌}
use mathlib.Core.Bool.{true}
use mathlib.Core.List.{List}
use lib.ListN.{length, get_or}
use lib.Pow.{pow_mono}
use Rattle.entry.specs.declared.entry.Entry.{Entry}
use Rattle.terms.specs.Limits.{elements_most, levels_most}
use Rattle.tag.specs.Tags.{Tag, opens, closes}
use Rattle.numbers.specs.Bytes.{Bytes, word_at}
use Rattle.meaning.specs.OnePass.{State, fault, opened_word, opened, closed, after}
use Rattle.meaning.proofs.StepTable.{step_small}
use Rattle.fields.proofs.FieldLaws.{with-bit-listed, cleared-listed, root_below, root_told, root-shut}
use Rattle.state.specs.Layout.{count_in, place_from, width_in}
use Rattle.state.specs.State.{depth_in, elements_in, root_in, presence_in, open_place, layout, state_of, Good}
use Rattle.state.specs.Stores.{opening_run, opened_bytes, closing_run, closed_bytes, bytes_after}
use Rattle.state.proofs.NumberLaws.{opens-room, closes-room}
use Rattle.numbers.proofs.Lists.{listed_at, listed-put}
use Rattle.state.proofs.RunLaws.{last_stored, Fits, run_length, run-bytes}
use Rattle.state.proofs.StateLaws.{state-same, run-number, run-state, opening-fits, closing-fits}
use Rattle.numbers.specs.Bits.{word_bits}

word_room : (es : List Entry) (st : State) (l : ℕ) → length es ≤ levels_most → opened_word es st l < 2 ^ word_bits
unfolding opened_word
word_room es st l h = lt_of_lt_of_le (step_small es l _ _ (length es)) (pow_mono h)

-- The two bytes that are zero stay so where the number that they are does.
spare-kept : (s after : List ℕ) → word_at 2 after 6 ≡ word_at 2 s 6 → (get_or s 6 0 ≡ 0) × (get_or s 7 0 ≡ 0) → (get_or after 6 0 ≡ 0) × (get_or after 7 0 ≡ 0)
unfolding word_at
spare-kept s after e z = (omega (arith, e, z.0, z.1), omega (arith, e, z.0, z.1))

module _ (es : List Entry) (s : List ℕ) (few : length es ≤ levels_most) (good : Good s) (bytes : Bytes s) where
  -- An opening that is taken: a level and an element are left, the root is open, and the word fits.
  module _ (l : ℕ) (z : fault (state_of s) (opens l) ≡ 0) where
    abbrev w : ℕ
    w = opened_word es (state_of s) l

    room : (depth_in s < levels_most) × (elements_in s < elements_most) × (root_in s ≡ 1 → ⊥)
    room = opens-room s l z

    opening-fit : Fits layout (opening_run (depth_in s) (elements_in s) w (presence_in s))
    opening-fit = opening-fits (depth_in s) s bytes room.0 (elements_in s) w room.1 (word_room es (state_of s) l few)

    -- The bytes after an opening that is taken are the opened state.
    opened-state : state_of (bytes_after es s (opens l)) ≡ opened es (state_of s) l
    unfolding state_of opened bytes_after opened_bytes last_stored
    opened-state =
        run-state _ s good.long opening-fit
        ∙ state-same (add-one _) (add-one _) refl (cleared-listed (depth_in s) (presence_in s)) (listed-put levels_most _ (depth_in s) w room.0) refl

    -- They pass the test again.
    opened-good : Good (bytes_after es s (opens l))
    unfolding bytes_after opened_bytes count_in width_in place_from last_stored
    opened-good =
        let at = run-number _ s good.long opening-fit in
        let d = at 0 0 (omega arith) in
        let e = at 1 0 (omega arith) in
        let f = at 2 0 (omega arith) in
        record {
          long = run_length layout _ s ∙ good.long;
          fair =
              record {
                shallow = omega (arith, d, room.0);
                within = omega (arith, d, e, good.fair.within);
                few = omega (arith, e, room.1);
                flag = omega (arith, f, good.fair.flag);
                shut = λ q. absurd (room.2 (sym f ∙ q));
                spare = spare-kept s _ (at 3 0 (omega arith)) good.fair.spare;
              };
        }

  -- A closing that is taken: an element is open, so that a depth below 64 is left.
  module _ (z : fault (state_of s) closes ≡ 0) where
    some-open : 0 < depth_in s
    some-open = closes-room s z

    below : pred (depth_in s) < levels_most
    below = omega (arith, some-open, good.fair.shallow)

    closing-fit : Fits layout (closing_run (pred (depth_in s)) (word_at 8 s (open_place (pred (depth_in s)))) (presence_in s) (root_in s))
    closing-fit = closing-fits (pred (depth_in s)) s bytes below

    -- The bytes after a closing that is taken are the closed state.
    closed-state : state_of (bytes_after es s closes) ≡ closed (state_of s)
    unfolding state_of closed bytes_after closed_bytes last_stored
    closed-state =
        let d = pred (depth_in s) in
        run-state _ s good.long closing-fit
        ∙ state-same refl refl (root_told d (root_in s)) (with-bit-listed d (presence_in s) true below) refl
        (rw (listed_at levels_most (λ i. word_at 8 s (open_place i)) d 0 below) (listed-put levels_most _ d _ below))

    -- They pass the test again.
    closed-good : Good (bytes_after es s closes)
    unfolding bytes_after closed_bytes count_in width_in place_from last_stored
    closed-good =
        let k = pred (depth_in s) in
        let at = run-number _ s good.long closing-fit in
        let d : depth_in (bytes_after es s closes) ≡ k = at 0 0 (omega arith) in
        let e : elements_in (bytes_after es s closes) ≡ elements_in s = at 1 0 (omega arith) in
        let f = at 2 0 (omega arith) in
        record {
          long = run_length layout _ s ∙ good.long;
          fair =
              record {
                shallow = omega (arith, d, below);
                within = omega (arith, d, e, good.fair.within);
                few = omega (arith, e, good.fair.few);
                flag = omega (arith, f, root_below 2 k (root_in s) (omega arith) (omega (arith, good.fair.flag)));
                shut = λ q. rw d (root-shut k (root_in s) (λ x. omega (arith, some-open, good.fair.shut x)) (sym f ∙ q));
                spare = spare-kept s _ (at 3 0 (omega arith)) good.fair.spare;
              };
        }

  -- So the bytes after a tag that is taken are the state after it,
  pub written-state : (t : Tag) → fault (state_of s) t ≡ 0 → state_of (bytes_after es s t) ≡ after es (state_of s) t
  unfolding after
  written-state (opens l) z = opened-state l z
  written-state closes z = closed-state z

  -- pass the test again,
  pub written-good : (t : Tag) → fault (state_of s) t ≡ 0 → Good (bytes_after es s t)
  written-good (opens l) z = opened-good l z
  written-good closes z = closed-good z

  -- and are bytes again.
  pub written-bytes : (t : Tag) → Bytes (bytes_after es s t)
  unfolding bytes_after opened_bytes closed_bytes
  written-bytes (opens l) = run-bytes layout _ s bytes
  written-bytes closes = run-bytes layout _ s bytes
