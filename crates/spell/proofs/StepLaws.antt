-- The own entries of steps that have more than one, put one behind the other: there is room for each, and once the last is put, all are.
-- Assumes nothing.
use Prim.Native.Nat.{ℕ, pred, ◌+◌, ◌-◌}
use mathlib.Core.Path.{◌≡◌}
use mathlib.Core.List.{List, [], ◌∷◌}
use Rattle.paths.specs.Translation.{entry}
use Rattle.spell.specs.Forms.{star_entries, down_entries, beside_entries}
use Rattle.spell.specs.Promises.{RoomFor, Spelt}
use Rattle.spell.proofs.Adding.{room-first, room_next, spelt-next}

-- ---- AXIS*: two entries

module _ (form argument n : ℕ) {rule : List ℕ} {at : ℕ} where
  -- There is room for the first,
  pub star-first : RoomFor (star_entries form argument n) rule at → RoomFor (entry 1 0 0 ∷ []) rule at
  unfolding star_entries
  star-first a = room-first a

  module _ {rule₁ : List ℕ} {r : ℕ} (p : Spelt (entry 1 0 0 ∷ []) rule at r rule₁) where
    -- then for the second,
    pub star-second : RoomFor (star_entries form argument n) rule at → RoomFor (entry form n argument ∷ []) rule₁ r
    unfolding star_entries
    star-second a = room_next p a

    -- and both are put.
    pub star-puts : {rule₂ : List ℕ} {s : ℕ} → Spelt (entry form n argument ∷ []) rule₁ r s rule₂
        → Spelt (star_entries form argument n) rule at s rule₂
    unfolding star_entries
    star-puts q = spelt-next p q

-- ---- (AXIS?TEST)* along three axes: two entries

-- The number of the last entry is told.
module _ (form argument n : ℕ) {rule : List ℕ} {at i : ℕ} (e : i ≡ pred n) where
  -- There is room for the first,
  pub beside_first : RoomFor (beside_entries form argument n) rule at → RoomFor (entry (form - 8) i 0 ∷ []) rule at
  unfolding beside_entries
  beside_first a = rw e (room-first a)

  module _ {rule₁ : List ℕ} {r : ℕ} (p : Spelt (entry (form - 8) i 0 ∷ []) rule at r rule₁) where
    -- then for the second,
    pub beside-second : RoomFor (beside_entries form argument n) rule at → RoomFor (entry (form - 4) n argument ∷ []) rule₁ r
    unfolding beside_entries
    beside-second a = room_next (rw e at p) a

    -- and both are put.
    pub beside-puts : {rule₂ : List ℕ} {s : ℕ} → Spelt (entry (form - 4) n argument ∷ []) rule₁ r s rule₂
        → Spelt (beside_entries form argument n) rule at s rule₂
    unfolding beside_entries
    beside-puts q = spelt-next (rw e at p) q

-- ---- (child?TEST)*: four entries

module _ (argument n : ℕ) {rule : List ℕ} {at i : ℕ} (e : i ≡ pred n) (a : RoomFor (down_entries argument n) rule at) where
  -- There is room for all four,
  left : RoomFor (entry 5 argument i ∷ entry 10 i n ∷ entry 6 (n + 1) 0 ∷ entry 4 argument (n + 2) ∷ []) rule at
  unfolding down_entries
  left = rw e a

  -- so for the first,
  pub down-first : RoomFor (entry 5 argument i ∷ []) rule at
  down-first = room-first left

  module _ {rule₁ : List ℕ} {r₁ : ℕ} (p : Spelt (entry 5 argument i ∷ []) rule at r₁ rule₁) where
    -- then for the second,
    pub down-second : RoomFor (entry 10 i n ∷ []) rule₁ r₁
    down-second = room-first (room_next p left)

    module _ {rule₂ : List ℕ} {r₂ : ℕ} (q : Spelt (entry 10 i n ∷ []) rule₁ r₁ r₂ rule₂) where
      -- for the third,
      pub down-third : RoomFor (entry 6 (n + 1) 0 ∷ []) rule₂ r₂
      down-third = room-first (room_next q (room_next p left))

      module _ {rule₃ : List ℕ} {r₃ : ℕ} (s : Spelt (entry 6 (n + 1) 0 ∷ []) rule₂ r₂ r₃ rule₃) where
        -- and for the fourth,
        pub down-fourth : RoomFor (entry 4 argument (n + 2) ∷ []) rule₃ r₃
        down-fourth = room_next s (room_next q (room_next p left))

        -- and all four are put.
        pub down-puts : {rule₄ : List ℕ} {r₄ : ℕ} → Spelt (entry 4 argument (n + 2) ∷ []) rule₃ r₃ r₄ rule₄
            → Spelt (down_entries argument n) rule at r₄ rule₄
        unfolding down_entries
        down-puts t = spelt-next (rw e at p) (spelt-next (rw e at q) (spelt-next s t))
