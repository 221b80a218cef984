-- Bits of a word, and the word of some bits. Document 01, "Numbers given back": a mark word has 64 bits, bit i for entry i.
-- Laws: proofs/BitLaws.antt, proofs/WithBit.antt. Assumes nothing.
use Rattle.std.specs.Prelude.{ℕ, zero, suc, ◌+◌, ◌*◌, ◌^◌, ◌%◌, ◌/◌, Bool, true, false, cond, List, [], ◌∷◌, eqb}

-- A number's bit.
abbrev pub bit : Bool → ℕ
bit true = 1
bit false = 0

-- Bit a of a word.
abbrev pub bit_at : ℕ → ℕ → Bool
bit_at w a = eqb (w / 2 ^ a % 2) 1

-- ==== Working definitions: nothing below has to be believed

-- A mark word has so many bits, one for each entry that a rule may have.
abbrev pub word_bits : ℕ
word_bits = 64

-- The bit that a number names, where numbers count round the bits of a word.
abbrev pub in_word : ℕ → ℕ
in_word a = a % word_bits

-- The word of m marks: bit i is mark i, and the bits from m on are 0.
unfoldable pub word : ℕ → (ℕ → Bool) → ℕ
word zero f = 0
word (suc m) f = bit (f m) * 2 ^ m + word m f

-- How many words of a list have bit a.
unfoldable pub have_bit : (a : ℕ) → List ℕ → ℕ
have_bit a [] = 0
have_bit a (w ∷ ws) = bit (bit_at w a) + have_bit a ws

-- The 64-bit word w with bit i put to `on`; every other bit stays.
unfoldable pub with_bit : ℕ → Bool → ℕ → ℕ
with_bit i on w = word word_bits (λ j. cond (eqb j i) on (bit_at w j))
