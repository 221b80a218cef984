-- Numbers in a byte string, of any width, the low byte first. Document 01, "Records" (two bytes) and "One pass" (two and eight).
-- Laws: proofs/ByteLaws.antt, proofs/TwoBytes.antt. Assumes nothing.
use Rattle.std.specs.Prelude.{ℕ, zero, suc, ◌+◌, ◌*◌, ◌/◌, ◌%◌, ◌<◌, List, [], ◌∷◌, get_or}
use Rattle.numbers.specs.Lists.{put_at}

-- The list is a byte string: every number in it is below 256.
abbrev pub Bytes : List ℕ → Type 0
Bytes s = (i : ℕ) → get_or s i 0 < 256

-- The number whose k bytes stand at an offset.
unfoldable pub word_at : ℕ → List ℕ → ℕ → ℕ
word_at zero s at = 0
word_at (suc k) s at = get_or s at 0 + 256 * word_at k s (at + 1)

-- The number whose two bytes stand at an offset, as in every record.
abbrev pub number_at : List ℕ → ℕ → ℕ
number_at s at = word_at 2 s at

-- The two bytes of a number below 65,536.
unfoldable pub two_bytes : ℕ → List ℕ
two_bytes n = n % 256 ∷ n / 256 ∷ []

-- ==== Working definitions: nothing below has to be believed

-- The k low bytes of a value, the lowest first.
unfoldable pub low_bytes : (k value : ℕ) → List ℕ
low_bytes zero v = []
low_bytes (suc k) v = v % 256 ∷ low_bytes k (v / 256)

-- The byte string with these stored at an offset; every other byte stays.
unfoldable pub number_put : (k at value : ℕ) → List ℕ → List ℕ
number_put k at v s = put_at s at (low_bytes k v)
