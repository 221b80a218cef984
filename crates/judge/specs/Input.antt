-- Working definitions: nothing here has to be believed.
-- The input of the program: a rule's length in two bytes, the rule, the report to the end. Document 01, "The program".
-- Shuts out: a length that counts its own two bytes; a rule that reaches past the input.
-- Assumes nothing.
use Rattle.std.specs.Prelude.{ℕ, ◌+◌, ◌-◌, ◌≡◌, cond, List, Option, None, Some, ltb, length, take, drop, MatchOption}
use Rattle.std.specs.Borrow.{Bor}
use Rattle.numbers.specs.Bytes.{number_at}

-- Where the rule ends: past the two bytes of its length, and so many bytes more.
unfoldable pub rule_end : List ℕ → ℕ
rule_end s = 2 + number_at s 0

-- Where the rule ends, if the input has it: there are 2 bytes at least, and so many follow as they say.
unfoldable pub split_of : List ℕ → Option ℕ
split_of s = cond (ltb (length s) 2) None (cond (ltb (length s) (rule_end s)) None (Some (rule_end s)))

-- The rule: what stands between its length and its end.
unfoldable pub rule_in : List ℕ → ℕ → List ℕ
rule_in s end = take (end - 2) (drop 2 s)

-- The report: all that follows.
unfoldable pub report_in : List ℕ → ℕ → List ℕ
report_in s end = drop end s

-- What is promised of the two: none exactly where the input does not have its rule, and else the rule and the report, by where the rule ends.
abbrev pub Parted : List ℕ → Option (Bor (List ℕ) × Bor (List ℕ)) → Type 0
Parted s r = MatchOption r (split_of s ≡ None) (λ p. (end : ℕ) × (split_of s ≡ Some end) × (p.0.now ≡ rule_in s end) × (p.1.now ≡ report_in s end))
