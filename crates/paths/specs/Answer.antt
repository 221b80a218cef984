-- What a typed rule gets, in the order of the table of numbers: size and grammar, entries, room.
-- Shuts out: 14 before 13; 9 before 13; a place one byte late; a 65th entry taken; a refused text that writes.
-- Laws: proofs/Answer.antt (each string gets one answer, and one only; what the order comes to). Assumes nothing.
use Rattle.std.specs.Prelude.{ℕ, ◌≡◌, cond, List, [], ltb, length}
use Rattle.terms.specs.Answer.{in_order, where_accepted, Answer, Accepted, Refused}
use Rattle.entry.specs.declared.entry.Entry.{Entry}
use Rattle.terms.specs.Limits.{entries_most}
use Rattle.grammar.specs.When.{Sized}
use Rattle.grammar.specs.Rules.{rule_bytes}
use Rattle.paths.specs.Syntax.{Test, GoodT}
use Rattle.paths.specs.Spelling.{text_of, Text, StopsAt}
use Rattle.paths.specs.Translation.{table_of}

-- How many bytes a text has at most.
abbrev pub text_most : ℕ
text_most = 1024

-- The string has 1 to 1,024 bytes and is the text of t.
pub record TextOf (s : List ℕ) (t : Test) : Type 0 where
  pub sized : Sized text_most s
  pub labels : GoodT t
  pub spelt : s ≡ text_of t

-- The bytes of a tree's rule.
abbrev pub bytes_for : Test → List ℕ
bytes_for t = rule_bytes (table_of t)

-- ==== Working definitions: nothing below has to be believed

-- What a string gets as a text, and the entries that it stands for. Row 13: the size is wrong, or the string is no text, which is placed
-- where it stops being the beginning of one. A text is accepted, with the number of its entries.
pub data TextGets (s : List ℕ) : Answer → List Entry → Type 0 where
  bad-size : (Sized text_most s → ⊥) → TextGets s (Refused 13 0) []
  no_text : {p : ℕ} → Sized text_most s → (Text s → ⊥) → StopsAt s p → TextGets s (Refused 13 p) []
  is-text : {t : Test} → TextOf s t → TextGets s (Accepted (length (table_of t))) (table_of t)

module _ (a : Answer) (es : List Entry) (room : ℕ) where
  -- The order, where the string gets the answer a as a text, with the entries es, and there is room for so many bytes: first a; then row
  -- 14, too many entries; then row 9, too little room.
  unfoldable pub path_outcome : Answer
  path_outcome =
      in_order a (in_order (cond (ltb entries_most (length es)) (Refused 14 0) a) (cond (ltb room (length (rule_bytes es))) (Refused 9 0) a))

  -- The bytes that are given: the rule's, and none where anything is refused.
  abbrev pub bytes_given : List ℕ
  bytes_given = where_accepted path_outcome (rule_bytes es)
