-- Working definitions: nothing here has to be believed.
-- What one walk of a rule's bytes gives: the rule's answer; of the entries read, whether one looks ahead, and the word of an element
-- that opens, from its label, its parent's word and its previous sibling's. Document 01, "One pass".
-- Shuts out: an entry that looks ahead and is not seen; kinds 11 and 13 one step back only.
-- Laws: proofs/WalkLaws.antt, proofs/Only.antt. Assumes nothing.
use Rattle.std.specs.Prelude.{ℕ, ◌≡◌, Bool, false, not, ◌||◌, List, [], ◌∷◌, length}
use Rattle.terms.specs.Answer.{answered}
use Rattle.entry.specs.declared.entry.Entry.{Entry}
use Rattle.terms.specs.Kinds.{looks_back}
use Rattle.rules.specs.Rule.{rule_answer}
use Rattle.meaning.specs.OnePass.{step_word}
use Rattle.walk.specs.declared.walk.Walk.{Walk}
use Rattle.walk.specs.declared.walk.Ahead.{Ahead}
use Rattle.rules.specs.Entries.{entries_read}

-- The rule has an entry that looks ahead, used by the last one or not.
unfoldable pub looks_ahead : List Entry → Bool
looks_ahead [] = false
looks_ahead (e ∷ es) = not (looks_back e.kind) || looks_ahead es

-- The rule's answer; of the entries read, whether one looks ahead, and the step table's word.
pub record Walked (rule : List ℕ) (label p q : ℕ) (r : Walk) : Type 0 where
  pub answer_is : answered r.answer ≡ rule_answer rule
  pub ahead_is : r.ahead ≡ looks_ahead (entries_read rule)
  pub word_is : r.word ≡ step_word (entries_read rule) label p q (length (entries_read rule))

-- The same without a step.
pub record Asked (rule : List ℕ) (r : Ahead) : Type 0 where
  pub answer_is : answered r.answer ≡ rule_answer rule
  pub ahead_is : r.ahead ≡ looks_ahead (entries_read rule)
