-- What contracts of exported calls name: nothing here has to be believed, since the page (crate demands) states what it comes to.
-- What is promised of a typed rule, request #101: the outcome that the text gets (crate paths, specs/Answer.antt), and what is left in
-- the lent buffer.
-- Shuts out: a refused text that writes; a byte past the rule changed; a count that is not that of the bytes.
-- Laws: proofs/Answered.antt (one result only; each number exactly when). Assumes nothing.
use Rattle.std.specs.Prelude.{ℕ, ◌≡◌, List, length, Result, Ok, Err}
use Rattle.numbers.specs.Lists.{over}
use Rattle.terms.specs.Answer.{number_of, place_of, where_accepted, number_of_fault, Answer}
use Rattle.entry.specs.declared.entry.Entry.{Entry}
use Rattle.grammar.specs.Rules.{rule_bytes}
use Rattle.paths.specs.Answer.{TextGets, path_outcome, bytes_given}
use Rattle.terms.specs.declared.refusal.Refusal.{Refusal}
use Rattle.typing.specs.declared.export.PathReply.{PathReply}

-- What an outcome comes to, as plain numbers: its number and place, and how many of the rule's bytes are written, none where it is a
-- refusal.
abbrev pub path_reply : Answer → (bytes : List ℕ) → PathReply
path_reply a bytes = record { number = number_of a; place = place_of a; written = length (where_accepted a bytes) }

-- What so many bytes written, or a refusal, comes to.
abbrev pub reply_of : Result ℕ Refusal → PathReply
reply_of (Ok n) = record { number = 0; place = 0; written = n }
reply_of (Err e) = record { number = number_of_fault e.fault; place = e.place; written = 0 }

-- The string gets an answer as a text, with entries. The reply is what that comes to, the buffer being the room; and the bytes that are
-- given stand at the front of the buffer, and every byte past them is as it was.
pub record Typed (text rule : List ℕ) (r : PathReply) (after : List ℕ) : Type 0 where
  pub answer : Answer
  pub entries : List Entry
  pub gets : TextGets text answer entries
  pub reply_is : r ≡ path_reply (path_outcome answer entries (length rule)) (rule_bytes entries)
  pub buffer : after ≡ over (bytes_given answer entries (length rule)) rule
