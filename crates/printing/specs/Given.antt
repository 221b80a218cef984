-- What contracts of exported calls name: nothing here has to be believed, since the page (crate demands) states what it comes to.
-- The printout of a rule and a report for C: number, place and how many bytes were written, and the lent buffer afterwards. Document 01,
-- "Numbers given back" (calls that come later), with the text of "The program".
-- Shuts out: a refusal that writes; 9 before what the readers refuse; a byte past the text changed; a count that is not the text's.
-- Laws: proofs/Only.antt (one result only; each number exactly when). Assumes nothing.
use Rattle.std.specs.Prelude.{ℕ, ◌≡◌, List, length}
use Rattle.numbers.specs.Lists.{over}
use Rattle.terms.specs.Answer.{number_of, place_of, count_of, where_accepted, Answer}
use Rattle.marking.specs.Evaluation.{short_of_room}
use Rattle.judge.specs.Output.{accepted_printout, text_answer}
use Rattle.printing.specs.declared.export.PrintReply.{PrintReply}

-- The order: what the rule reader answers, then what the report reader answers, then 9, the buffer having fewer bytes than the text.
unfoldable pub print_answer : (rule report : List ℕ) (bytes : ℕ) → Answer
print_answer rule report bytes = short_of_room bytes (text_answer rule report)

-- What an answer comes to, as plain numbers: its number and place, and how many bytes are written, none where it is a refusal.
abbrev pub print_reply : Answer → PrintReply
print_reply a = record { number = number_of a; place = place_of a; written = count_of a }

-- The reply, the buffer being the room; and the buffer with the text at its front where rule and report are accepted and there is room,
-- and every other byte as it was.
pub record PrintoutGiven (rule report text : List ℕ) (r : PrintReply) (after : List ℕ) : Type 0 where
  pub reply_is : r ≡ print_reply (print_answer rule report (length text))
  pub buffer : after ≡ over (where_accepted (print_answer rule report (length text)) (accepted_printout rule report)) text
