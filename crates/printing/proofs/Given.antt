-- The call: one law for each return. Assumes nothing.
use Prim.Native.Nat.{ℕ, ◌≤◌, ◌<◌}
use native.Mathlib.Omega.{arith}
use borrow.Author.Tests.{lt-ltb, le-ltb}
use mathlib.Core.Path.{◌≡◌, refl, sym, ap, ◌∙◌}
use mathlib.Core.List.{List, ◌++◌}
use lib.ListN.{length, take, drop}
use lib.Seq.{take-append_seam}
use Rattle.numbers.specs.Lists.{over}
use Rattle.numbers.proofs.Lists.{over_none, over-length, over-is}
use Rattle.terms.specs.Answer.{number_of_fault, count_of, in_order, Answer, Accepted, Refused}
use Rattle.terms.specs.Limits.{report_most}
use Rattle.terms.specs.declared.refusal.Refusal.{Refusal}
use Rattle.terms.proofs.AnswerLaws.{Within}
use Rattle.std.specs.Prelude.{Result, Ok, Err}
use mathlib.Core.Bool.{Bool, true, false, cond}
use lib.Dec.{ltb}
use Rattle.marking.specs.Evaluation.{short_of_room}
use Rattle.text.specs.Rendered.{buffer_size}
use Rattle.judge.specs.Output.{accepted_printout, text_answer, TakenPut}
use Rattle.judge.proofs.PrintoutLaws.{text-counted, text-few, text-place, judged-taken, judged-refused}
use Rattle.printing.specs.Given.{print_answer, print_reply, PrintoutGiven}
use Rattle.printing.specs.declared.export.PrintReply.{PrintReply}

-- ---- the answer, by what is decided of rule and report and by the room

module _ (rule report : List ℕ) (bytes : ℕ) where
  pub print-refused : {k p : ℕ} → text_answer rule report ≡ Refused k p → print_answer rule report bytes ≡ Refused k p
  unfolding print_answer short_of_room
  print-refused e = rw e

  module _ {n : ℕ} (e : text_answer rule report ≡ Accepted n) where
    pub print-short : bytes < n → print_answer rule report bytes ≡ Refused 9 0
    unfolding print_answer short_of_room
    print-short l = rw (e, lt-ltb bytes n l)

    pub print-taken : n ≤ bytes → print_answer rule report bytes ≡ Accepted n
    unfolding print_answer short_of_room
    print-taken l = rw (e, le-ltb bytes n l)

-- ---- the returns

module _ (rule report text : List ℕ) where
  -- What is refused leaves the buffer.
  given-refused : {number place : ℕ} {r : PrintReply} → print_answer rule report (length text) ≡ Refused number place
      → r ≡ print_reply (Refused number place) → PrintoutGiven rule report text r text
  given-refused e q = record { reply_is = rw e q; buffer = rw e (sym (over_none text)) }

  module _ {whole mid : List ℕ} {judged : Result ℕ Refusal} (p : TakenPut rule report whole judged mid) where
    -- A text is no longer than the call's own buffer, ..
    pub written-few : (n : ℕ) → judged ≡ Ok n → n ≤ buffer_size
    written-few n z = text-few rule report (judged-taken rule report p n z)

    -- .. which keeps its length.
    pub whole_long : length whole ≡ buffer_size → length mid ≡ buffer_size
    whole_long long = ap length p.bytes_are ∙ over-length _ whole ∙ long

    pub whole-fits : (n : ℕ) → length whole ≡ buffer_size → judged ≡ Ok n → n ≤ length mid
    whole-fits n long z = omega (arith, whole_long long, written-few n z)

    -- Rule or report is refused.
    pub given-untaken : (f : Refusal) {r : PrintReply} → judged ≡ Err f → r ≡ print_reply (Refused (number_of_fault f.fault) f.place)
        → PrintoutGiven rule report text r text
    given-untaken f e q = given-refused (print-refused rule report (length text) (judged-refused rule report p f e)) q

    module _ (n : ℕ) (z : judged ≡ Ok n) where
      -- There is no room for the text.
      pub given-short : {r : PrintReply} → length text < n → r ≡ print_reply (Refused 9 0) → PrintoutGiven rule report text r text
      given-short l q = given-refused (print-short rule report (length text) (judged-taken rule report p n z) l) q

      -- There is, and it is copied.
      pub given-taken : {after : List ℕ} → length whole ≡ buffer_size → n ≤ length text → after ≡ over (take n mid) text
          → PrintoutGiven rule report text (print_reply (Accepted n)) after
      given-taken long l q =
          let t = judged-taken rule report p n z in
          let counted = text-counted rule report t in
          let lines = accepted_printout rule report in
          let whole_is : mid ≡ lines ++ drop (length lines) whole = p.bytes_are ∙ rw t (over-is lines whole (omega (arith, counted, text-few rule report t))) in
          let front : take n mid ≡ lines = rw (whole_is, counted) (take-append_seam lines (drop (length lines) whole)) in
          let e = print-taken rule report (length text) t l in
          record { reply_is = rw e; buffer = rw e (q ∙ ap (λ (xs : List ℕ). over xs text) front) }

-- Every number that is answered fits one of C.
module _ (rule report : List ℕ) (bytes : ℕ) where
  pub print-small : Within report_most buffer_size (print_answer rule report bytes)
  unfolding print_answer short_of_room
  print-small = go (text_answer rule report) refl (ltb bytes (count_of (text_answer rule report)))
    where
      go : (a : Answer) → text_answer rule report ≡ a → (short : Bool) → Within report_most buffer_size (in_order a (cond short (Refused 9 0) a))
      go (Refused k p) e short = record { place_in = text-place rule report e; count_within = omega arith }
      go (Accepted n) e true = record { place_in = omega arith; count_within = omega arith }
      go (Accepted n) e false = record { place_in = omega arith; count_within = text-few rule report e }
