-- What the promise fixes: one result only; each refusal exactly when; a refusal leaves the buffer. Assumes nothing.
use Prim.Native.Nat.{ℕ, ◌≤◌, ◌<◌}
use native.Mathlib.Decide.{dec_lt}
use native.Mathlib.Omega.{arith}
use mathlib.Core.Path.{◌≡◌, refl, sym, ap, subst, ◌∙◌}
use mathlib.Core.List.{List}
use mathlib.Core.Logic.{◌⊎◌, inl, inr, ⊎_elim, ◌↔◌}
use lib.ListN.{length}
use Rattle.numbers.specs.Lists.{over}
use Rattle.numbers.proofs.Lists.{over_none}
use Rattle.terms.specs.Answer.{number_of, place_of, count_of, where_accepted, Accepts, Answer, Accepted, Refused}
use Rattle.terms.proofs.AnswerLaws.{Sound, refused-not}
use Rattle.marking.proofs.AnswerLaws.{room-sound}
use Rattle.text.specs.Rendered.{buffer_size}
use Rattle.judge.specs.Output.{accepted_printout, text_answer}
use Rattle.judge.proofs.PrintoutLaws.{text-sound, text-counted, text-few}
use Rattle.printing.specs.Given.{print_answer, PrintoutGiven}
use Rattle.printing.specs.declared.export.PrintReply.{PrintReply}
use Rattle.printing.proofs.Given.{print-refused, print-short, print-taken}

-- Any two results are equal.
pub pz-print-only : {rule report text : List ℕ} {r r' : PrintReply} {after after' : List ℕ} → PrintoutGiven rule report text r after
    → PrintoutGiven rule report text r' after' → (r ≡ r') × (after ≡ after')
pz-print-only x y = (x.reply_is ∙ sym y.reply_is, x.buffer ∙ sym y.buffer)

module _ (rule report : List ℕ) (bytes : ℕ) where
  -- No refusal has number 0.
  pub print-sound : Sound (print_answer rule report bytes)
  unfolding print_answer
  print-sound = room-sound bytes (text_answer rule report) (text-sound rule report)

  -- 81,920 bytes are always room: what is refused then is rule or report.
  pub printout-room : buffer_size ≤ bytes → print_answer rule report bytes ≡ text_answer rule report
  printout-room l = go (text_answer rule report) refl
    where
      go : (a : Answer) → text_answer rule report ≡ a → print_answer rule report bytes ≡ text_answer rule report
      go (Refused k p) t = print-refused rule report bytes t ∙ sym t
      go (Accepted n) t = print-taken rule report bytes t (omega (arith, text-few rule report t)) ∙ sym t

  -- A refusal is that of rule or report, or 9 where both are taken and their text has more bytes than there is room for.
  pub print-refused-iff : (k p : ℕ)
      → (print_answer rule report bytes ≡ Refused k p)
      ↔ ((text_answer rule report ≡ Refused k p) ⊎ ((n : ℕ) × (text_answer rule report ≡ Accepted n) × (bytes < n) × (9 ≡ k) × (0 ≡ p)))
  print-refused-iff k p = (
    λ e. go (text_answer rule report) refl e,
    ⊎_elim (print-refused rule report bytes) (λ (n, t, l, nine, start). rw (← nine, ← start) (print-short rule report bytes t l)),
  )
    where
      go : (a : Answer) → text_answer rule report ≡ a → print_answer rule report bytes ≡ Refused k p
          → (text_answer rule report ≡ Refused k p) ⊎ ((n : ℕ) × (text_answer rule report ≡ Accepted n) × (bytes < n) × (9 ≡ k) × (0 ≡ p))
      go (Refused m q) t e = inl (t ∙ sym (print-refused rule report bytes t) ∙ e)
      go (Accepted n) t e =
          elim (dec_lt bytes n) [
            | yes l ↦
                let is = sym (print-short rule report bytes t l) ∙ e in inr (n, t, l, ap number_of is, ap place_of is)
            | no l ↦ refused-not (sym e ∙ print-taken rule report bytes t (omega arith))
          ]

-- Number 0: rule and report are taken, there is room for their text, and it stands whole in front.
pub record TextGiven (rule report text : List ℕ) (r : PrintReply) (after : List ℕ) : Type 0 where
  pub taken : text_answer rule report ≡ Accepted (length (accepted_printout rule report))
  pub counted : r.written ≡ length (accepted_printout rule report)
  pub roomy : length (accepted_printout rule report) ≤ length text
  pub front : after ≡ over (accepted_printout rule report) text

-- What was given, by what was answered.
module _ {rule report text : List ℕ} {r : PrintReply} {after : List ℕ} (x : PrintoutGiven rule report text r after) where
  -- Another number than 0 leaves every byte of the buffer as it was, and nothing is counted.
  pub refused-kept : (r.number ≡ 0 → ⊥) → (after ≡ text) × (r.written ≡ 0)
  refused-kept h =
      let (k, m) = go (print_answer rule report (length text)) (λ z. h (rw x.reply_is z)) in (x.buffer ∙ k, rw x.reply_is m)
    where
      go : (a : Answer) → (number_of a ≡ 0 → ⊥) → (over (where_accepted a (accepted_printout rule report)) text ≡ text) × (count_of a ≡ 0)
      go (Accepted n) m = absurd (m refl)
      go (Refused k p) m = (over_none text, refl)

  pub taken-given : r.number ≡ 0 → TextGiven rule report text r after
  taken-given z = go (text_answer rule report) refl
    where
      lost : {k p : ℕ} → print_answer rule report (length text) ≡ Refused k p → ⊥
      lost e =
          subst Accepts e (print-sound rule report (length text) (ap (λ (q : PrintReply). q.number) (sym x.reply_is) ∙ z))

      go : (a : Answer) → text_answer rule report ≡ a → TextGiven rule report text r after
      go (Refused k p) t = absurd (lost (print-refused rule report (length text) t))
      go (Accepted n) t =
          let counted = text-counted rule report t in
          elim (dec_lt (length text) n) [
            | yes l ↦ absurd (lost (print-short rule report (length text) t l))
            | no l ↦
                let e = print-taken rule report (length text) t (omega arith) in
                record {
                  taken = t ∙ ap Accepted counted;
                  counted = ap (λ (q : PrintReply). q.written) x.reply_is ∙ ap count_of e ∙ counted;
                  roomy = omega (arith, counted);
                  front = x.buffer ∙ rw e;
                }
          ]
