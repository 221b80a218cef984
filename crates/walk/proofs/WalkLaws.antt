-- An entry that looks ahead; a walk turn by turn, one entry more behind the others; what it says of an accepted rule.
-- Assumes nothing.
use Prim.Native.Nat.{ℕ, suc, ◌+◌, ◌*◌, ◌^◌, ◌≤◌, ◌<◌}
use native.Mathlib.Omega.{arith}
use native.Mathlib.Nat.{mod-eq_of_lt}
use native.Mathlib.Numerals.{add-one}
use mathlib.Core.Path.{◌≡◌, refl, sym, ap, ◌∙◌}
use mathlib.Core.Bool.{Bool, true, false, not, ◌||◌}
use mathlib.Core.List.{List, [], ◌∷◌, ◌++◌, append_assoc, append-nil}
use lib.ListN.{length, length-append}
use lib.Bits.{or_shifted_r}
use Rattle.std.specs.Int.Bits.{bit_or}
use Rattle.std.specs.Prelude.{Result, Ok}
use Rattle.terms.specs.Answer.{answered}
use Rattle.terms.specs.declared.refusal.Refusal.{Refusal}
use Rattle.entry.specs.declared.entry.Entry.{Entry}
use Rattle.terms.specs.Kinds.{looks_back, shape_of}
use Rattle.rules.specs.Rule.{rule_answer}
use Rattle.meaning.specs.OnePass.{step_bit, step_word}
use Rattle.grammar.specs.Rules.{LooksBack}
use Rattle.meaning.proofs.StepTable.{step_small, step-last}
use Rattle.walk.specs.Walk.{looks_ahead, Walked, Asked}
use Rattle.walk.specs.Visitors.{stepped, looked}
use Rattle.walk.specs.declared.visitors.Stepping.{Stepping}
use Rattle.walk.specs.declared.visitors.Looking.{Looking}
use Rattle.walk.specs.declared.walk.Ahead.{Ahead}
use Rattle.walk.specs.declared.walk.Walk.{Walk}
use Rattle.rules.specs.Entries.{entries_of, entries_read, seen_from, seen}
use Rattle.rules.proofs.EntryLaws.{entries-read-few, entries-taken-all}
use Rattle.numbers.specs.Bits.{bit, word_bits, in_word}

-- ---- an entry that looks ahead

-- One entry more.
ahead_more : (es : List Entry) (e : Entry) → looks_ahead (es ++ (e ∷ [])) ≡ (looks_ahead es || not (looks_back e.kind))
unfolding looks_ahead
ahead_more [] e = or-none (not (looks_back e.kind))
  where
    or-none : (b : Bool) → (b || false) ≡ (false || b)
    or-none true = refl
    or-none false = refl
ahead_more (d ∷ es) e = rw (ahead_more es e) (grouped (not (looks_back d.kind)) (looks_ahead es) (not (looks_back e.kind)))
  where
    grouped : (a b c : Bool) → (a || (b || c)) ≡ ((a || b) || c)
    grouped true b c = refl
    grouped false b c = refl

-- No entry looks ahead where every entry looks back.
pub back-ahead : (es : List Entry) → LooksBack es → looks_ahead es ≡ false
unfolding looks_ahead
back-ahead [] h = refl
back-ahead (e ∷ es) h = rw (h 0 (omega arith), back-ahead es (λ i l. h (suc i) (omega arith)))

-- ---- along a walk

-- One entry more, as many as before being told.
suc-length : (ps : List Entry) (x : Entry) → suc (length ps) ≡ length (ps ++ (x ∷ []))
suc-length ps x = sym (length-append ps (x ∷ []) ∙ add-one (length ps))

abbrev stepping : (label p q : ℕ) (ahead : Bool) (word : ℕ) → Stepping
stepping label p q ahead word = record { label = label; parent = p; sibling = q; ahead = ahead; word = word }

module _ (label p q : ℕ) where
  -- An element that opens, after these entries.
  abbrev stepped-by : List Entry → Stepping
  stepped-by ps = stepping label p q (looks_ahead ps) (step_word ps label p q (length ps))

  -- One entry more, where the word has a bit for it.
  stepped-once : (ps : List Entry) (x : Entry) → length ps < word_bits → stepped (stepped-by ps) (length ps) x ≡ stepped-by (ps ++ (x ∷ []))
  stepped-once ps x l =
      ap (λ (b : Bool). stepping label p q b (bit_or w (bit on * 2 ^ in_word (length ps)))) (sym (ahead_more ps x))
      ∙ ap (λ (k : ℕ). stepping label p q (looks_ahead (ps ++ (x ∷ []))) (bit_or w (bit on * 2 ^ k))) (mod-eq_of_lt l)
      ∙ ap (stepping label p q (looks_ahead (ps ++ (x ∷ []))))
      (or_shifted_r (bit on) (length ps) w (step_small ps label p q (length ps))
      ∙ step-last ps x label p q (length ps) refl on w refl refl ∙ ap (step_word (ps ++ (x ∷ [])) label p q) (sym (length-append ps (x ∷ []))))
    where
      w : ℕ
      w = step_word ps label p q (length ps)

      on : Bool
      on = step_bit (shape_of x.kind) x.a x.b (length ps) label w p q

  -- And then more.
  stepped-more : (ps es : List Entry) → length ps + length es ≤ word_bits → seen_from stepped (stepped-by ps) (length ps) es ≡ stepped-by (ps ++ es)
  unfolding seen_from
  stepped-more ps [] l = ap stepped-by (sym (append-nil ps))
  stepped-more ps (x ∷ es) l =
      ap (λ (v : Stepping). seen_from stepped v (suc (length ps)) es) (stepped-once ps x (omega arith))
      ∙ ap (λ (k : ℕ). seen_from stepped (stepped-by (ps ++ (x ∷ []))) k es) (suc-length ps x)
      ∙ stepped-more (ps ++ (x ∷ [])) es (omega (arith, length-append ps (x ∷ []))) ∙ ap stepped-by (append_assoc ps (x ∷ []) es)

  -- What a walk gives.
  pub walk-done : (s : List ℕ) {v : Stepping} {r : Result ℕ Refusal} → answered r ≡ rule_answer s
      → v ≡ seen stepped (stepping label p q false 0) (entries_read s) → Walked s label p q record { answer = r; ahead = v.ahead; word = v.word }
  unfolding looks_ahead step_word
  walk-done s {v} a e =
      let same : v ≡ stepped-by (entries_read s) = e ∙ stepped-more [] (entries_read s) (omega (arith, entries-read-few s)) in
      record { answer_is = a; ahead_is = ap (λ (x : Stepping). x.ahead) same; word_is = ap (λ (x : Stepping). x.word) same }

-- The same without a step.
abbrev looked-by : List Entry → Looking
looked-by ps = record { ahead = looks_ahead ps }

looked-more : (ps es : List Entry) (i : ℕ) → seen_from looked (looked-by ps) i es ≡ looked-by (ps ++ es)
unfolding seen_from
looked-more ps [] i = ap looked-by (sym (append-nil ps))
looked-more ps (x ∷ es) i =
    ap (λ (b : Bool). seen_from looked record { ahead = b } (suc i) es) (sym (ahead_more ps x))
    ∙ looked-more (ps ++ (x ∷ [])) es (suc i) ∙ ap looked-by (append_assoc ps (x ∷ []) es)

pub ask-done : (s : List ℕ) {v : Looking} {r : Result ℕ Refusal} → answered r ≡ rule_answer s
    → v ≡ seen looked record { ahead = false } (entries_read s) → Asked s record { answer = r; ahead = v.ahead }
unfolding looks_ahead
ask-done s {v} a e =
    let same : v ≡ looked-by (entries_read s) = e ∙ looked-more [] (entries_read s) 0 in
    record { answer_is = a; ahead_is = ap (λ (x : Looking). x.ahead) same }

-- ---- an accepted rule: the entries that a walk has read are all its entries

module _ (rule : List ℕ) (n : ℕ) where
  -- Whether one looks ahead.
  pub walked-ahead : (label p q : ℕ) (r : Walk) → Walked rule label p q r → r.answer ≡ Ok n → r.ahead ≡ looks_ahead (entries_of rule)
  walked-ahead label p q r w e = w.ahead_is ∙ ap looks_ahead (entries-taken-all rule n (sym (ap answered e) ∙ w.answer_is))

  -- Their word.
  pub walked-word : (label p q : ℕ) (r : Walk) → Walked rule label p q r → r.answer ≡ Ok n
      → r.word ≡ step_word (entries_of rule) label p q (length (entries_of rule))
  walked-word label p q r w e =
      w.word_is ∙ ap (λ (es : List Entry). step_word es label p q (length es)) (entries-taken-all rule n (sym (ap answered e) ∙ w.answer_is))

  -- Whether one looks ahead, without a step.
  pub asked-ahead : (r : Ahead) → Asked rule r → r.answer ≡ Ok n → r.ahead ≡ looks_ahead (entries_of rule)
  asked-ahead r w e = w.ahead_is ∙ ap looks_ahead (entries-taken-all rule n (sym (ap answered e) ∙ w.answer_is))
