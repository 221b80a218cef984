-- THE THEOREM of demand 3, `verdict-agrees`, over the promises of start, open and close: each opening that is accepted gets the
-- meaning's verdict of that element, in every accepted report that begins with the tags accepted so far.
-- Beside it: `goes_on` (there is such a report), `refused-kept` and `refused-left-out` (refused calls change nothing), and
-- `report-fed` (feeding an accepted report's tags gives the last entry's bit of the meaning's word at each opening).
-- Assumes nothing.
use Prim.Native.Nat.{ℕ, suc, pred, ◌≤◌, suc-le-suc}
use native.Mathlib.Omega.{arith}
use borrow.Author.Tests.{eq-eqb, eqb-true, eqb-false}
use mathlib.Core.Path.{◌≡◌, refl, sym, ap, subst, ◌∙◌}
use mathlib.Core.Bool.{Bool, true, false, cond}
use mathlib.Core.List.{List, [], ◌∷◌, ◌++◌, append_assoc, append-nil}
use lib.Dec.{eqb}
use lib.ListN.{length}
use Rattle.terms.specs.Answer.{Answer, Accepted, Refused, number_of, by_answer, numbered}
use Rattle.entry.specs.declared.entry.Entry.{Entry}
use Rattle.reports.specs.Report.{report_answer, tags_of as tags_in}
use Rattle.rules.specs.Rule.{rule_answer}
use Rattle.tag.specs.Tags.{Tag, opens, closes, opened_count}
use Rattle.numbers.specs.Bytes.{Bytes}
use Rattle.grammar.proofs.Elements.{accepted-legal, levels-accepted, labels-accepted}
use Rattle.grammar.specs.Reports.{bytes_of}
use Rattle.grammar.proofs.Begins.{report-bytes, report-begins, fit-goes-on}
use Rattle.grammar.proofs.Trees.{bytes-append}
use Rattle.grammar.proofs.Entries.{entries-few, rule-entries}
use Rattle.meaning.specs.Marks.{word_of, verdict}
use Rattle.meaning.specs.OnePass.{fresh, fault, opened_verdict, after_all, Taken}
use Rattle.grammar.specs.Rules.{LooksBack}
use Rattle.meaning.proofs.Agrees.{verdict-agrees as table-agrees}
use Rattle.meaning.proofs.Taken.{taken-append, taken-fit, after-append}
use Rattle.walk.proofs.WalkLaws.{back-ahead}
use Rattle.state.specs.Promises.{start_number}
use Rattle.state.specs.State.{state_of, Good}
use Rattle.state.specs.Stores.{bytes_after}
use Rattle.state.proofs.NumberLaws.{start-fresh, start-good, start-bytes}
use Rattle.state.proofs.WrittenLaws.{written-state, written-good, written-bytes}
use Rattle.onepass.specs.Calls.{Call, Promised, Calls, done, then, tags_called, taken, taken_tags, BeginsWith}
use Rattle.onepass.specs.Step.{call_number, call_outcome, answer_of, state_after, Started, Opened}
use Rattle.onepass.specs.declared.export.StepReply.{StepReply}
use Rattle.onepass.proofs.CallLaws.{call-taken, call-number}
use Rattle.rules.specs.Entries.{entries_of}
use Rattle.reports.specs.Elements.{levels_of, labels_of}
use Rattle.numbers.specs.Bits.{bit, bit_at}
use Rattle.terms.proofs.AnswerLaws.{numbered-number}

-- ---- one call

-- What a call promises, open or close: the answer and the bytes after it.
pub promised-both : (rule s : List ℕ) (t : Tag) {r : StepReply} {next : List ℕ} → Promised rule s t r next
    → (r ≡ answer_of rule s t) × (next ≡ state_after rule s t)
promised-both rule s (opens l) p = (p.answer, p.state_is)
promised-both rule s closes p = (p.answer, p.state_is)

-- A call that is not answered 0 leaves the state as it was.
pub refused-kept : (rule s : List ℕ) (t : Tag) (r : StepReply) (next : List ℕ) → Promised rule s t r next → (r.number ≡ 0 → ⊥) → next ≡ s
unfolding answer_of state_after
refused-kept rule s t r next p n = (promised-both rule s t p).1 ∙ go (call_outcome rule s t) refl where
  go : (a : Answer) → call_outcome rule s t ≡ a → by_answer a (bytes_after (entries_of rule) s t) s ≡ s
  go (Accepted m) e = absurd (n (ap (λ (x : StepReply). x.number) (promised-both rule s t p).0 ∙ ap number_of e))
  go (Refused k q) e = refl

left-out-one : {rule s next end : List ℕ} (c : Call) (cs : List Call) → Promised rule s c.tag c.answer next
    → Calls rule next (taken cs) end → Calls rule s (taken (c ∷ cs)) end
unfolding taken
left-out-one {rule} {s} {next} {end} c cs p more = go (eqb c.answer.number 0) refl where
  go : (b : Bool) → eqb c.answer.number 0 ≡ b → Calls rule s (cond b (c ∷ taken cs) (taken cs)) end
  go true e = then p more
  go false e = subst (λ (x : List ℕ). Calls rule x (taken cs) end) (refused-kept rule s c.tag c.answer next p (eqb-false _ 0 e)) more

-- So the calls that are answered 0 lead to the same state by themselves.
pub refused-left-out : {rule s end : List ℕ} {cs : List Call} → Calls rule s cs end → Calls rule s (taken cs) end
unfolding taken
refused-left-out done = done
refused-left-out (then {c = c} {cs = cs} p more) = left-out-one c cs p (refused-left-out more)

-- A sequence of calls splits at each of them.
calls-split : {rule end : List ℕ} (before : List Call) (c : Call) (later : List Call) (s : List ℕ) → Calls rule s (before ++ (c ∷ later)) end
    → (mid next : List ℕ) × Calls rule s before mid × Promised rule mid c.tag c.answer next × Calls rule next later end
calls-split [] c later s (then {next = next} p more) = (s, next, done, p, more)
calls-split (b ∷ before) c later s (then {next = next} p more) =
    let r = calls-split before c later next more in (r.0, r.1, then p r.2, r.3, r.4)

-- The tags of calls one after the other.
pub tags-append : (cs ds : List Call) → tags_called (cs ++ ds) ≡ tags_called cs ++ tags_called ds
unfolding tags_called
tags-append [] ds = refl
tags-append (c ∷ cs) ds = ap (λ (ts : List Tag). c.tag ∷ ts) (tags-append cs ds)

-- Where all calls are answered 0, so are those before a call, and the call itself.
taken-few : (cs : List Call) → length (taken cs) ≤ length cs
unfolding taken
taken-few [] = omega arith
taken-few (c ∷ cs) = go (eqb c.answer.number 0) (taken-few cs) where
  go : (b : Bool) → length (taken cs) ≤ length cs → length (cond b (c ∷ taken cs) (taken cs)) ≤ suc (length cs)
  go true l = suc-le-suc l
  go false l = omega arith

taken-head : (c : Call) (cs : List Call) → taken (c ∷ cs) ≡ c ∷ cs → (c.answer.number ≡ 0) × (taken cs ≡ cs)
unfolding taken
taken-head c cs e = go (eqb c.answer.number 0) refl e where
  go : (b : Bool) → eqb c.answer.number 0 ≡ b → cond b (c ∷ taken cs) (taken cs) ≡ c ∷ cs → (c.answer.number ≡ 0) × (taken cs ≡ cs)
  go true q f = (eqb-true _ 0 q, cc)
  go false q f = absurd (omega (arith, taken-few cs, ap length f))

taken-split : (before : List Call) (c : Call) (later : List Call) → taken (before ++ (c ∷ later)) ≡ before ++ (c ∷ later)
    → (taken before ≡ before) × (c.answer.number ≡ 0)
unfolding taken
taken-split [] c later e = (refl, (taken-head c later e).0)
taken-split (b ∷ before) c later e =
    let h = taken-head b (before ++ (c ∷ later)) e in
    let r = taken-split before c later h.1 in
    (rw (eq-eqb b.answer.number 0 h.0, r.0), r.1)

-- ---- the states that start leads to

module _ (rule : List ℕ) (m : ℕ) (accepted : rule_answer rule ≡ Accepted m) (back : LooksBack (entries_of rule)) where
  abbrev es : List Entry
  es = entries_of rule

  -- The bytes are the state after the tags, which the table takes; they pass the test.
  pub record ReachedBy (ts : List Tag) (s : List ℕ) : Type 0 where
    pub good : Good s
    pub bytes : Bytes s
    pub state_is : state_of s ≡ after_all es fresh ts
    pub taken-are : Taken es fresh ts

  -- A call in such a state is answered the tag's own fault.
  reached-number : (ts : List Tag) (s : List ℕ) → ReachedBy ts s → (t : Tag) → call_number es s t ≡ fault (after_all es fresh ts) t
  reached-number ts s h t = call-number es s t (back-ahead es back) h.good ∙ rw h.state_is

  answer-number : (s : List ℕ) (t : Tag) {r : StepReply} → r ≡ answer_of rule s t → r.number ≡ call_number es s t
  unfolding call_outcome answer_of
  answer-number s t e = ap (λ (x : StepReply). x.number) e ∙ rw accepted (numbered-number (call_number es s t) 0)

  state-written : (s : List ℕ) (t : Tag) → call_number es s t ≡ 0 → state_after rule s t ≡ bytes_after es s t
  unfolding call_outcome state_after numbered
  state-written s t z = rw (accepted, z)

  -- A call that is answered 0 leads on by its tag.
  reached-taken : (ts : List Tag) (s : List ℕ) → ReachedBy ts s → (t : Tag) → call_number es s t ≡ 0 → ReachedBy (ts ++ (t ∷ [])) (bytes_after es s t)
  unfolding Taken after_all
  reached-taken ts s h t z =
      let f = (call-taken es s t z).1.1 in
      let few = entries-few rule in
      record {
        good = written-good es s few h.good h.bytes t f;
        bytes = written-bytes es s few h.good h.bytes t;
        state_is = written-state es s few h.good h.bytes t f ∙ rw (h.state_is, after-append es ts (t ∷ []) fresh);
        taken-are = (taken-append es ts (t ∷ []) fresh).1 (h.taken-are, (sym (reached-number ts s h t) ∙ z, tt));
      }

  -- A call leads on by its tag, or stays.
  reached-call : (ts : List Tag) (s next : List ℕ) (c : Call) → ReachedBy ts s → Promised rule s c.tag c.answer next
      → ReachedBy (ts ++ taken_tags (c ∷ [])) next
  unfolding taken tags_called
  reached-call ts s next c h p = go (eqb c.answer.number 0) refl where
    go : (b : Bool) → eqb c.answer.number 0 ≡ b → ReachedBy (ts ++ tags_called (cond b (c ∷ []) [])) next
    go true e =
        let q = promised-both rule s c.tag p in
        let z = sym (answer-number s c.tag q.0) ∙ eqb-true _ 0 e in
        subst (ReachedBy (ts ++ (c.tag ∷ []))) (sym (q.1 ∙ state-written s c.tag z)) (reached-taken ts s h c.tag z)
    go false e =
        rw (append-nil ts) (subst (ReachedBy ts) (sym (refused-kept rule s c.tag c.answer next p (eqb-false _ 0 e))) h)

  taken_more : (c : Call) (cs : List Call) → taken_tags (c ∷ cs) ≡ taken_tags (c ∷ []) ++ taken_tags cs
  unfolding taken tags_called
  taken_more c cs = go (eqb c.answer.number 0) where
    go : (b : Bool) → tags_called (cond b (c ∷ taken cs) (taken cs)) ≡ tags_called (cond b (c ∷ []) []) ++ tags_called (taken cs)
    go true = refl
    go false = refl

  -- Calls lead on by the tags of those that are answered 0.
  reached-along : (ts : List Tag) {s end : List ℕ} {cs : List Call} → ReachedBy ts s → Calls rule s cs end → ReachedBy (ts ++ taken_tags cs) end
  unfolding taken tags_called
  reached-along ts h done = rw (append-nil ts) h
  reached-along ts {s = s} h (then {next = next} {c = c} {cs = cs} p more) =
      rw (taken_more c cs, ← append_assoc) (reached-along (ts ++ taken_tags (c ∷ [])) (reached-call ts s next c h p) more)

  -- Calls whose tags the table takes are all answered 0.
  all-taken : (ts : List Tag) {s end : List ℕ} {cs : List Call} → ReachedBy ts s → Calls rule s cs end
      → Taken es (after_all es fresh ts) (tags_called cs) → taken cs ≡ cs
  unfolding Taken after_all taken tags_called
  all-taken ts h done f = refl
  all-taken ts {s = s} h (then {next = next} {c = c} {cs = cs} p more) f =
      let q = promised-both rule s c.tag p in
      let z = reached-number ts s h c.tag ∙ f.0 in
      let n = answer-number s c.tag q.0 ∙ z in
      let go_on = subst (ReachedBy (ts ++ (c.tag ∷ []))) (sym (q.1 ∙ state-written s c.tag z)) (reached-taken ts s h c.tag z) in
      rw (eq-eqb c.answer.number 0 n) (ap (λ (x : List Call). c ∷ x)
      (all-taken (ts ++ (c.tag ∷ [])) go_on more (rw (after-append es ts (c.tag ∷ []) fresh) f.1)))

  -- ---- from a started state

  module _ (given start : List ℕ) (r₀ : StepReply) (started : Started given r₀ start) (begun : r₀.number ≡ 0) where
    start_taken : start_number given ≡ 0
    start_taken = sym (ap (λ (x : StepReply). x.number) started.answer) ∙ begun

    -- What start writes is the fresh state.
    started-state : state_of start ≡ fresh
    started-state = rw started.state_is (start-fresh given start_taken)

    started-reached : ReachedBy [] start
    unfolding Taken after_all
    started-reached =
        record {
          good = rw started.state_is (start-good given start_taken);
          bytes = rw started.state_is (start-bytes given start_taken);
          state_is = started-state;
          taken-are = tt;
        }

    -- Whatever the calls, the state that they lead to passes the test, and is the table's after the tags of those that are answered 0.
    calls-reached : {end : List ℕ} {cs : List Call} → Calls rule start cs end → ReachedBy (taken_tags cs) end
    calls-reached calls = reached-along [] started-reached calls

    -- ---- an opening that is accepted

    module _ (before : List Call) (label : ℕ) (r : StepReply) (later : List Call) (end : List ℕ)
        (calls : Calls rule start (before ++ (record { tag = opens label; answer = r } ∷ later)) end) (zero : r.number ≡ 0) where
      abbrev tags : List Tag
      tags = taken_tags before

      abbrev parts : (mid next : List ℕ) × Calls rule start before mid × Opened rule mid label r next × Calls rule next later end
      parts = calls-split before (record { tag = opens label; answer = r }) later start calls

      number-zero : call_number es parts.0 (opens label) ≡ 0
      number-zero = sym (answer-number parts.0 (opens label) parts.3.answer) ∙ zero

      verdict-is : r.verdict ≡ bit (opened_verdict es (after_all es fresh tags) label)
      unfolding call_outcome answer_of numbered
      verdict-is =
          ap (λ (x : StepReply). x.verdict) parts.3.answer ∙ rw (accepted, number-zero, (calls-reached parts.2).state_is)

      -- THE THEOREM: its verdict is the meaning's verdict of the element whose number is the count of openings accepted before, in
      -- every report that the report reader accepts and whose bytes begin with the accepted tags' bytes.
      pub verdict-agrees : (report : List ℕ) (n : ℕ) → BeginsWith (tags ++ (opens label ∷ [])) report n
          → r.verdict ≡ bit (verdict (entries_of rule) (levels_of report) (labels_of report) (opened_count tags))
      verdict-agrees report n b =
          let q = report-begins report n b.bytes b.accepted (tags ++ (opens label ∷ [])) b.rest b.begins in
          let all : tags_in report ≡ tags ++ (opens label ∷ q.0) = q.1 ∙ append_assoc tags (opens label ∷ []) q.0 in
          verdict-is
          ∙ ap bit (table-agrees es (rule-entries rule m accepted) back tags label q.0 (calls-reached parts.2).taken-are)
          ∙ rw (levels-accepted report n b.accepted, labels-accepted report n b.accepted, all)

      -- There is such a report.
      pub goes_on : (report : List ℕ) × (n : ℕ) × BeginsWith (tags ++ (opens label ∷ [])) report n
      goes_on =
          let h = reached-taken tags parts.0 (calls-reached parts.2) (opens label) number-zero in
          let f = fit-goes-on (tags ++ (opens label ∷ [])) ((taken-fit es _).0 h.taken-are) (some tags) in
          (f.0, f.1, record { bytes = f.3; accepted = f.4; rest = f.2; begins = f.5 })
        where
          some : (ts : List Tag) → ts ++ (opens label ∷ []) ≡ [] → ⊥
          some [] e = let z : ◌≡◌ {A = ℕ} 0 1 = cc in omega arith
          some (t ∷ ts) e = let z : ◌≡◌ {A = ℕ} 0 1 = cc in omega arith

    -- ---- feeding an accepted report

    module _ (report : List ℕ) (n : ℕ) (bytes : Bytes report) (taken-report : report_answer report ≡ Accepted n)
        (cs : List Call) (end : List ℕ) (calls : Calls rule start cs end) (fed : tags_called cs ≡ tags_in report) where
      -- Every call is answered 0.
      report_taken : taken cs ≡ cs
      unfolding after_all
      report_taken =
          all-taken [] started-reached calls
          (rw fed ((taken-fit es (tags_in report)).1 (accepted-legal report n taken-report).fit))

      fed-begins : (before : List Call) (c : Call) (later : List Call) → cs ≡ before ++ (c ∷ later)
          → BeginsWith (tags_called before ++ (c.tag ∷ [])) report n
      unfolding tags_called
      fed-begins before c later e =
          let split : tags_in report ≡ tags_called before ++ (c.tag ∷ tags_called later) = sym fed ∙ ap tags_called e ∙ tags-append before (c ∷ later) in
          record {
            bytes = bytes;
            accepted = taken-report;
            rest = bytes_of (tags_called later);
            begins = sym (bytes-append (tags_called before ++ (c.tag ∷ [])) (tags_called later))
                ∙ ap bytes_of (append_assoc (tags_called before) (c.tag ∷ []) (tags_called later) ∙ sym split) ∙ report-bytes report n bytes taken-report;
          }

      -- At each opening the verdict is the last entry's bit of the meaning's word of that element.
      pub report-fed : (before : List Call) (label : ℕ) (r : StepReply) (later : List Call)
          → cs ≡ before ++ (record { tag = opens label; answer = r } ∷ later)
          → (r.number ≡ 0)
          × (r.verdict
          ≡ bit (bit_at (word_of (entries_of rule) (levels_of report) (labels_of report) (opened_count (tags_called before))) (pred (length (entries_of rule)))))
      unfolding verdict tags_called taken
      report-fed before label r later e =
          let c : Call = record { tag = opens label; answer = r } in
          let q = taken-split before c later (sym (ap taken e) ∙ report_taken ∙ e) in
          let tags : taken_tags before ≡ tags_called before = ap tags_called q.0 in (
            q.1,
            verdict-agrees before label r later end (subst (λ (x : List Call). Calls rule start x end) e calls) q.1 report n
                (rw tags (fed-begins before c later e)) ∙ rw tags,
          )
