-- What Polonezar promises, on one page. Every statement is about what a call has answered and left: `RuleRead`, `ReportRead`,
-- `Evaluated`, `Started`, `Promised` (open and close), `Tallied`, `Typed`, `printout_of` and `PrintoutGiven` are the promises that the
-- contracts of the exported functions name in the code. What they say in detail need not be read: whatever meets them has the properties
-- stated here, and the checker has seen that the functions meet them. Strings are lists of numbers below 256 (`Bytes`), as C lends them.
--
-- What the statements use: rules and reports as texts and the rows of refusals (crate grammar, specs/Rules, Reports and When), the tree
-- and what an entry means on it (crate meaning, specs/Tree, Rose and Meaning), typed rules (crate paths), the state's numbers (crate
-- state, specs/State), the lines of a printout (crate text, specs/Text).
-- Promises: RuleRead ReportRead Evaluated Started Opened Closed Tallied Typed printout_of PrintoutGiven.
-- The record `Page` at the end has all statements, and `page` in proofs/Page.antt proves it. Assumes nothing.
use Rattle.std.specs.Prelude.{ℕ, suc, pred, ◌≤◌, ◌<◌, ◌≡◌, Bool, true, false, List, [], ◌∷◌, ◌++◌, ◌⊎◌, ◌↔◌, length, get_or, take, drop, replicate}
use Rattle.std.proofs.Math.Option.{none, some}
use Rattle.numbers.specs.Bytes.{Bytes, two_bytes}
use Rattle.numbers.specs.Bits.{bit_at}
use Rattle.terms.specs.Kinds.{leads_back}
use Rattle.terms.specs.Limits.{entries_most, elements_most}
use Rattle.entry.specs.declared.entry.Entry.{Entry}
use Rattle.tag.specs.Tags.{Tag, opens, closes, opened_count}
use Rattle.grammar.specs.When.{Sized, RuleRefused, ReportRefused, Mislabelled, TooMuch}
use Rattle.grammar.specs.Rules.{IsRule, LooksBack}
use Rattle.grammar.specs.Reports.{Tree, size_t, tags_t, bytes_of, IsReport}
use Rattle.meaning.specs.Meaning.{Holds}
use Rattle.meaning.specs.Rose.{labels_t, levels_t, parents_t, previous_t}
use Rattle.meaning.specs.Tree.{Child, Next}
use Rattle.records.specs.Reply.{RuleRead, ReportRead}
use Rattle.records.specs.declared.export.RuleReply.{RuleReply}
use Rattle.records.specs.declared.export.ReportReply.{ReportReply}
use Rattle.marking.specs.Evaluation.{Evaluated}
use Rattle.marking.specs.declared.report.Evaluation.{Evaluation}
use Rattle.fields.specs.Fields.{state_size}
use Rattle.state.specs.State.{depth_in, elements_in, root_in, Good}
use Rattle.onepass.specs.Step.{Started}
use Rattle.onepass.specs.Calls.{Promised, Call, Calls, tags_called, taken_tags}
use Rattle.onepass.specs.declared.export.StepReply.{StepReply}
use Rattle.tally.specs.Tally.{Full, Balanced, risen, Tallied}
use Rattle.tally.specs.declared.export.Tally.{Tally}
use Rattle.paths.specs.Syntax.{Test, names_t}
use Rattle.paths.specs.Spelling.{Text, StopsAt}
use Rattle.paths.specs.Selection.{Selects}
use Rattle.paths.specs.Translation.{table_of}
use Rattle.paths.specs.Answer.{text_most, TextOf, bytes_for}
use Rattle.typing.specs.Typed.{Typed}
use Rattle.typing.specs.declared.export.PathReply.{PathReply}
use Rattle.text.specs.Text.{refused_line, accepted_text}
use Rattle.judge.specs.Output.{printout_of}
use Rattle.printing.specs.Given.{PrintoutGiven}
use Rattle.printing.specs.declared.export.PrintReply.{PrintReply}

-- ==== Demand 1: taken, or refused by a number of the documents, exactly where the tables say; a refusal leaves what was lent

-- A table of refusals says which number and place a row gives. An answer follows its table: its number is 0 exactly where no row applies,
-- and has no place then; and a row applies exactly where the answer is its number and place, so that one row only applies at a time.
pub record Follows (Row : (number place : ℕ) → Type 0) (number place : ℕ) : Type 0 where
  pub taken_iff : (number ≡ 0) ↔ ((k p : ℕ) → Row k p → ⊥)
  pub taken_place : number ≡ 0 → place ≡ 0
  pub refused_iff : (k p : ℕ) → Row k p ↔ ((number ≡ 0 → ⊥) × (number ≡ k) × (place ≡ p))

-- Any other number than 0 leaves what was lent as it was.
abbrev pub Kept {ℓ} : {A : Type ℓ} → (number : ℕ) (before after : A) → Type ℓ
Kept number before after = (number ≡ 0 → ⊥) → after ≡ before

-- pz_read_rule: rows 1 to 4. A byte string is taken exactly where it is a rule, and then its entries are counted.
pub record RuleAnswered (rule : List ℕ) (r : RuleReply) : Type 0 where
  pub follows : Follows (RuleRefused rule) r.number r.place
  pub taken_iff : (r.number ≡ 0) ↔ ((es : List Entry) × IsRule rule es)
  pub counted : (es : List Entry) → IsRule rule es → r.entries ≡ length es
  pub uncounted : (r.number ≡ 0 → ⊥) → r.entries ≡ 0

abbrev pub RuleReader : Type 0
RuleReader = (rule : List ℕ) → Bytes rule → (r : RuleReply) → RuleRead rule r → RuleAnswered rule r

-- pz_read_report: rows 5 to 8. A byte string is taken exactly where it is the report of a tree, and then its elements are counted.
pub record ReportAnswered (report : List ℕ) (r : ReportReply) : Type 0 where
  pub follows : Follows (ReportRefused report) r.number r.place
  pub taken_iff : (r.number ≡ 0) ↔ ((t : Tree) × IsReport report t)
  pub counted : (t : Tree) → IsReport report t → r.elements ≡ size_t t
  pub uncounted : (r.number ≡ 0 → ⊥) → r.elements ≡ 0

abbrev pub ReportReader : Type 0
ReportReader = (report : List ℕ) → Bytes report → (r : ReportReply) → ReportRead report r → ReportAnswered report r

-- A byte string is the rule of one list of entries only, and the report of one tree only.
abbrev pub OneReading : Type 0
OneReading =
    ((s : List ℕ) (es fs : List Entry) → IsRule s es → IsRule s fs → es ≡ fs)
    × ((s : List ℕ) (t u : Tree) → IsReport s t → IsReport s u → t ≡ u)

-- pz_evaluate with a buffer of so many words: the rule's rows, then the report's, then row 9.
pub data EvaluateRow (rule report : List ℕ) (words : ℕ) : (number place : ℕ) → Type 0 where
  of-rule : {k p : ℕ} → RuleRefused rule k p → EvaluateRow rule report words k p
  of-report : {es : List Entry} {k p : ℕ} → IsRule rule es → ReportRefused report k p → EvaluateRow rule report words k p
  row-9 : {es : List Entry} {t : Tree} → IsRule rule es → IsReport report t → words < size_t t → EvaluateRow rule report words 9 0

pub record EvaluateAnswered (rule report marks : List ℕ) (r : Evaluation) (after : List ℕ) : Type 0 where
  pub follows : Follows (EvaluateRow rule report (length marks)) r.number r.place
  pub kept : Kept r.number marks after
  pub uncounted : (r.number ≡ 0 → ⊥) → (r.elements ≡ 0) × (r.selected ≡ 0)

abbrev pub Evaluate : Type 0
Evaluate =
    (rule report marks after : List ℕ) (r : Evaluation) → Bytes rule → Bytes report → Evaluated rule report marks r after
    → EvaluateAnswered rule report marks r after

-- pz_start: row 11 where the state has not 1,040 bytes, and else zeros.
pub data StartRow (state : List ℕ) : (number place : ℕ) → Type 0 where
  row-11 : (length state ≡ state_size → ⊥) → StartRow state 11 0

pub record StartAnswered (state : List ℕ) (r : StepReply) (after : List ℕ) : Type 0 where
  pub follows : Follows (StartRow state) r.number r.place
  pub kept : Kept r.number state after
  pub zeros : r.number ≡ 0 → after ≡ replicate state_size 0
  pub unjudged : r.verdict ≡ 0

abbrev pub Start : Type 0
Start = (state after : List ℕ) (r : StepReply) → Started state r after → StartAnswered state r after

-- pz_open and pz_close, from the numbers of a state that passes its test: row 6, a label outside 1..999; row 7, a closing with nothing
-- open or an opening after the root closed; row 8, an opening at level 64 or of a 4,097th element.
pub data OutOfPlace (state : List ℕ) : Tag → Type 0 where
  nothing-open : depth_in state ≡ 0 → OutOfPlace state closes
  root-closed : {label : ℕ} → root_in state ≡ 1 → OutOfPlace state (opens label)

pub data TagRow (state : List ℕ) (t : Tag) : (number : ℕ) → Type 0 where
  row-6 : Mislabelled t → TagRow state t 6
  row-7 : (Mislabelled t → ⊥) → OutOfPlace state t → TagRow state t 7
  row-8 : (Mislabelled t → ⊥) → (OutOfPlace state t → ⊥) → TooMuch (depth_in state) (elements_in state) t → TagRow state t 8

-- The order of a call: the rule's rows; row 10, an entry looks ahead; row 11, the state does not pass its test; the tag's rows. A refusal
-- and a closing have verdict 0.
pub data CallRow (rule state : List ℕ) (t : Tag) : (number place : ℕ) → Type 0 where
  of-rule : {k p : ℕ} → RuleRefused rule k p → CallRow rule state t k p
  row-10 : {es : List Entry} → IsRule rule es → (LooksBack es → ⊥) → CallRow rule state t 10 0
  row-11 : {es : List Entry} → IsRule rule es → LooksBack es → (Good state → ⊥) → CallRow rule state t 11 0
  of-tag : {es : List Entry} {k : ℕ} → IsRule rule es → LooksBack es → Good state → TagRow state t k → CallRow rule state t k 0

pub record CallAnswered (rule state : List ℕ) (t : Tag) (r : StepReply) (after : List ℕ) : Type 0 where
  pub follows : Follows (CallRow rule state t) r.number r.place
  pub kept : Kept r.number state after
  pub unjudged : (r.number ≡ 0 → ⊥) ⊎ (t ≡ closes) → r.verdict ≡ 0

abbrev pub OpenAndClose : Type 0
OpenAndClose =
    (rule state after : List ℕ) (t : Tag) (r : StepReply) → Bytes rule → Promised rule state t r after → CallAnswered rule state t r after

-- pz_tally: row 12, the tally is full or out of balance; else one verdict more is seen, and selected or passed over, and the balance stays.
pub data TallyRow (t : Tally) : (number place : ℕ) → Type 0 where
  row-12 : Full t ⊎ (Balanced t → ⊥) → TallyRow t 12 0

pub record TallyAnswered (t : Tally) (verdict : Bool) (number : ℕ) (after : Tally) : Type 0 where
  pub follows : Follows (TallyRow t) number 0
  pub kept : Kept number t after
  pub counted : number ≡ 0 → (after ≡ risen t verdict) × Balanced after

abbrev pub CountVerdict : Type 0
CountVerdict = (t after : Tally) (verdict : Bool) (number : ℕ) → Tallied t verdict number after → TallyAnswered t verdict number after

-- pz_read_path with a buffer of so many bytes: row 13, the size is wrong, or it is no text, which is placed where it stops being the
-- beginning of one; row 14, more than 64 entries; row 9, no room. A text that is taken leaves the bytes of its rule at the front of the
-- buffer, and what stands behind them as it was.
pub data PathRow (text : List ℕ) (bytes : ℕ) : (number place : ℕ) → Type 0 where
  row-13-size : (Sized text_most text → ⊥) → PathRow text bytes 13 0
  row-13 : {p : ℕ} → Sized text_most text → (Text text → ⊥) → StopsAt text p → PathRow text bytes 13 p
  row-14 : {t : Test} → TextOf text t → entries_most < length (table_of t) → PathRow text bytes 14 0
  row-9 : {t : Test} → TextOf text t → length (table_of t) ≤ entries_most → bytes < length (bytes_for t) → PathRow text bytes 9 0

pub record PathAnswered (text rule : List ℕ) (r : PathReply) (after : List ℕ) : Type 0 where
  pub follows : Follows (PathRow text (length rule)) r.number r.place
  pub kept : Kept r.number rule after
  pub uncounted : (r.number ≡ 0 → ⊥) → r.written ≡ 0
  pub counted : (t : Test) → TextOf text t → r.number ≡ 0 → r.written ≡ length (bytes_for t)
  pub front : (t : Test) → TextOf text t → r.number ≡ 0 → IsRule (take r.written after) (table_of t)
  pub behind : r.number ≡ 0 → drop r.written after ≡ drop r.written rule

abbrev pub ReadPath : Type 0
ReadPath = (text rule after : List ℕ) (r : PathReply) → Typed text rule r after → PathAnswered text rule r after

-- ==== Demand 2: every element gets one mark for every entry, true exactly where the tree logic says that the entry holds there

-- How many of the numbers below n have a property.
pub data Counts (P : ℕ → Type 0) : (n count : ℕ) → Type 0 where
  nothing : Counts P 0 0
  with : {n c : ℕ} → Counts P n c → P n → Counts P (suc n) (suc c)
  without : {n c : ℕ} → Counts P n c → (P n → ⊥) → Counts P (suc n) c

-- What an entry means is said over the relations Child and Next of a tree's levels. They are the tree's own: p is the parent of element
-- i in the tree, or its previous sibling there, the elements being numbered in order of opening.
abbrev pub TreeRelations : Type 0
TreeRelations =
    (t : Tree) (p i : ℕ) → i < size_t t
    → (Child (levels_t t 0) p i ↔ (get_or (parents_t t 0 none) i none ≡ some p))
    × (Next (levels_t t 0) p i ↔ (get_or (previous_t t 0 none) i none ≡ some p))

-- Entry i of a rule holds at element s of a tree; the verdict is the last entry's.
abbrev pub HoldsIn : Tree → List Entry → (i s : ℕ) → Type 0
HoldsIn t es i s = Holds (levels_t t 0) (labels_t t) es i s

abbrev pub Selected : Tree → List Entry → ℕ → Type 0
Selected t es s = HoldsIn t es (pred (length es)) s

-- The evaluator has accepted the rule of these entries and the report of this tree, and left `after`: word s is element s's, its bit i
-- is entry i's mark, and there are no other bits; the words past the last element are as they were; the selected count is the number of
-- elements at which the last entry holds.
pub record MarksMeant (es : List Entry) (t : Tree) (marks : List ℕ) (r : Evaluation) (after : List ℕ) : Type 0 where
  pub elements : r.elements ≡ size_t t
  pub long : length after ≡ length marks
  pub marked : (s i : ℕ) → s < size_t t → i < length es → (bit_at (get_or after s 0) i ≡ true) ↔ HoldsIn t es i s
  pub unmarked : (s i : ℕ) → s < size_t t → length es ≤ i → bit_at (get_or after s 0) i ≡ false
  pub past : (s : ℕ) → size_t t ≤ s → get_or after s 0 ≡ get_or marks s 0
  pub counted : Counts (Selected t es) (size_t t) r.selected

abbrev pub Demand2 : Type 0
Demand2 =
    (rule report marks after : List ℕ) (r : Evaluation) (es : List Entry) (t : Tree) → IsRule rule es → IsReport report t
    → Evaluated rule report marks r after → r.number ≡ 0 → MarksMeant es t marks r after

-- ==== Demand 3: one pass gives, at each accepted opening, the verdict of that element in every report that begins so

-- A state was started, and calls were made with one rule that looks back only, in any sequence; `before` are those before an opening that
-- was accepted with answer r. Its element's number is how many openings were accepted before it.
pub record AcceptedOpening (rule : List ℕ) (before : List Call) (label : ℕ) (r : StepReply) : Type 0 where
  pub given : List ℕ
  pub started : List ℕ
  pub start_reply : StepReply
  pub start_kept : Started given start_reply started
  pub start_taken : start_reply.number ≡ 0
  pub later : List Call
  pub end : List ℕ
  pub calls : Calls rule started (before ++ (record { tag = opens label; answer = r } ∷ later)) end
  pub taken : r.number ≡ 0

-- The report of a tree begins with the tags accepted so far, that of the opening included.
pub record GoesOn (before : List Call) (label : ℕ) (t : Tree) : Type 0 where
  pub report : List ℕ
  pub is_report : IsReport report t
  pub rest : List ℕ
  pub begins : bytes_of (taken_tags before ++ (opens label ∷ [])) ++ rest ≡ report

-- The verdict is 1 exactly where the last entry holds at that element in every such report, and else 0; and there is such a report.
abbrev pub Demand3 : Type 0
Demand3 =
    (rule : List ℕ) (es : List Entry) → IsRule rule es → LooksBack es → (before : List Call) (label : ℕ) (r : StepReply)
    → AcceptedOpening rule before label r
    → ((t : Tree) → GoesOn before label t → ((r.verdict ≡ 1) ↔ Selected t es (opened_count (taken_tags before))))
    × (r.verdict ≤ 1) × ((t : Tree) × GoesOn before label t)

-- ==== Both engines say the same

-- One pass, fed all the tags of a report that the evaluator has accepted with the same rule, answers 0 to each; and each opening's
-- verdict is 1 exactly where the last entry's bit is set in the word that the evaluator has left for that element.
abbrev pub BothSame : Type 0
BothSame =
    (rule report marks after : List ℕ) (e : Evaluation) (es : List Entry) (t : Tree) → IsRule rule es → LooksBack es → IsReport report t
    → Evaluated rule report marks e after → e.number ≡ 0
    → (given start end : List ℕ) (r₀ : StepReply) → Started given r₀ start → r₀.number ≡ 0
    → (before : List Call) (label : ℕ) (r : StepReply) (later : List Call)
    → Calls rule start (before ++ (record { tag = opens label; answer = r } ∷ later)) end
    → tags_called (before ++ (record { tag = opens label; answer = r } ∷ later)) ≡ tags_t t
    → (r.number ≡ 0)
    × ((r.verdict ≡ 1) ↔ (bit_at (get_or after (opened_count (tags_called before)) 0) (pred (length es)) ≡ true))

-- ==== Typed rules (#101): the rule that is written means what its text means by itself

-- The last entry of a text's rule holds exactly where the text's own meaning has the element; and the rule looks back only exactly where
-- the text names no step that leads ahead. With demands 2 and 3 both engines give the text's own meaning.
abbrev pub TypedMeans : Type 0
TypedMeans =
    (text rule after : List ℕ) (r : PathReply) (u : Test) → Typed text rule r after → r.number ≡ 0 → TextOf text u
    → ((t : Tree) (s : ℕ) → Selected t (table_of u) s ↔ Selects (levels_t t 0) (labels_t t) u s)
    × (LooksBack (table_of u) ↔ (names_t leads_back u ≡ true))

-- ==== The printout: no element without its line, and what each line says

-- The text of a rule and a report that are taken: a header, a line for each element in order with its label, its level and its verdict,
-- and the counts.
pub data LinesOf (rule report : List ℕ) : (text : List ℕ) → Type 0 where
  lines : {es : List Entry} {t : Tree} {verdicts : ℕ → Bool} {count : ℕ} → IsRule rule es → IsReport report t
      → ((s : ℕ) → s < size_t t → (verdicts s ≡ true) ↔ Selected t es s) → Counts (Selected t es) (size_t t) count
      → LinesOf rule report (accepted_text (labels_t t) (levels_t t 0) verdicts (size_t t) count)

-- The input is the two bytes of a rule's length, the rule, and the report to the end.
pub record Parts (input rule report : List ℕ) : Type 0 where
  pub short : length rule < 65536
  pub bytes_are : input ≡ two_bytes (length rule) ++ (rule ++ report)

-- What is printed of an input: a refusal's line, by row 1 where there is no such rule; or the text. A buffer has room for every report,
-- so that row 9 is never printed.
pub data Printed (input : List ℕ) : (printout : List ℕ) → Type 0 where
  no-rule : ((rule report : List ℕ) → Parts input rule report → ⊥) → Printed input (refused_line 1 0)
  refused : {rule report : List ℕ} {k p : ℕ} → Parts input rule report → EvaluateRow rule report elements_most k p
      → Printed input (refused_line k p)
  accepted : {rule report text : List ℕ} → Parts input rule report → LinesOf rule report text → Printed input text

abbrev pub Printout : Type 0
Printout = (input : List ℕ) → Bytes input → Printed input (printout_of input)

-- pz_print with a buffer of so many bytes: the rule's rows, then the report's, then row 9, the text has more bytes than the buffer. What
-- is taken leaves its text at the front of the buffer, with all its bytes counted, and what stands behind it as it was. No text has more
-- than 81,920 bytes.
pub data PrintRow (rule report : List ℕ) (bytes : ℕ) : (number place : ℕ) → Type 0 where
  of-rule : {k p : ℕ} → RuleRefused rule k p → PrintRow rule report bytes k p
  of-report : {es : List Entry} {k p : ℕ} → IsRule rule es → ReportRefused report k p → PrintRow rule report bytes k p
  row-9 : {text : List ℕ} → LinesOf rule report text → bytes < length text → PrintRow rule report bytes 9 0

pub record PrintAnswered (rule report lent : List ℕ) (r : PrintReply) (after : List ℕ) : Type 0 where
  pub follows : Follows (PrintRow rule report (length lent)) r.number r.place
  pub kept : Kept r.number lent after
  pub uncounted : (r.number ≡ 0 → ⊥) → r.written ≡ 0
  pub counted : (text : List ℕ) → LinesOf rule report text → r.number ≡ 0 → r.written ≡ length text
  pub front : r.number ≡ 0 → LinesOf rule report (take r.written after)
  pub behind : r.number ≡ 0 → drop r.written after ≡ drop r.written lent
  pub few : (text : List ℕ) → LinesOf rule report text → length text ≤ 81920

abbrev pub Print : Type 0
Print =
    (rule report lent after : List ℕ) (r : PrintReply) → Bytes rule → Bytes report → PrintoutGiven rule report lent r after
    → PrintAnswered rule report lent r after

-- ==== All of it

pub record Page : Type 0 where
  -- Demand 1, call by call.
  pub rule_reader : RuleReader
  pub report_reader : ReportReader
  pub one_reading : OneReading
  pub evaluate : Evaluate
  pub start : Start
  pub open_and_close : OpenAndClose
  pub count_verdict : CountVerdict
  pub read_path : ReadPath
  -- Demands 2 and 3, and that both engines say the same.
  pub tree_relations : TreeRelations
  pub demand_2 : Demand2
  pub demand_3 : Demand3
  pub both_same : BothSame
  -- Typed rules, and the printout, of an input and for C.
  pub typed_means : TypedMeans
  pub printout : Printout
  pub print : Print
