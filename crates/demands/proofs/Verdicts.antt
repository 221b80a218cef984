-- One pass gives what holds: demand 3, and that both engines say the same. Assumes nothing.
use Prim.Native.Nat.{ℕ, pred, ◌+◌, ◌≤◌, ◌<◌}
use native.Mathlib.Omega.{arith}
use mathlib.Core.Path.{◌≡◌, sym, ap, ◌∙◌}
use mathlib.Core.List.{List, [], ◌∷◌, ◌++◌}
use mathlib.Core.Logic.{◌↔◌}
use lib.ListN.{length, get_or}
use Rattle.numbers.specs.Bytes.{Bytes}
use Rattle.numbers.specs.Bits.{bit, bit_at}
use Rattle.entry.specs.declared.entry.Entry.{Entry}
use Rattle.tag.specs.Tags.{opens, labels, opened_count}
use Rattle.tag.proofs.TagLaws.{opened-append}
use Rattle.reports.specs.Report.{tags_of}
use Rattle.reports.specs.Elements.{labels_of}
use Rattle.rules.specs.Entries.{entries_of}
use Rattle.grammar.specs.Rules.{IsRule, LooksBack}
use Rattle.grammar.specs.Reports.{Tree, size_t, IsReport}
use Rattle.grammar.proofs.Begins.{report-begins, tree-bytes}
use Rattle.grammar.proofs.ReportBytes.{tags-are}
use Rattle.grammar.proofs.Elements.{labels-accepted, elements-count}
use Rattle.meaning.specs.Marks.{verdict}
use Rattle.meaning.specs.Rose.{labels_t, levels_t}
use Rattle.meaning.proofs.Reflect.{verdict-iff}
use Rattle.onepass.specs.Calls.{Call, tags_called, taken_tags, BeginsWith}
use Rattle.onepass.specs.declared.export.StepReply.{StepReply}
use Rattle.onepass.proofs.Agrees.{verdict-agrees, goes_on}
use Rattle.terms.specs.Answer.{count_of}
use Rattle.demands.specs.Demands.{AcceptedOpening, GoesOn, Demand3, BothSame, Selected}
use Rattle.demands.proofs.Readers.{is-taken, is-entries, is-accepted, accepted-is}
use Rattle.demands.proofs.Marks.{is-levels, is-labels, is-size}
use Rattle.demands.proofs.Same.{engines-agree, bit-one, bit-few}

-- A report is a byte string.
pub is-bytes : {s : List ℕ} {t : Tree} → IsReport s t → Bytes s
is-bytes {s} {t} j = rw j.bytes_are (tree-bytes t j.within)

-- ---- demand 3

module _ {before : List Call} {label : ℕ} {t : Tree} (g : GoesOn before label t) where
  begins-with : BeginsWith (taken_tags before ++ (opens label ∷ [])) g.report (size_t t)
  begins-with = record { bytes = is-bytes g.is_report; accepted = is-accepted g.is_report; rest = g.rest; begins = g.begins }

  -- The element that opens is one of the tree's.
  opening-in : opened_count (taken_tags before) < size_t t
  unfolding labels
  opening-in =
      let tags = taken_tags before in
      let (more, e) = report-begins g.report (size_t t) (is-bytes g.is_report) (is-accepted g.is_report) (tags ++ (opens label ∷ [])) g.rest g.begins in
      let split : opened_count (tags ++ (opens label ∷ [])) ≡ opened_count tags + 1 = opened-append tags (opens label ∷ []) in
      let all : opened_count (tags_of g.report) ≡ opened_count (tags ++ (opens label ∷ [])) + opened_count more = ap opened_count e ∙ opened-append (tags ++ (opens label ∷ [])) more in
      let count : length (labels_of g.report) ≡ opened_count (tags_of g.report) = ap length (labels-accepted g.report (size_t t) (is-accepted g.is_report)) in
      omega (arith, split, all, count, elements-count g.report, ap count_of (is-accepted g.is_report))

-- In a tree whose report goes on from there, the verdict is the last entry's.
verdict-holds : (rule : List ℕ) (es : List Entry) → IsRule rule es → LooksBack es → (before : List Call) (label : ℕ) (r : StepReply)
    → AcceptedOpening rule before label r → (t : Tree) → GoesOn before label t
    → ((r.verdict ≡ 1) ↔ Selected t es (opened_count (taken_tags before))) × (r.verdict ≤ 1)
verdict-holds rule es i back before label r a t g =
    let entries = is-entries i in
    let s = opened_count (taken_tags before) in
    let looks : LooksBack (entries_of rule) = rw entries back in
    let says = verdict-agrees rule (length es) (is-taken i) looks a.given a.started a.start_reply a.start_kept a.start_taken
    before label r a.later a.end a.calls a.taken g.report (size_t t) (begins-with g) in
    let v : r.verdict ≡ bit (verdict es (levels_t t 0) (labels_t t) s) = rw (entries, is-levels g.is_report, is-labels g.is_report) at says in
    let holds = verdict-iff (levels_t t 0) (labels_t t) es s i.entries.nonempty (rw (is-size g.is_report) (opening-in g)) in
    let one = bit-one (verdict es (levels_t t 0) (labels_t t) s) in
    ((λ x. holds.0 (one.0 (sym v ∙ x)), λ x. v ∙ one.1 (holds.1 x)), rw v (bit-few (verdict es (levels_t t 0) (labels_t t) s)))

pub demand_3 : Demand3
demand_3 rule es i back before label r a =
    let looks : LooksBack (entries_of rule) = rw (is-entries i) back in
    let (report, n, b) = goes_on rule (length es) (is-taken i) looks a.given a.started a.start_reply a.start_kept a.start_taken
    before label r a.later a.end a.calls a.taken in
    let (t, j) = accepted-is b.bytes b.accepted in
    let g : GoesOn before label t = record { report = report; is_report = j; rest = b.rest; begins = b.begins } in
    (λ u h. (verdict-holds rule es i back before label r a u h).0, (verdict-holds rule es i back before label r a t g).1, (t, g))

-- ---- both engines

pub both_same : BothSame
both_same rule report marks after e es t i back j evaluated accepted given start end r₀ started begun before label r later calls fed =
    let entries = is-entries i in
    let looks : LooksBack (entries_of rule) = rw entries back in
    let tags = tags-are report t j.bytes_are j.within in
    let (taken, v) = engines-agree rule report (length es) (size_t t) (is-taken i) looks (is-bytes j) (is-accepted j) marks after e evaluated accepted
    given start end r₀ started begun before label r later calls (fed ∙ sym tags) in
    let w : r.verdict ≡ bit (bit_at (get_or after (opened_count (tags_called before)) 0) (pred (length es))) = rw entries at v in
    let one = bit-one (bit_at (get_or after (opened_count (tags_called before)) 0) (pred (length es))) in
    (taken, (λ x. one.0 (sym w ∙ x), λ x. w ∙ one.1 x))
