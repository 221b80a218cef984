-- What the columns of a report laid out hold: the numbers in them, and where they lead. Assumes nothing.
use Prim.Native.Nat.{ℕ, min, ◌*◌, ◌≤◌, ◌<◌}
use native.Mathlib.Decide.{dec_lt}
use native.Mathlib.Omega.{arith}
use borrow.Author.Tests.{lt-ltb, le-ltb, ltb-true, ltb-false}
use mathlib.Core.Path.{◌≡◌, refl, sym, ap, subst, ◌∙◌}
use mathlib.Core.Bool.{Bool, true, false, cond}
use mathlib.Core.List.{List, [], ◌++◌}
use mathlib.Core.Option.{Option, none, some}
use lib.Dec.{ltb}
use lib.ListN.{length, get_or, take, drop}
use lib.Seq.{take-append_seam, ext_get_or, length-take-le}
use Rattle.terms.specs.Answer.{count_of, Answer, Accepted, Refused}
use Rattle.reports.specs.Report.{report_answer}
use Rattle.terms.specs.Limits.{elements_most}
use Rattle.grammar.specs.Legal.{LegalLevels}
use Rattle.grammar.proofs.Elements.{elements-count, levels-elements, levels-legal, elements-few}
use Rattle.grammar.proofs.Sizes.{accepted-size}
use Rattle.meaning.specs.Links.{parent, previous}
use Rattle.meaning.proofs.Links.{Down, parent-down, previous-down}
use Rattle.layout.specs.Links.{number_for, numbers_below, parents, previous_siblings, leads_to, Leads, Linked}
use Rattle.layout.specs.Layout.{least_of, room_in, with_room, LaidOut}
use Rattle.layout.proofs.LinkLaws.{leads-at}
use Rattle.reports.specs.Elements.{ElementsTaken, labels_of, levels_of}
use Rattle.numbers.specs.Lists.{listed, over}
use Rattle.numbers.proofs.Lists.{listed-length, listed_at, over-kept, over-length, over-is}
use Rattle.terms.proofs.AnswerLaws.{accepts-of}
use Rattle.reports.proofs.ElementLaws.{taken-lists}

-- ---- the numbers of elements

module _ (F : ℕ → Option ℕ) where
  numbers-length : (n : ℕ) → length (numbers_below F n) ≡ n
  unfolding numbers_below
  numbers-length n = listed-length n _

  numbers-at : (n s d : ℕ) → s < n → get_or (numbers_below F n) s d ≡ number_for s (F s)
  unfolding numbers_below
  numbers-at n s d l = listed_at n _ s d l

  -- A number leads where it stands for, F leading to lower numbers.
  number-leads-to : Down F → (s : ℕ) (o : Option ℕ) → F s ≡ o → (leads_to s (number_for s o) ≡ o) × (number_for s o ≤ s)
  number-leads-to down s none e = (rw (le-ltb s s (omega arith)), omega arith)
  number-leads-to down s (some t) e = let l = down s t e in (rw (lt-ltb t s l), omega arith)

  -- And what leads somewhere stands for it.
  leads-number-for : (s x : ℕ) (o : Option ℕ) → leads_to s x ≡ o → x ≤ s → x ≡ number_for s o
  leads-number-for s x o e h = go (ltb x s) refl e
    where
      go : (b : Bool) → ltb x s ≡ b → cond b (some x) none ≡ o → x ≡ number_for s o
      go true k q = ap (number_for s) q
      go false k q = (let l = ltb-false x s k in let z : x ≡ s = omega arith in z) ∙ ap (number_for s) q

  -- The numbers of the elements lead as F does.
  pub numbers-lead : Down F → (n : ℕ) → Leads F n (numbers_below F n)
  numbers-lead down n =
      record {
        lead = λ s l. leads-at (numbers_below F n) s (omega (arith, numbers-length n)) ∙ ap (leads_to s) (numbers-at n s 0 l) ∙ (number-leads-to down s (F s) refl).0;
        near = λ s l. rw (numbers-at n s 0 l) (number-leads-to down s (F s) refl).1;
      }

  -- A column of n numbers that leads as F does is that of the numbers.
  pub leads-numbers : (n : ℕ) (f : List ℕ) → length f ≡ n → Leads F n f → f ≡ numbers_below F n
  leads-numbers n f e r =
      ext_get_or 0 f (numbers_below F n) (e ∙ sym (numbers-length n)) (λ s l.
      let h : s < n = omega arith in
      leads-number-for s (get_or f s 0) (F s) (sym (leads-at f s l) ∙ r.lead s h) (r.near s h) ∙ sym (numbers-at n s 0 h))

-- Columns that lead to parents and previous siblings have their numbers, and the other way round.
pub linked-numbers : {levels ups lefts : List ℕ} → Linked levels ups lefts → (ups ≡ parents levels) × (lefts ≡ previous_siblings levels)
unfolding parents previous_siblings
linked-numbers {levels} {ups} {lefts} l = (
  leads-numbers (parent levels) (length levels) ups l.ups_long l.ups_lead,
  leads-numbers (previous levels) (length levels) lefts l.lefts_long l.lefts_lead,
)

pub numbers-linked : (levels : List ℕ) → Linked levels (parents levels) (previous_siblings levels)
unfolding parents previous_siblings
numbers-linked levels =
    record {
      ups_long = numbers-length (parent levels) (length levels);
      lefts_long = numbers-length (previous levels) (length levels);
      ups_lead = numbers-lead (parent levels) (parent-down levels) (length levels);
      lefts_lead = numbers-lead (previous levels) (previous-down levels) (length levels);
    }

-- ---- the lower of two numbers

pub least-min : (a b : ℕ) → min a b ≡ least_of a b
unfolding least_of
least-min a b = elim (dec_lt a b) [ yes h ↦ rw (lt-ltb a b h) (omega arith) | no h ↦ rw (le-ltb a b (omega arith)) (omega arith) ]

pub least-within : (k a b : ℕ) → k ≤ least_of a b → (k ≤ a) × (k ≤ b)
unfolding least_of
least-within k a b h = go (ltb a b) refl h
  where
    go : (t : Bool) → ltb a b ≡ t → k ≤ cond t a b → (k ≤ a) × (k ≤ b)
    go true e q = (q, let l = ltb-true a b e in omega arith)
    go false e q = (let l = ltb-false a b e in omega arith, q)

pub within-least : (k a b : ℕ) → k ≤ a → k ≤ b → k ≤ least_of a b
unfolding least_of
within-least k a b h l = go (ltb a b)
  where
    go : (t : Bool) → k ≤ cond t a b
    go true = h
    go false = l

-- What four columns have room for, each of them has.
pub room_within : (labels levels ups lefts : List ℕ) (n room : ℕ) → room ≡ room_in labels levels ups lefts → n ≤ room
    → (n ≤ length labels) × (n ≤ length levels) × (n ≤ length ups) × (n ≤ length lefts)
unfolding room_in
room_within labels levels ups lefts n room is h =
    let two = least-within n (least_of (length labels) (length levels)) (least_of (length ups) (length lefts)) (omega arith) in
    let f = least-within n (length labels) (length levels) two.0 in
    let g = least-within n (length ups) (length lefts) two.1 in (f.0, f.1, g.0, g.1)

pub within-room : (labels levels ups lefts : List ℕ) (n : ℕ) → n ≤ length labels → n ≤ length levels → n ≤ length ups → n ≤ length lefts
    → n ≤ room_in labels levels ups lefts
unfolding room_in
within-room labels levels ups lefts n a b c d =
    within-least n (least_of (length labels) (length levels)) (least_of (length ups) (length lefts)) (within-least n (length labels) (length levels) a b)
    (within-least n (length ups) (length lefts) c d)

-- Columns of the same lengths have the same room.
pub room-same : (labels levels ups lefts labels' levels' ups' lefts' : List ℕ) → length labels' ≡ length labels → length levels' ≡ length levels
    → length ups' ≡ length ups → length lefts' ≡ length lefts → room_in labels' levels' ups' lefts' ≡ room_in labels levels ups lefts
unfolding room_in
room-same labels levels ups lefts labels' levels' ups' lefts' a b c d = rw (a, b, c, d)

-- ---- a filled column

-- It is as long as the column was, and its first places are what was put there.
pub filled-length : (xs lent : List ℕ) {last : List ℕ} (n : ℕ) → last ≡ over xs lent → length lent ≡ n → n ≡ length last
filled-length xs lent n e l = sym (ap length e ∙ over-length xs lent ∙ l)

pub filled-take : (xs lent : List ℕ) {last : List ℕ} (n : ℕ) → last ≡ over xs lent → length xs ≡ n → n ≤ length lent → take n last ≡ xs
filled-take xs lent n e l h =
    ap (take n) (e ∙ over-is xs lent (omega arith))
    ∙ subst (λ (k : ℕ). take k (xs ++ drop (length xs) lent) ≡ xs) l (take-append_seam xs (drop (length xs) lent))

-- What was put into the first n places, in front of the others, was put over them.
front-over : (xs lent : List ℕ) (n : ℕ) → length xs ≡ n → n ≤ length lent → xs ++ drop n lent ≡ over xs lent
front-over xs lent n e h = rw (← e) (sym (over-is xs lent (omega arith)))

-- ---- the passes

-- The first n elements linked.
pub linked-first : (n : ℕ) (levels ups lefts : List ℕ) {us fs : List ℕ} → n ≤ length levels → n ≤ length ups → n ≤ length lefts
    → Linked (take n levels) us fs
    → (us ++ drop n ups ≡ over (parents (take n levels)) ups) × (fs ++ drop n lefts ≡ over (previous_siblings (take n levels)) lefts)
linked-first n levels ups lefts {us} {fs} a b c l =
    let t = length-take-le n levels a in
    let r = linked-numbers l in (
      front-over us ups n (l.ups_long ∙ t) b ∙ ap (λ (xs : List ℕ). over xs ups) r.0,
      front-over fs lefts n (l.lefts_long ∙ t) c ∙ ap (λ (xs : List ℕ). over xs lefts) r.1,
    )

-- What is known of an accepted report's levels once they are read into a column that has room for them.
pub record LevelsRead (report : List ℕ) (n : ℕ) (ds : List ℕ) : Type 0 where
  pub is : Accepted n ≡ report_answer report
  pub count : length (levels_of report) ≡ n
  pub levels_room : n ≤ length ds
  pub levels_read : take n ds ≡ levels_of report
  pub legal : LegalLevels (take n ds)

module _ {report labels levels : List ℕ} {r : Answer} {n : ℕ} {ls ds : List ℕ} (t : ElementsTaken report labels levels r ls ds) (e : r ≡ Accepted n) where
  pub levels-taken-read : n ≤ length levels → LevelsRead report n ds
  levels-taken-read h =
      let is : Accepted n ≡ report_answer report = sym e ∙ t.answer in
      let kd : ds ≡ over (levels_of report) levels = t.levels_are ∙ ap (λ (xs : List ℕ). over xs levels) (taken-lists report (accepts-of is)).1 in
      let ld : length (levels_of report) ≡ n = levels-elements report ∙ ap count_of (sym is) in
      let td : take n ds ≡ levels_of report = filled-take (levels_of report) levels n kd ld h in
      record {
        is = is;
        count = ld;
        levels_room = omega (arith, filled-length (levels_of report) levels (length levels) kd refl);
        levels_read = td;
        legal = subst LegalLevels (sym td) (levels-legal report n (sym is));
      }

  pub labels-taken-read : n ≤ length labels → (n ≤ length ls) × (take n ls ≡ labels_of report)
  labels-taken-read h =
      let is : Accepted n ≡ report_answer report = sym e ∙ t.answer in
      let kl : ls ≡ over (labels_of report) labels = t.labels_are ∙ ap (λ (xs : List ℕ). over xs labels) (taken-lists report (accepts-of is)).0 in
      let lk : length (labels_of report) ≡ n = elements-count report ∙ ap count_of (sym is) in
      (omega (arith, filled-length (labels_of report) labels (length labels) kl refl), filled-take (labels_of report) labels n kl lk h)

-- No element has no number.
no-parents : (levels : List ℕ) → levels ≡ [] → parents levels ≡ []
unfolding parents numbers_below listed
no-parents levels e = rw e

no-siblings : (levels : List ℕ) → levels ≡ [] → previous_siblings levels ≡ []
unfolding previous_siblings numbers_below listed
no-siblings levels e = rw e

no-numbers : (room : ℕ) (report xs : List ℕ) → xs ≡ [] → with_room room report xs ≡ []
no-numbers room report xs e = go (ltb room (length (levels_of report)))
  where
    go : (b : Bool) → cond b [] xs ≡ []
    go true = refl
    go false = e

refused-levels : (report : List ℕ) {number place : ℕ} → Refused number place ≡ report_answer report → levels_of report ≡ []
unfolding levels_of
refused-levels report e = rw (← e)

module _ {report labels levels : List ℕ} (ups lefts : List ℕ) {r : Answer} {ls ds : List ℕ} (t : ElementsTaken report labels levels r ls ds) where
  -- Refused: no level, so nothing is put.
  pub laid-refused : {number place : ℕ} → r ≡ Refused number place → LaidOut report labels levels ups lefts r ls ds ups lefts
  laid-refused e =
      let z = refused-levels report (sym e ∙ t.answer) in
      record {
        read = t;
        ups_are = over-kept _ ups (no-numbers (room_in labels levels ups lefts) report _ (no-parents (levels_of report) z));
        lefts_are = over-kept _ lefts (no-numbers (room_in labels levels ups lefts) report _ (no-siblings (levels_of report) z));
      }

  -- Accepted: the code goes by the lengths of the columns as the reader leaves them.
  module _ {n : ℕ} (e : r ≡ Accepted n) (room : ℕ) (is : room ≡ room_in ls ds ups lefts) where
    taken : ElementsTaken report labels levels (Accepted n) ls ds
    taken = subst (λ (x : Answer). ElementsTaken report labels levels x ls ds) e t

    same : room ≡ room_in labels levels ups lefts
    same =
        is ∙ room-same labels levels ups lefts ls ds ups lefts (ap length t.labels_are ∙ over-length _ labels)
        (ap length t.levels_are ∙ over-length _ levels) refl refl

    -- A column has no room.
    pub laid-short : room < n → LaidOut report labels levels ups lefts (Accepted n) ls ds ups lefts
    laid-short h =
        let c : length (levels_of report) ≡ n = levels-elements report ∙ ap count_of (sym t.answer ∙ e) in
        let q = lt-ltb (room_in labels levels ups lefts) (length (levels_of report)) (omega (arith, same)) in
        record { read = taken; ups_are = over-kept _ ups (rw q); lefts_are = over-kept _ lefts (rw q) }

    -- All have room: the first n elements can be linked.
    module _ (h : n ≤ room) where
      levels-held : LevelsRead report n ds
      levels-held = levels-taken-read t e (room_within labels levels ups lefts n room same h).1

      pub laid-ready : LegalLevels (take n ds) × (n ≤ length ds) × (n ≤ length ups) × (n ≤ length lefts)
      laid-ready =
          let w = room_within labels levels ups lefts n room same h in (levels-held.legal, levels-held.levels_room, w.2, w.3)

      -- And are.
      pub laid-linked : {us fs : List ℕ} → us ≡ over (parents (take n ds)) ups → fs ≡ over (previous_siblings (take n ds)) lefts
          → LaidOut report labels levels ups lefts (Accepted n) ls ds us fs
      laid-linked u f =
          let k = levels-held in
          let q = le-ltb (room_in labels levels ups lefts) (length (levels_of report)) (omega (arith, k.count, same)) in
          record { read = taken; ups_are = rw q (u ∙ rw k.levels_read); lefts_are = rw q (f ∙ rw k.levels_read) }

-- ---- for the layers above

-- The columns keep their lengths, and so their room.
pub laid-room : {report labels levels ups lefts : List ℕ} {r : Answer} {ls ds us fs : List ℕ} → LaidOut report labels levels ups lefts r ls ds us fs
    → room_in ls ds us fs ≡ room_in labels levels ups lefts
laid-room {report} {labels} {levels} {ups} {lefts} {r} {ls} {ds} {us} {fs} t =
    room-same labels levels ups lefts ls ds us fs (ap length t.read.labels_are ∙ over-length _ labels)
    (ap length t.read.levels_are ∙ over-length _ levels) (ap length t.ups_are ∙ over-length _ ups)
    (ap length t.lefts_are ∙ over-length _ lefts)

-- What the columns hold of an accepted report's elements, all of them having room.
pub record ElementsLaid (report : List ℕ) (n : ℕ) (ls ds us fs : List ℕ) : Type 0 where
  pub few : n ≤ elements_most
  pub labels_room : n ≤ length ls
  pub levels_room : n ≤ length ds
  pub ups_room : n ≤ length us
  pub lefts_room : n ≤ length fs
  pub labels_read : take n ls ≡ labels_of report
  pub levels_read : take n ds ≡ levels_of report
  pub legal : LegalLevels (take n ds)
  pub linked : Linked (take n ds) (take n us) (take n fs)

pub elements_laid : {report labels levels ups lefts : List ℕ} {r : Answer} {n : ℕ} {ls ds us fs : List ℕ}
    → LaidOut report labels levels ups lefts r ls ds us fs → r ≡ Accepted n → n ≤ room_in labels levels ups lefts
    → ElementsLaid report n ls ds us fs
elements_laid {report} {labels} {levels} {ups} {lefts} {r} {n} {ls} {ds} {us} {fs} t e h =
    let a = room_within labels levels ups lefts n _ refl h in
    let k = levels-taken-read t.read e a.1 in
    let l = labels-taken-read t.read e a.0 in
    let q = le-ltb (room_in labels levels ups lefts) (length (levels_of report)) (omega (arith, k.count)) in
    let ku : us ≡ over (parents (levels_of report)) ups = rw q at t.ups_are in
    let kf : fs ≡ over (previous_siblings (levels_of report)) lefts = rw q at t.lefts_are in
    let own = numbers-linked (levels_of report) in
    let tu : take n us ≡ parents (levels_of report) = filled-take _ ups n ku (own.ups_long ∙ k.count) a.2 in
    let tf : take n fs ≡ previous_siblings (levels_of report) = filled-take _ lefts n kf (own.lefts_long ∙ k.count) a.3 in
    record {
      few = omega (arith, ap count_of k.is, elements-few report);
      labels_room = l.0;
      levels_room = k.levels_room;
      ups_room = omega (arith, filled-length _ ups (length ups) ku refl);
      lefts_room = omega (arith, filled-length _ lefts (length lefts) kf refl);
      labels_read = l.1;
      levels_read = k.levels_read;
      legal = k.legal;
      linked = rw (k.levels_read, tu, tf) own;
    }

-- Columns of k places have room for the elements of an accepted report of ten bytes a place; columns of 4,096 for those of any.
module _ (report : List ℕ) (k : ℕ) (labels levels ups lefts : List ℕ) (a : length labels ≡ k) (b : length levels ≡ k) (c : length ups ≡ k)
    (d : length lefts ≡ k) where
  all_room : (n : ℕ) → n ≤ k → n ≤ room_in labels levels ups lefts
  all_room n h = within-room labels levels ups lefts n (omega arith) (omega arith) (omega arith) (omega arith)

  pub room-by-size : length report ≤ 10 * k → (n : ℕ) → report_answer report ≡ Accepted n → n ≤ room_in labels levels ups lefts
  room-by-size h n e = all_room n (omega (arith, accepted-size report n e))

  pub room-for-any : elements_most ≤ k → (n : ℕ) → report_answer report ≡ Accepted n → n ≤ room_in labels levels ups lefts
  room-for-any h n e = all_room n (omega (arith, elements-few report, ap count_of e))
