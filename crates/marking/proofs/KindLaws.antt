-- The marks of each kind's pass are the meaning's; the words after each entry; the words as the list that is promised.
-- Assumes nothing.
use Prim.Native.Nat.{ℕ, pred, ◌+◌, ◌-◌, ◌≤◌, ◌<◌}
use native.Mathlib.Decide.{dec_lt}
use native.Mathlib.Nat.{mod-eq_of_lt}
use native.Mathlib.Numerals.{add-one}
use native.Mathlib.Omega.{arith}
use mathlib.Core.Path.{◌≡◌, sym, ap, subst, ◌∙◌}
use mathlib.Core.Bool.{Bool, true, false}
use mathlib.Core.List.{List, ◌++◌}
use lib.ListN.{length, get_or, drop}
use lib.Seq.{ext_get_or}
use Rattle.entry.specs.declared.entry.Entry.{Entry}
use Rattle.terms.proofs.Rows.{numbers-are}
use Rattle.grammar.specs.Rules.{no_entry, RuleEntries}
use Rattle.grammar.proofs.Entries.{formed-kind, formed-entries, formed-a, formed-b}
use Rattle.numbers.proofs.Tells.{IsTest, test-same}
use Rattle.terms.specs.declared.kind.Axis.{Axis}
use Rattle.terms.specs.declared.kind.Axis.TheVariants.{Child as child, Parent as parent, Next as next, Previous as previous}
use Rattle.meaning.specs.Tree.{direction}
use Rattle.meaning.specs.Links.{link}
use Rattle.terms.specs.declared.kind.Shape.{Shape}
use Rattle.terms.specs.declared.kind.Shape.TheVariants.{Nothing as nothing, Here as here, SomeAlong as some_along, UntilAlong as until_along, EveryChild as every_child}
use Rattle.terms.specs.declared.kind.Local.{Local}
use Rattle.terms.specs.declared.kind.Numbers.TheVariants.{Entries}
use Rattle.terms.specs.Kinds.{shape_of, numbers_of, leads_back}
use Rattle.meaning.specs.Marks.{means_here, means, mark, word_of, words, selected}
use Rattle.meaning.proofs.Tests.{bool-told}
use Rattle.meaning.proofs.Reflect.{means-told}
use Rattle.meaning.proofs.OneStep.{mark-rule, plain}
use Rattle.meaning.proofs.Words.{words-length, words-at}
use Rattle.layout.specs.Links.{leads, Linked}
use Rattle.marking.specs.Pass.{Stored, Passed, Room, Columns, bits_of, Marked}
use Rattle.marking.specs.Steps.{along_mark, ahead_mark, Nearest}
use Rattle.steps.specs.Steps.{column_of}
use Rattle.steps.specs.declared.ahead.AskedAhead.TheVariants.{Every}
use Rattle.layout.proofs.LinkLaws.{ups-all, lefts-all, parent-next}
use Rattle.marking.proofs.PassLaws.{stored-start, stored_same, passed_start}
use Rattle.numbers.proofs.Lists.{over-is}
use Rattle.numbers.specs.Bits.{word, word_bits, in_word}
use Rattle.numbers.proofs.BitLaws.{pred-sub, word-bit, word_lt}

-- ---- the table of passes

module _ {levels labels ups lefts : List ℕ} (columns : Columns levels labels ups lefts) where
  abbrev linked : Linked levels ups lefts
  linked = columns.linked

  -- The column of an axis leads as the axis is found.
  column-all : (x : Axis) → (length (column_of x ups lefts) ≡ length levels) × (leads (column_of x ups lefts) ≡ link levels x)
  unfolding column_of link
  column-all child = (linked.ups_long, ups-all linked)
  column-all parent = (linked.ups_long, ups-all linked)
  column-all next = (linked.lefts_long, lefts-all linked)
  column-all previous = (linked.lefts_long, lefts-all linked)

  column-leads : (x : Axis) (s : ℕ) → s < length levels → get_or (column_of x ups lefts) s 0 ≤ s
  unfolding column_of
  column-leads child = linked.ups_lead.near
  column-leads parent = linked.ups_lead.near
  column-leads next = linked.lefts_lead.near
  column-leads previous = linked.lefts_lead.near

  -- So a pass along it has room where the elements have.
  pub column-room : (x : Axis) (f : List ℕ) → f ≡ column_of x ups lefts → {i : ℕ} {ws : List ℕ} → Room (length labels) i ws
      → Room (length f) i ws × ((s : ℕ) → s < length f → get_or f s 0 ≤ s)
  column-room x f e room = rw (e, (column-all x).0) (rw columns.long at room, column-leads x)

  -- A pass leaves what a shape means:
  abbrev Meant : (k : Shape) (a b i : ℕ) (before after : List ℕ) → Type 0
  Meant k a b i before after = Passed (length levels) i (means levels labels k a (bits_of before a) (bits_of before b)) before after

  module _ {k : Shape} {i : ℕ} {before after : List ℕ} (a b : ℕ) where
    -- along the column of an axis,
    pub passed-some : (x : Axis) (f : List ℕ) → f ≡ column_of x ups lefts → k ≡ some_along x
        → Passed (length f) i (along_mark false (direction x) (length f) (leads f) (bits_of before a) (bits_of before b)) before after
        → Meant k a b i before after
    unfolding means along_mark
    passed-some x f c e r = rw e (rw (c, (column-all x).0, (column-all x).1) at r)

    pub passed-until : (x : Axis) (f : List ℕ) → f ≡ column_of x ups lefts → k ≡ until_along x
        → Passed (length f) i (along_mark true (direction x) (length f) (leads f) (bits_of before a) (bits_of before b)) before after
        → Meant k a b i before after
    unfolding means along_mark
    passed-until x f c e r = rw e (rw (c, (column-all x).0, (column-all x).1) at r)

    pub passed-every : k ≡ every_child
        → Passed (length ups) i (ahead_mark Every (length ups) (leads ups) (bits_of before a) (bits_of before b)) before after
        → Meant k a b i before after
    unfolding means ahead_mark direction leads_back column_of
    passed-every e r = rw e (rw ((column-all child).0, (column-all child).1) at r)

    -- at the element alone,
    pub passed-local : (asked : Local) → k ≡ here asked
        → Passed (length labels) i (λ s. means_here asked a (get_or labels s 0) (bits_of before a s) (bits_of before b s)) before after
        → Meant k a b i before after
    unfolding means
    passed-local asked e r = rw e (rw columns.long at r)

  -- and nowhere, by doing nothing.
  pub passed-nothing : {k : Shape} {i : ℕ} {before : List ℕ} (a b : ℕ) → Room (length labels) i before → k ≡ nothing → Meant k a b i before before
  unfolding means
  passed-nothing a b room e = rw e (passed_start (rw columns.long at room))

  -- Parents are led to from the very next element.
  pub ups-nearest : Nearest Every ups
  unfolding Nearest
  ups-nearest = rw (ups-all linked) (parent-next levels columns.legal)

-- ---- the entries

-- A kind asks a and b at elements only.
means-same : (levels labels : List ℕ) (k : Shape) (l : ℕ) (a a' b b' : ℕ → Bool)
    → ((t : ℕ) → t < length levels → a t ≡ a' t) → ((t : ℕ) → t < length levels → b t ≡ b' t) → (s : ℕ) → s < length levels
    → means levels labels k l a b s ≡ means levels labels k l a' b' s
means-same levels labels k l a a' b b' ea eb s h =
    test-same (means-told levels labels l _ _ a b (λ t m. bool-told (a t)) (λ t m. bool-told (b t)) s h k)
    (means-told levels labels l (λ t. a t ≡ true) (λ t. b t ≡ true) a' b' (λ t m. subst (IsTest (a t ≡ true)) (ea t m) (bool-told (a t)))
    (λ t m. subst (IsTest (b t ≡ true)) (eb t m) (bool-told (b t))) s h k)
    (λ x. x, λ x. x)

module _ (levels labels : List ℕ) (entries : List Entry) where
  -- The marks of the first i entries at an element, as a word.
  abbrev pub word_up_to : ℕ → ℕ → ℕ
  word_up_to i s = word i (λ j. mark levels labels entries j s)

  abbrev entry : ℕ → Entry
  entry i = get_or entries i no_entry

  -- Over the marks of the entries before it, an entry's row is its mark.
  row-mark : RuleEntries entries → (i : ℕ) → i < length entries → (ws : List ℕ)
      → ((s : ℕ) → s < length levels → get_or ws s 0 ≡ word_up_to i s) → (s : ℕ) → s < length levels
      → means levels labels (shape_of (entry i).kind) (entry i).a (bits_of ws (entry i).a) (bits_of ws (entry i).b) s ≡ mark levels labels entries i s
  row-mark rule i l ws e s h =
      let f = rule.formed i l in
      rw (mark-rule levels labels entries rule i l)
      (elim (dec_lt (entry i).kind 3) [
        | yes m ↦ ap (λ (g : ℕ → Bool). g s) (plain levels labels entries (entry i).kind _ _ _ _ _ (formed-kind i (entry i) f).0 m)
        | no m ↦
            let at : (j : ℕ) → j < i → (t : ℕ) → t < length levels → bits_of ws j t ≡ mark levels labels entries j t =
            λ j k t q. rw (e t q) (word-bit i j (λ j. mark levels labels entries j t) k) in
            means-same levels labels (shape_of (entry i).kind) (entry i).a _ _ _ _ (at (entry i).a (formed-a i (entry i) f (omega arith)))
            (at (entry i).b (formed-b i (entry i) f (omega arith))) s h
      ])

  -- One entry more.
  pub entry-turn : RuleEntries entries → (i : ℕ) → i < length entries → {before ws after : List ℕ}
      → Stored (length levels) (word_up_to i) before ws
      → Passed (length levels) i (means levels labels (shape_of (entry i).kind) (entry i).a (bits_of ws (entry i).a) (bits_of ws (entry i).b)) ws after
      → Stored (length levels) (word_up_to (i + 1)) before after
  unfolding word
  entry-turn rule i l {before} {ws} {after} r p =
      record {
        long = p.stored.long ∙ r.long;
        put = λ s h. p.stored.put s h ∙ rw (add-one i, row-mark rule i l ws r.put s h, r.put s h);
      }

  -- Before any entry the words are 0, and before entry i they have bits below i only.
  pub words-start : {before : List ℕ} → Room (length levels) 0 before → Stored (length levels) (word_up_to 0) before before
  unfolding word
  words-start room =
      stored_same (length levels) _ (λ s l. let h = room.small s l in omega arith) (stored-start (length levels) _)

  pub words-room : {ups lefts : List ℕ} → Columns levels labels ups lefts → {i : ℕ} {before ws : List ℕ} → Room (length labels) 0 before → i < word_bits
      → Stored (length levels) (word_up_to i) before ws → Room (length labels) i ws
  words-room columns {i} room l r =
      record {
        few = room.few;
        all = r.long ∙ room.all;
        top = l;
        small = λ s h. rw (r.put s (omega (arith, columns.long))) (word_lt i _);
      }

  -- Stored in as many words as there are elements, they are the list that is promised.
  words-all : {before after : List ℕ} → length before ≡ length levels → Stored (length levels) (word_of entries levels labels) before after
      → after ≡ words entries levels labels
  words-all {before} {after} e r =
      ext_get_or 0 after _ (r.long ∙ e ∙ sym (words-length entries levels labels)) (λ s h.
      let l : s < length levels = omega (arith, r.long) in r.put s l ∙ sym (words-at entries levels labels s l))

  -- The words and their count, where they are the first of a lent buffer.
  pub marked-first : {lent before after : List ℕ} (n r : ℕ) → n ≡ length levels → n ≤ length lent → length before ≡ n
      → Stored (length levels) (word_of entries levels labels) before after → r ≡ selected (length entries) after
      → Marked entries levels labels lent r (after ++ drop n lent)
  marked-first {lent} n r e room long w c =
      let o = words-all (long ∙ e) w in
      let m : n ≡ length (words entries levels labels) = e ∙ sym (words-length entries levels labels) in
      record {
        marks_are = rw (o, m) (sym (over-is (words entries levels labels) lent (omega arith)));
        selected_is = c ∙ ap (selected (length entries)) o;
      }

-- ---- the entries of a rule

module _ (es : List Entry) (rule : RuleEntries es) where
  -- Its last entry's bit, as the machine works it out.
  pub last-bit : in_word (length es - 1) ≡ pred (length es)
  last-bit = mod-eq_of_lt (omega (arith, rule.nonempty, rule.few)) ∙ pred-sub (length es)

  -- The numbers of an entry are below its own, where they are entry numbers.
  pub entry_fits : (i : ℕ) → i < length es → numbers_of (shape_of (get_or es i no_entry).kind) ≡ Entries
      → ((get_or es i no_entry).a < i) × ((get_or es i no_entry).b < i)
  entry_fits i l h = formed-entries i (get_or es i no_entry) (rule.formed i l) (numbers-are (get_or es i no_entry).kind ∙ h)

  -- After the last entry each word is its element's.
  pub words-end : (levels labels : List ℕ) {before ws : List ℕ} (i : ℕ) → i ≡ length es
      → Stored (length levels) (word_up_to levels labels es i) before ws → Stored (length levels) (word_of es levels labels) before ws
  unfolding word_of
  words-end levels labels i e r = stored_same (length levels) _ (λ s l. ap (λ (k : ℕ). word_up_to levels labels es k s) e) r
