-- Laws of the parsers that call each other: one for each return, over plain lists and numbers. Assumes nothing.
use Prim.Native.Nat.{ℕ, zero, suc, ◌+◌, ◌*◌, ◌≤◌, ◌<◌}
use native.Mathlib.Omega.{arith}
use mathlib.Core.Path.{◌≡◌, refl, sym, ap, ◌∙◌}
use mathlib.Core.Bool.{Bool, true, false}
use mathlib.Core.List.{List, [], ◌∷◌, ◌++◌}
use borrow.Author.Tests.{ne_eqb}
use lib.ListN.{length, drop}
use Rattle.parse.specs.declared.tree.Row.{Row}
use Rattle.terms.specs.Kinds.{row_of}
use Rattle.terms.specs.declared.kind.Axis.{Axis}
use Rattle.terms.specs.declared.kind.Axis.TheVariants.{Child as child, Parent as parent, Next as right, Previous as left}
use Rattle.paths.specs.Syntax.{Test, except, either, begins, Path, only, ◌then◌, Step, along, along*, passing, while, GoodT, GoodS}
use Rattle.paths.specs.Spelling.{word, sign, closing, greater, slash, star, axis_word, or_word, not_word, gap, pieces_t, pieces_p, pieces_s, sign_byte}
use Rattle.paths.specs.Translation.{neighbour_kind, until_kind}
use Rattle.paths.proofs.Machine.{Expected, byte, test, alternative, path, after_step, run, next, choices, pick, ended, is_word, is_digit, stopped}
use Rattle.paths.proofs.Ahead.{ahead, wordy_t, wordy_s, ahead-test, ahead_step}
use Rattle.paths.proofs.Count.{weight_t, weight_s, while_weight, record_length}
use Rattle.paths.proofs.Complete.{run-or}
use Rattle.paths.proofs.Descent.{spelt, test-opens, test_path, step-test, path-on, path-ends}
use Rattle.std.specs.Prelude.{Ok, Err}
use Rattle.words.specs.declared.words.Stray.{Stray}
use Rattle.words.specs.declared.begins.Begin.TheVariants as B
use Rattle.words.specs.declared.begins.Start.TheVariants as S
use Rattle.parse.specs.declared.tree.Parsed.{Parsed}
use Rattle.parse.specs.declared.tree.Parsed.TheVariants.{Done, Bad}
use Rattle.spell.specs.Forms.{form_entries, form_bytes}
use Rattle.spell.proofs.FormLaws.{entries-few, bytes-few}
use Rattle.parse.specs.Rows.{note_row, form_of, test_entries, test_bytes, step_row, note_t, note_p, note_s, entries_t, entries_s}
use Rattle.parse.specs.Promises.{leaf_bytes, Ends, Shut, Closing, Excepted, EitherOf, StepOf, TestParsed, PathParsed, StepParsed, Went}
use Rattle.words.specs.Words.{head_of}
use Rattle.words.specs.Begins.{leaf_tree}
use Rattle.words.proofs.Reading.{OrAt, LeafAt, BeginsAt, StartAt, StepReads, plain_step, plain_form}
use Rattle.words.proofs.WordLaws.{front}

-- ---- what a caller needs of a part: it ends within the bytes

module _ (s : List ℕ) (at k : ℕ) (rows : List Row) where
  pub test-ends : (w : Bool) (p : Parsed) (after : List Row) → TestParsed w s at k rows p after → Ends s p
  test-ends w (Done e v n b) after (f, g, t) = f.within
  test-ends w (Bad q) after h = tt

-- ---- `true`, label N

leaf-counts : (label : ℕ)
    → (1 ≡ weight_t (λ k. 1) (leaf_tree label)) × (leaf_bytes label ≡ weight_t record_length (leaf_tree label)) × (true ≡ wordy_t (leaf_tree label)) × (leaf_bytes label ≤ 8)
unfolding leaf_tree leaf_bytes weight_t wordy_t record_length row_of
leaf-counts zero = (refl, refl, refl, omega arith)
leaf-counts (suc l) = (refl, refl, refl, omega arith)

pub leaf-law : (w : Bool) (s : List ℕ) (at k e label : ℕ) (rows after : List Row) (r : Parsed) → LeafAt w s at e label
    → r ≡ Done e true 1 (leaf_bytes label) → after ≡ note_t (leaf_tree label) k rows → TestParsed w s at k rows r after
leaf-law w s at k e label rows after r x z h =
    let (i, j, q, m) = leaf-counts label in
    rw z (
      record { on = x.on; within = x.within; entries_fit = omega (arith, x.on); bytes_fit = omega arith },
      x.goes,
      record { tree = leaf_tree label; labels = x.good; ends = q; reads = x.reads; counts = i; weighs = j; noted = h },
    )

-- ---- not TEST, <PATH>

module _ (w : Bool) (s : List ℕ) (at k : ℕ) (rows after : List Row) (r : Parsed) where
  pub except-law : (f : ℕ) (p : Parsed) (mid : List Row) → BeginsAt w s at (Ok (B.Not f)) → TestParsed true s f k rows p mid → Excepted p k mid r after
      → TestParsed w s at k rows r after
  unfolding ahead pieces_t wordy_t weight_t GoodT record_length row_of note_t
  except-law f (Done e v m b) mid (l, i, q, g) (x, y, t) (z, h) =
      rw z (
        record { on = omega arith; within = x.within; entries_fit = omega arith; bytes_fit = omega arith },
        λ K. g K ∙ y K,
        record {
          tree = except t.tree;
          labels = t.labels;
          ends = t.ends;
          reads = q ∙ ap (λ (x : List ℕ). gap w ++ (not_word ++ x)) t.reads;
          counts = omega (arith, t.counts);
          weighs = omega (arith, t.weighs);
          noted = h ∙ rw (t.noted, t.counts);
        },
      )
  except-law f (Bad x) mid (l, i, q, g) (m, y) z = rw z (m, λ K. g K ∙ y K)

  pub begins-law : (p : Parsed) → head_of (drop at s) ≡ 60 → PathParsed s (at + 1) (k + 1) rows p after → Closing p r → TestParsed w s at k rows r after
  unfolding ahead pieces_t wordy_t weight_t GoodT record_length row_of sign_byte note_t
  begins-law (Done e v m b) h (f, i, g, t) z =
      let (l, q) = front s at 60 h (omega arith) in
      rw (z, i) (
        record { on = omega arith; within = f.within; entries_fit = omega arith; bytes_fit = omega arith },
        λ K. rw q (test_path w K (drop (at + 1) s)) ∙ g K,
        record {
          tree = begins t.tree;
          labels = t.labels;
          ends = refl;
          reads = q ∙ ap (◌∷◌ 60) t.reads;
          counts = omega (arith, t.counts);
          weighs = omega (arith, t.weighs);
          noted = t.noted;
        },
      )
  begins-law (Bad x) h (m, g) z =
      let q = (front s at 60 h (omega arith)).1 in rw z (m, λ K. rw q (test_path w K (drop (at + 1) s)) ∙ g K)

-- ---- (TEST or TEST)

closes : (l : List ℕ) (v : Bool) (K : List Expected) → run v (byte 41 ∷ K) (41 ∷ l) ≡ run false K l
unfolding run next choices pick is_word is_digit
closes l v K = refl

closed : (m l : List ℕ) (v : Bool) (K : List Expected) → m ≡ 41 ∷ l → run v (byte 41 ∷ K) m ≡ run false K l
closed m l v K q = rw q (closes l v K)

or-text : (w : Bool) (t u : Test) (r : List ℕ)
    → 40 ∷ ahead false (pieces_t t []) (gap (wordy_t t) ++ (or_word ++ ahead true (pieces_t u []) (41 ∷ r))) ≡ ahead w (pieces_t (either t u) []) r
unfolding ahead pieces_t sign_byte
or-text w t u r = rw (ahead-test t false (word or_word ∷ pieces_t u (sign closing ∷ [])) r, ahead-test u true (sign closing ∷ []) r)

either-text : (w : Bool) (t u : Test) (v : Bool) {s0 s1 s2 s3 s4 : List ℕ} (r : List ℕ) → s0 ≡ 40 ∷ s1 → s1 ≡ ahead false (pieces_t t []) s2
    → s2 ≡ gap v ++ (or_word ++ s3) → v ≡ wordy_t t → s3 ≡ ahead true (pieces_t u []) s4 → s4 ≡ 41 ∷ r → s0 ≡ ahead w (pieces_t (either t u) []) r
either-text w t u v r e0 e1 e2 ev e3 e4 = rw (e0, e1, e2, ev, e3, e4) (or-text w t u r)

-- Both sides noted, and the whole.
either-noted : (t u : Test) (k n m : ℕ) (rows mid next after : List Row) → n ≡ entries_t t → m ≡ entries_t u → mid ≡ note_t t k rows → next ≡ note_t u (k + n) mid
    → after ≡ note_row next (k + n + m + 1) 4 (k + n) (k + n + m) → after ≡ note_t (either t u) k rows
unfolding note_t
either-noted t u k n m rows mid next after i j a b c = c ∙ rw (b, a, i, j)

module _ (w : Bool) (s : List ℕ) (at k : ℕ) (rows : List Row) (h : head_of (drop at s) ≡ 40) where
  opened : (K : List Expected) → run w (test ∷ K) (drop at s) ≡ run false (test ∷ alternative ∷ test ∷ byte 41 ∷ K) (drop (at + 1) s)
  opened K = let q = (front s at 40 h (omega arith)).1 in rw q (test-opens w K (drop (at + 1) s))

  -- (Of a part that stops nothing is said of the rows, so any stand for them.)
  pub either_left : (p : ℕ) → TestParsed false s (at + 1) k rows (Bad p) rows → TestParsed w s at k rows (Bad p) rows
  either_left p (m, g) = (m, λ K. opened K ∙ g _)

  module _ (e n b : ℕ) (v : Bool) (mid : List Row) (x : TestParsed false s (at + 1) k rows (Done e v n b) mid) where
    pub either-word : (p : Stray) → OrAt v s e (Err p) → TestParsed w s at k rows (Bad p.place) rows
    either-word p (m, g) = (m, λ K. opened K ∙ x.1 _ ∙ g _)

    module _ (f : ℕ) (o : OrAt v s e (Ok f)) where
      read-or : (K : List Expected) → run w (test ∷ K) (drop at s) ≡ run true (test ∷ byte 41 ∷ K) (drop f s)
      read-or K = opened K ∙ x.1 _ ∙ or-read _ where
        or-read : (K : List Expected) → run v (alternative ∷ K) (drop e s) ≡ run true K (drop f s)
        or-read K = let q = o.2 in rw q (run-or K v (drop f s))

      either-done : (d j c : ℕ) (u : Bool) (next after : List Row) (m r : Parsed) → TestParsed true s f (k + n) mid (Done d u j c) next
          → EitherOf (Done d u j c) (k + n) n b next m after → Shut (41 ∷ []) s (Done d u (j + n + 1) (c + b + 8)) r → TestParsed w s at k rows r after
      unfolding wordy_t weight_t GoodT record_length row_of spelt
      either-done d j c u next after m r (l, g, t) y (Err q, (a, z), i) = rw i (a, λ K. read-or K ∙ g _ ∙ z u K)
      either-done d j c u next after m r (l, g, t) y (Ok a, (k1, k2, k3), i) =
          let left = x.2 in
          rw i (
            record {
              on = omega (arith, x.0.on, l.on, o.0);
              within = k2;
              entries_fit = omega (arith, x.0.entries_fit, l.entries_fit, o.0);
              bytes_fit = omega (arith, x.0.bytes_fit, l.bytes_fit);
            },
            λ K. read-or K ∙ g _ ∙ closed (drop d s) (drop a s) u K k3,
            record {
              tree = either left.tree t.tree;
              labels = (left.labels, t.labels);
              ends = refl;
              reads = either-text w left.tree t.tree v (drop a s) (front s at 40 h (omega arith)).1 left.reads o.2 left.ends t.reads k3;
              counts = omega (arith, left.counts, t.counts);
              weighs = omega (arith, left.weighs, t.weighs);
              noted = either-noted left.tree t.tree k n j rows mid next after left.counts t.counts left.noted t.noted y.1;
            },
          )

      pub either-law : (p m r : Parsed) (next after : List Row) → TestParsed true s f (k + n) mid p next → EitherOf p (k + n) n b next m after
          → Shut (41 ∷ []) s m r → TestParsed w s at k rows r after
      either-law (Bad q) m r next after (l, g) z y = let i : r ≡ Bad q = rw z at y in rw i (l, λ K. read-or K ∙ g _)
      either-law (Done d u j c) m r next after x z y = let i = z.0 in either-done d j c u next after m r x z (rw i at y)

-- ---- STEP>, STEP/PATH

path-stray : (l : List ℕ) (v : Bool) (K : List Expected) → (head_of l ≡ 47 → ⊥) → (head_of l ≡ 62 → ⊥) → run v (after_step ∷ K) l ≡ stopped l
unfolding head_of run next choices pick ended
path-stray [] v K h1 h2 = refl
path-stray (b ∷ l) v K h1 h2 = rw (ne_eqb b 47 h1, ne_eqb b 62 h2)

module _ (s : List ℕ) (at k : ℕ) (rows : List Row) where
  -- No step so far.
  pub went-none : at ≤ length s → Went s at k rows at 0 0 0 rows
  went-none l =
      let z : k + 0 ≡ k = omega arith in
      record {
        on = omega arith;
        within = l;
        entries_fit = omega arith;
        bytes_fit = omega arith;
        goes = λ K. refl;
        whole = λ p. p;
        labels = λ p g. g;
        reads = λ p r e. e;
        counts = λ p. omega arith;
        weighs = λ p. omega arith;
        noted = λ p. rw z;
      }

  module _ (from entries bytes before : ℕ) (now : List Row) (x : Went s at k rows from entries bytes before now) where
    pub path-stops : (p : ℕ) → StepParsed s from (k + entries) before now (Bad p) now → PathParsed s at k rows (Bad p) rows
    path-stops p (l, g) = (l, λ K. x.goes K ∙ g K)

    module _ (e n b : ℕ) (v : Bool) (after : List Row) (y : StepParsed s from (k + entries) before now (Done e v n b) after) where
      pub path-bad : (head_of (drop e s) ≡ 47 → ⊥) → (head_of (drop e s) ≡ 62 → ⊥) → PathParsed s at k rows (Bad e) rows
      path-bad h1 h2 = (y.0.within, λ K. x.goes K ∙ y.1 K ∙ path-stray (drop e s) v K h1 h2)

      on_read : head_of (drop e s) ≡ 47 → (K : List Expected) → run v (after_step ∷ K) (drop e s) ≡ run false (path ∷ K) (drop (e + 1) s)
      on_read c K = let q = (front s e 47 c (omega arith)).1 in rw q (path-on v K (drop (e + 1) s))

      end_read : head_of (drop e s) ≡ 62 → (K : List Expected) → run v (after_step ∷ K) (drop e s) ≡ run false K (drop (e + 1) s)
      end_read c K = let q = (front s e 62 c (omega arith)).1 in rw q (path-ends v K (drop (e + 1) s))

      pub path-ended : head_of (drop e s) ≡ 62 → PathParsed s at k rows (Done (e + 1) false (entries + n) (bytes + b)) after
      unfolding ahead pieces_t weight_t GoodT sign_byte note_t
      path-ended c =
          let (l, q) = front s e 62 c (omega arith) in
          let t = y.2 in (
            record {
              on = omega (arith, x.on, y.0.on);
              within = omega arith;
              entries_fit = omega (arith, x.entries_fit, y.0.entries_fit);
              bytes_fit = omega (arith, x.bytes_fit, y.0.bytes_fit);
            },
            refl,
            λ K. x.goes K ∙ y.1 K ∙ end_read c K,
            record {
              tree = x.whole (only t.tree);
              labels = x.labels (only t.tree) t.labels;
              reads = x.reads (only t.tree) (drop (e + 1) s) (t.reads ∙ rw (q, ahead_step t.tree false (sign greater ∷ []) (drop (e + 1) s)));
              counts = omega (arith, x.counts (only t.tree), t.counts);
              weighs = omega (arith, x.weighs (only t.tree), t.weighs);
              noted = t.noted ∙ sym (x.noted (only t.tree));
            },
          )

      -- One step more, and its `/`.
      pub went-more : head_of (drop e s) ≡ 47 → Went s at k rows (e + 1) (entries + n) (bytes + b) (k + (entries + n)) after
      unfolding ahead pieces_t weight_t GoodT sign_byte note_t
      went-more c =
          let (l, q) = front s e 47 c (omega arith) in
          let t = y.2 in
          let st = t.tree in
          record {
            on = omega (arith, x.on, y.0.on);
            within = omega arith;
            entries_fit = omega (arith, x.entries_fit, y.0.entries_fit);
            bytes_fit = omega (arith, x.bytes_fit, y.0.bytes_fit);
            goes = λ K. x.goes K ∙ y.1 K ∙ on_read c K;
            whole = λ p. x.whole (◌then◌ st p);
            labels = λ p g. x.labels (◌then◌ st p) (t.labels, g);
            reads = λ p r h.
                x.reads (◌then◌ st p) r (t.reads ∙ rw (q, h, ahead_step st false (sign slash ∷ pieces_p p (sign greater ∷ [])) r));
            counts = λ p. omega (arith, x.counts (◌then◌ st p), t.counts);
            weighs = λ p. omega (arith, x.weighs (◌then◌ st p), t.weighs);
            noted = λ p. x.noted (◌then◌ st p) ∙ more-noted p st t.counts t.noted;
          } where
            more-noted : (p : Path) (st : Step) → n ≡ entries_s st → after ≡ note_s st (k + entries) before now
                → (let m = k + entries + entries_s st in note_p p m m (note_s st (k + entries) before now)) ≡ note_p p (k + (entries + n)) (k + (entries + n)) after
            more-noted p st i h = let z : k + (entries + n) ≡ k + entries + entries_s st = omega arith in rw (z, h)

-- ---- ?TEST, (AXIS?TEST)*

star-closes : (l : List ℕ) (v : Bool) (K : List Expected) → run v (byte 41 ∷ byte 42 ∷ K) (41 ∷ 42 ∷ l) ≡ run false K l
unfolding run next choices pick is_word is_digit
star-closes l v K = refl

star-closed : (m l : List ℕ) (v : Bool) (K : List Expected) → m ≡ 41 ∷ 42 ∷ l → run v (byte 41 ∷ byte 42 ∷ K) m ≡ run false K l
star-closed m l v K q = rw q (star-closes l v K)

while-text : (a : Axis) (t : Test) {s0 s1 s2 : List ℕ} (r : List ℕ) → s0 ≡ 40 ∷ (axis_word a ++ (63 ∷ s1)) → s1 ≡ ahead false (pieces_t t []) s2 → s2 ≡ 41 ∷ 42 ∷ r
    → s0 ≡ ahead false (pieces_s (while a t) []) r
unfolding ahead pieces_t sign_byte
while-text a t r e0 e1 e2 = rw (e0, e1, e2, ahead-test t false (sign closing ∷ sign star ∷ []) r)

-- The table with the test of a step noted, if it has one.
unfoldable pub note_test : Step → (k : ℕ) → List Row → List Row
note_test (along x) k rows = rows
note_test (along* x) k rows = rows
note_test (passing t) k rows = note_t t k rows
note_test (while x t) k rows = note_t t k rows

-- What a step counts: what its test does, and its own, which its form tells.
pub record Own (st : Step) : Type 0 where
  pub entries : weight_s (λ k. 1) st ≡ test_entries st + form_entries (form_of st)
  pub bytes : weight_s record_length st ≡ test_bytes st + form_bytes (form_of st)
  pub rows : (k before : ℕ) (rows : List Row) → note_s st k before rows ≡ step_row st k before (note_test st k rows)

pub step-own : (st : Step) → Own st
unfolding form_entries form_bytes form_of test_entries test_bytes weight_t while_weight neighbour_kind until_kind record_length row_of note_t note_test
step-own (along child) = record { entries = refl; bytes = refl; rows = λ k b rows. refl }
step-own (along parent) = record { entries = refl; bytes = refl; rows = λ k b rows. refl }
step-own (along right) = record { entries = refl; bytes = refl; rows = λ k b rows. refl }
step-own (along left) = record { entries = refl; bytes = refl; rows = λ k b rows. refl }
step-own (along* child) = record { entries = refl; bytes = refl; rows = λ k b rows. refl }
step-own (along* parent) = record { entries = refl; bytes = refl; rows = λ k b rows. refl }
step-own (along* right) = record { entries = refl; bytes = refl; rows = λ k b rows. refl }
step-own (along* left) = record { entries = refl; bytes = refl; rows = λ k b rows. refl }
step-own (passing t) = record { entries = refl; bytes = refl; rows = λ k b rows. refl }
step-own (while child t) = record { entries = refl; bytes = refl; rows = λ k b rows. refl }
step-own (while parent t) = record { entries = refl; bytes = refl; rows = λ k b rows. refl }
step-own (while right t) = record { entries = refl; bytes = refl; rows = λ k b rows. refl }
step-own (while left t) = record { entries = refl; bytes = refl; rows = λ k b rows. refl }

-- A step without a test: its form, and that it has nothing of a test.
record PlainOwn (behind : Bool) (a : Axis) : Type 0 where
  labels : GoodS (plain_step behind a)
  ends : behind ≡ wordy_s (plain_step behind a)
  is_form : plain_form behind a ≡ form_of (plain_step behind a)
  no_entries : 0 ≡ test_entries (plain_step behind a)
  no_bytes : 0 ≡ test_bytes (plain_step behind a)
  no-rows : (k : ℕ) (rows : List Row) → rows ≡ note_test (plain_step behind a) k rows

plain-own : (behind : Bool) (a : Axis) → PlainOwn behind a
unfolding wordy_t GoodT form_of test_entries test_bytes note_test
plain-own true a = record { labels = tt; ends = refl; is_form = refl; no_entries = refl; no_bytes = refl; no-rows = λ k rows. refl }
plain-own false a = record { labels = tt; ends = refl; is_form = refl; no_entries = refl; no_bytes = refl; no-rows = λ k rows. refl }

-- A step whose test was read: what is known of the text, of the tree and of its test's counts and rows.
module _ (s : List ℕ) (at k before e n b form : ℕ) (v : Bool) (rows mid after : List Row) (r : Parsed) (st : Step) where
  step-law : at < e → e ≤ length s → at + (n + form_entries form) ≤ e → b ≤ 8 * n → StepReads (drop at s) v (drop e s) → GoodS st → v ≡ wordy_s st
      → drop at s ≡ ahead false (pieces_s st []) (drop e s) → form ≡ form_of st → n ≡ test_entries st → b ≡ test_bytes st → mid ≡ note_test st k rows
      → StepOf (Done e v n b) k form before mid r after → StepParsed s at k before rows r after
  step-law on within few small goes good ends reads f i j h (z, c) =
      let o = step-own st in
      rw z (
        record { on = on; within = within; entries_fit = few; bytes_fit = omega (arith, bytes-few form) },
        goes,
        record {
          tree = st;
          labels = good;
          ends = ends;
          reads = reads;
          counts = counted f i;
          weighs = rw (f, j, o.bytes);
          noted = c ∙ filled f i ∙ sym (o.rows k before rows);
        },
      ) where
        counted : form ≡ form_of st → n ≡ test_entries st → n + form_entries form ≡ entries_s st
        counted f i = rw (f, i, (step-own st).entries)

        filled : form ≡ form_of st → n ≡ test_entries st → note_row mid (k + n + form_entries form) form (k + n) before ≡ step_row st k before (note_test st k rows)
        filled f i =
            let last : k + n + form_entries form ≡ k + entries_s st = omega (arith, counted f i) in rw (last, h, f, i)

module _ (s : List ℕ) (at k before : ℕ) (rows : List Row) where
  pub plain-law : (e : ℕ) (v : Bool) (form : ℕ) (r : Parsed) (after : List Row) → StartAt s at (Ok (S.Plain e v form)) → StepOf (Done e v 0 0) k form before rows r after
      → StepParsed s at k before rows r after
  plain-law e v form r after (l, m, g, p) c =
      let o = plain-own v p.named in
      step-law s at k before e 0 0 form v rows rows after r (plain_step v p.named) (omega arith) m (omega (arith, entries-few form)) (omega arith) g
      o.labels o.ends p.reads (p.is_form ∙ o.is_form) o.no_entries o.no_bytes (o.no-rows k rows) c

  asked : head_of (drop at s) ≡ 63 → (K : List Expected) → run false (path ∷ K) (drop at s) ≡ run false (test ∷ after_step ∷ K) (drop (at + 1) s)
  asked h K = let q = (front s at 63 h (omega arith)).1 in rw q (step-test false K (drop (at + 1) s))

  -- A step ?TEST has one entry of its own.
  one-own : (n e : ℕ) → at + 1 + n ≤ e → at + (n + form_entries 5) ≤ e
  unfolding form_entries
  one-own n e l = omega arith

  pub passing-law : (p r : Parsed) (mid after : List Row) → head_of (drop at s) ≡ 63 → TestParsed false s (at + 1) k rows p mid → StepOf p k 5 before mid r after
      → StepParsed s at k before rows r after
  unfolding ahead pieces_t wordy_t GoodT sign_byte form_of test_entries test_bytes note_test
  passing-law (Bad q) r mid after h (m, g) z = rw z (m, λ K. asked h K ∙ g _)
  passing-law (Done e v m b) r mid after h (f, g, t) z =
      let q = (front s at 63 h (omega arith)).1 in
      step-law s at k before e m b 5 v rows mid after r (passing t.tree) (omega (arith, f.on)) f.within (one-own m e f.entries_fit) f.bytes_fit
      (λ K. asked h K ∙ g _) t.labels t.ends (q ∙ ap (◌∷◌ 63) t.reads) refl t.counts t.weighs t.noted z

  module _ (f form : ℕ) (x : StartAt s at (Ok (S.While f form))) where
    pub while-law : (p m r : Parsed) (mid after : List Row) → TestParsed false s f k rows p mid → Shut (41 ∷ 42 ∷ []) s p m → StepOf m k form before mid r after
        → StepParsed s at k before rows r after
    unfolding wordy_t GoodT spelt form_of test_entries test_bytes note_test
    while-law (Bad q) m r mid after (l, g) i z = let e : r ≡ Bad q = rw i at z in rw e (l, λ K. x.2.goes K ∙ g _)
    while-law (Done d u j c) m r mid after (l, g, t) (Err q, (a, y), i) z =
        let e : r ≡ Bad q.place = rw i at z in rw e (a, λ K. x.2.goes K ∙ g _ ∙ y u _)
    while-law (Done d u j c) m r mid after (l, g, t) (Ok a, (k1, k2, k3), i) z =
        let w = x.2 in
        step-law s at k before a j c form false rows mid after r (while w.along t.tree) (omega (arith, x.0, l.on)) k2
        (omega (arith, x.0, l.entries_fit, entries-few form)) l.bytes_fit (λ K. w.goes K ∙ g _ ∙ star-closed (drop d s) (drop a s) u _ k3) t.labels refl
        (while-text w.along t.tree (drop a s) w.reads t.reads k3) w.is_form t.counts t.weighs t.noted (rw i at z)
