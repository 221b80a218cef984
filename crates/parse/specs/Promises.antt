-- Working definitions: nothing here has to be believed.
-- What each function promises at a cursor, over every stack below it, and of the tree that it read. Callers of the crate use `TreeRead`
-- alone; the rest need not be believed.
-- Laws: proofs/PartLaws.antt, proofs/TreeLaws.antt, proofs/ReadLaws.antt (one result only). Assumes nothing.
use Rattle.parse.specs.declared.tree.Row.{Row}
use Rattle.std.specs.Prelude.{ℕ, zero, suc, ◌+◌, ◌*◌, ◌≤◌, ◌<◌, ◌≡◌, Bool, false, List, [], ◌∷◌, length, drop, Result, Ok, Err}
use Rattle.paths.specs.Syntax.{Test, Path, Step, GoodT, GoodP, GoodS}
use Rattle.paths.specs.Spelling.{greater, sign, pieces_t, pieces_p, pieces_s, text_of, Text, StopsAt}
use Rattle.paths.specs.Translation.{table_of}
use Rattle.terms.specs.Answer.{Refused}
use Rattle.paths.specs.Answer.{text_most, TextOf, bytes_for, TextGets}
use Rattle.paths.proofs.Machine.{Expected, test, path, run}
use Rattle.paths.proofs.Ahead.{wordy_t, wordy_s, ahead}
use Rattle.paths.proofs.Count.{weight_t, weight_p, weight_s, record_length}
use Rattle.paths.proofs.Descent.{Reads, Stops}
use Rattle.words.specs.declared.words.Stray.{Stray}
use Rattle.words.proofs.Reading.{WordAt, StepReads}
use Rattle.parse.specs.declared.tree.Parsed.{Parsed}
use Rattle.parse.specs.declared.tree.Parsed.TheVariants.{Done, Bad}
use Rattle.parse.specs.declared.tree.Counts.{Counts}
use Rattle.spell.specs.Forms.{form_entries, form_bytes}
use Rattle.parse.specs.Rows.{no_rows, note_row, note_t, note_p, note_s}

-- A cursor in a text, behind k entries: it is not past the end, and there is a byte before it for each of them.
abbrev pub At : (s : List ℕ) (at k : ℕ) → Type 0
At s at k = (at ≤ length s) × (length s ≤ text_most) × (k ≤ at)

-- ---- trees

-- The bytes s are the text of a test, and then r; it counts so much, and is noted behind k entries.
pub record TestIs (w : Bool) (s r : List ℕ) (behind : Bool) (entries bytes k : ℕ) (rows after : List Row) : Type 0 where
  pub tree : Test
  pub labels : GoodT tree
  pub ends : behind ≡ wordy_t tree
  pub reads : s ≡ ahead w (pieces_t tree []) r
  pub counts : entries ≡ weight_t (λ k. 1) tree
  pub weighs : bytes ≡ weight_t record_length tree
  pub noted : after ≡ note_t tree k rows

-- .. of a path and its `>`, and then r.
pub record PathIs (s r : List ℕ) (entries bytes k : ℕ) (rows after : List Row) : Type 0 where
  pub tree : Path
  pub labels : GoodP tree
  pub reads : s ≡ ahead false (pieces_p tree (sign greater ∷ [])) r
  pub counts : entries ≡ weight_p (λ k. 1) tree
  pub weighs : bytes ≡ weight_p record_length tree
  pub noted : after ≡ note_p tree k 0 rows

-- .. of a step, and then r; the step before it is in row `before`.
pub record StepIs (s r : List ℕ) (behind : Bool) (entries bytes k before : ℕ) (rows after : List Row) : Type 0 where
  pub tree : Step
  pub labels : GoodS tree
  pub ends : behind ≡ wordy_s tree
  pub reads : s ≡ ahead false (pieces_s tree []) r
  pub counts : entries ≡ weight_s (λ k. 1) tree
  pub weighs : bytes ≡ weight_s record_length tree
  pub noted : after ≡ note_s tree k before rows

-- Bytes were read, at least one for each entry, and no record is longer than 8.
pub record Fits (s : List ℕ) (at end entries bytes : ℕ) : Type 0 where
  pub on : at < end
  pub within : end ≤ length s
  pub entries_fit : at + entries ≤ end
  pub bytes_fit : bytes ≤ 8 * entries

abbrev pub TestParsed : (after : Bool) (s : List ℕ) (at k : ℕ) (rows : List Row) → Parsed → List Row → Type 0
TestParsed w s at k rows (Done e v n b) rows' =
    Fits s at e n b × Reads w test (drop at s) v (drop e s) × TestIs w (drop at s) (drop e s) v n b k rows rows'
TestParsed w s at k rows (Bad p) rows' = (p ≤ length s) × Stops w test (drop at s) (drop p s)

abbrev pub PathParsed : (s : List ℕ) (at k : ℕ) (rows : List Row) → Parsed → List Row → Type 0
PathParsed s at k rows (Done e v n b) rows' =
    Fits s at e n b × (v ≡ false) × Reads false path (drop at s) false (drop e s) × PathIs (drop at s) (drop e s) n b k rows rows'
PathParsed s at k rows (Bad p) rows' = (p ≤ length s) × Stops false path (drop at s) (drop p s)

abbrev pub StepParsed : (s : List ℕ) (at k before : ℕ) (rows : List Row) → Parsed → List Row → Type 0
StepParsed s at k before rows (Done e v n b) rows' =
    Fits s at e n b × StepReads (drop at s) v (drop e s) × StepIs (drop at s) (drop e s) v n b k before rows rows'
StepParsed s at k before rows (Bad p) rows' = (p ≤ length s) × Stops false path (drop at s) (drop p s)

-- The steps of a path so far: its rest is read from here as the whole would be from its beginning. `whole` puts these steps in front of
-- a path.
pub record Went (s : List ℕ) (at k : ℕ) (rows : List Row) (from entries bytes before : ℕ) (now : List Row) : Type 0 where
  pub on : at ≤ from
  pub within : from ≤ length s
  pub entries_fit : at + entries ≤ from
  pub bytes_fit : bytes ≤ 8 * entries
  pub goes : (K : List Expected) → run false (path ∷ K) (drop at s) ≡ run false (path ∷ K) (drop from s)
  pub whole : Path → Path
  pub labels : (p : Path) → GoodP p → GoodP (whole p)
  pub reads : (p : Path) (r : List ℕ) → drop from s ≡ ahead false (pieces_p p (sign greater ∷ [])) r → drop at s ≡ ahead false (pieces_p (whole p) (sign greater ∷ [])) r
  pub counts : (p : Path) → weight_p (λ k. 1) (whole p) ≡ entries + weight_p (λ k. 1) p
  pub weighs : (p : Path) → weight_p record_length (whole p) ≡ bytes + weight_p record_length p
  pub noted : (p : Path) → note_p (whole p) k 0 rows ≡ note_p p (k + entries) before now

-- ---- what is made of a part

-- The bytes of a record of a test of one word.
unfoldable pub leaf_bytes : ℕ → ℕ
leaf_bytes zero = 4
leaf_bytes (suc n) = 6

abbrev pub Small : Parsed → Type 0
Small (Done e v n b) = (n ≤ text_most) × (b ≤ 8 * text_most)
Small (Bad p) = Unit {0}

abbrev pub Ends : List ℕ → Parsed → Type 0
Ends s (Done e v n b) = e ≤ length s
Ends s (Bad p) = Unit {0}

abbrev pub closed_by : Result ℕ Stray → (entries bytes : ℕ) → Parsed
closed_by (Ok e) n b = Done e false n b
closed_by (Err p) n b = Bad p.place

abbrev pub Shut : (x s : List ℕ) → Parsed → Parsed → Type 0
Shut x s (Done e v n b) r = (k : Result ℕ Stray) × WordAt x s e k × (r ≡ closed_by k n b)
Shut x s (Bad p) r = r ≡ Bad p

abbrev pub Closing : Parsed → Parsed → Type 0
Closing (Done e v n b) r = r ≡ Done e v (n + 1) (b + 4)
Closing (Bad p) r = r ≡ Bad p

abbrev pub Excepted : Parsed → (k : ℕ) (rows : List Row) → Parsed → List Row → Type 0
Excepted (Done e v n b) k rows r rows' = (r ≡ Done e v (n + 1) (b + 6)) × (rows' ≡ note_row rows (k + n + 1) 3 (k + n) 0)
Excepted (Bad p) k rows r rows' = r ≡ Bad p

abbrev pub EitherOf : Parsed → (k n b : ℕ) (rows : List Row) → Parsed → List Row → Type 0
EitherOf (Done e v m c) k n b rows r rows' = (r ≡ Done e v (m + n + 1) (c + b + 8)) × (rows' ≡ note_row rows (k + m + 1) 4 k (k + m))
EitherOf (Bad p) k n b rows r rows' = r ≡ Bad p

abbrev pub StepOf : Parsed → (k form before : ℕ) (rows : List Row) → Parsed → List Row → Type 0
StepOf (Done e v n b) k form before rows r rows' =
    (r ≡ Done e v (n + form_entries form) (b + form_bytes form)) × (rows' ≡ note_row rows (k + n + form_entries form) form (k + n) before)
StepOf (Bad p) k form before rows r rows' = r ≡ Bad p

-- ---- the text

-- The bytes are the text of a tree, which counts so much and is noted; or they stop being a text at the place.
abbrev pub Read : (s : List ℕ) (rows : List Row) → Result Counts Stray → List Row → Type 0
Read s rows (Ok n) rows' =
    (t : Test) × GoodT t × (s ≡ text_of t) × (n.entries ≡ length (table_of t)) × (n.bytes ≡ length (bytes_for t)) × (rows' ≡ note_t t 0 rows)
Read s rows (Err p) rows' = (Text s → ⊥) × StopsAt s p.place

-- The string has 1 to 1,024 bytes and is the text of a tree: so many entries, so many bytes of rule, and the rows of the tree. Or it gets
-- 13 at the place, whatever the room, and no row is filled.
abbrev pub TreeRead : (s : List ℕ) → Result Counts Stray → (rows : List Row) → Type 0
TreeRead s (Ok n) rows =
    (t : Test) × TextOf s t × (n.entries ≡ length (table_of t)) × (n.bytes ≡ length (bytes_for t)) × (rows ≡ note_t t 0 no_rows)
TreeRead s (Err p) rows = TextGets s (Refused 13 p.place) [] × (rows ≡ no_rows)
