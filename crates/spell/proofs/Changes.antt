-- Changes of a table made one behind the other, in a buffer that has room for all of them. Assumes nothing.
use Prim.Native.Nat.{ℕ, ◌≤◌, pred}
use native.Mathlib.Omega.{arith}
use mathlib.Core.Path.{◌≡◌, sym, ap, ◌∙◌}
use mathlib.Core.List.{List}
use lib.ListN.{length}
use lib.Seq.{length-sets}
use Rattle.entry.specs.declared.entry.Entry.{Entry}
use Rattle.grammar.specs.Rules.{rule_bytes}
use Rattle.paths.specs.Translation.{last_of}
use Rattle.spell.specs.declared.own.Written.{Written}
use Rattle.spell.specs.Filled.{Change, Filled, Asks, Puts}
use Rattle.terms.specs.Limits.{entries_most}
use Rattle.numbers.specs.Lists.{put_at}

-- ---- growth

-- A change takes no entry away, and no byte.
pub record Grows (f : Change) : Type 0 where
  pub longer : (es : List Entry) → length es ≤ length (f es)
  pub larger : (es : List Entry) → length (rule_bytes es) ≤ length (rule_bytes (f es))

-- Doing nothing does so,
pub grows_none : Grows (λ es. es)
grows_none = record { longer = λ es. omega arith; larger = λ es. omega arith }

-- and so do two changes, each by the number of the entry that was the last before both.
pub grows_then : (f g : ℕ → Change) → ((i : ℕ) → Grows (f i)) → ((i : ℕ) → Grows (g i)) → Grows (λ es. g (last_of es) (f (last_of es) es))
grows_then f g p q =
    record {
      longer = λ es. let i = last_of es in omega (arith, (p i).longer es, (q i).longer (f i es));
      larger = λ es. let i = last_of es in omega (arith, (p i).larger es, (q i).larger (f i es));
    }

-- What grows, a change that makes the same of every table does.
pub grows-as : {f g : Change} → ((es : List Entry) → f es ≡ g es) → Grows g → Grows f
grows-as e p = record { longer = λ es. rw (e es) (p.longer es); larger = λ es. rw (e es) (p.larger es) }

-- ---- one change

-- A filled buffer is as long as it was before.
filled-length : {before : List ℕ} {es : List Entry} {rule : List ℕ} {w : Written} → Filled before es rule w → length rule ≡ length before
unfolding put_at
filled-length {before} {es} p = ap length p.bytes_are.bytes_are ∙ length-sets before 0 (rule_bytes es)

-- What is asked for one change is asked for another that makes the same of every table,
pub asks-as : {f g : Change} {rule : List ℕ} {w : Written} → ((es : List Entry) → f es ≡ g es) → Asks f rule w → Asks g rule w
asks-as {f} {g} {rule} {w} e a =
    record {
      before = a.before;
      es = a.es;
      filled = a.filled;
      few = rw (e a.es) at a.few;
      room = rw (e a.es) at a.room;
    }

-- and what one has put, the other has.
pub puts-as : {f g : Change} {rule rule' : List ℕ} {w w' : Written} → ((es : List Entry) → f es ≡ g es)
    → Puts g rule w rule' w' → Puts f rule w rule' w'
puts-as e p = record { more = p.more; fills = λ before es x. rw (e es) (p.fills before es x) }

-- Where there is room for a change that grows, no more than 64 entries are written.
pub asks-few : {f : Change} {rule : List ℕ} {w : Written} → Grows f → Asks f rule w → w.entries ≤ entries_most
asks-few g a = omega (arith, a.filled.entries_are, g.longer a.es, a.few)

-- The number of the last entry that is written.
abbrev pub last_in : Written → ℕ
last_in w = pred w.entries

-- .. is that of the table's last entry.
last-is : {before : List ℕ} {es : List Entry} {rule : List ℕ} {w : Written} {i : ℕ} → i ≡ last_in w → Filled before es rule w → i ≡ last_of es
last-is e p = e ∙ ap pred p.entries_are

-- A change by the number of the last entry, where the number is told.
module _ (f : ℕ → Change) {rule : List ℕ} {w : Written} {i : ℕ} (e : i ≡ last_in w) where
  pub asks-last : Asks (λ es. f (last_of es) es) rule w → Asks (f i) rule w
  asks-last a =
      let d = last-is e a.filled in
      record {
        before = a.before;
        es = a.es;
        filled = a.filled;
        few = rw d a.few;
        room = rw d a.room;
      }

  pub puts-last : {rule' : List ℕ} {w' : Written} → Puts (f i) rule w rule' w' → Puts (λ es. f (last_of es) es) rule w rule' w'
  puts-last p = record { more = p.more; fills = λ before es x. rw (sym (last-is e x)) (p.fills before es x) }

-- ---- two changes

-- A change f, and then a change g, each by the number of the entry that was the last before both.
module _ (f g : ℕ → Change) {rule : List ℕ} {w : Written} {i : ℕ} (e : i ≡ last_in w) where
  -- There is room for the first,
  pub asks-first : ((j : ℕ) → Grows (g j)) → Asks (λ es. g (last_of es) (f (last_of es) es)) rule w → Asks (f i) rule w
  asks-first q a =
      let d = last-is e a.filled in
      let h = q i in
      record {
        before = a.before;
        es = a.es;
        filled = a.filled;
        few = let l = rw (sym d) at a.few in omega (arith, l, h.longer (f i a.es));
        room = let l = rw (sym d) at a.room in omega (arith, l, h.larger (f i a.es));
      }

  module _ {rule' : List ℕ} {w' : Written} (p : Puts (f i) rule w rule' w') where
    -- once it is made, for the second,
    pub asks-second : Asks (λ es. g (last_of es) (f (last_of es) es)) rule w → Asks (g i) rule' w'
    asks-second a =
        let d = last-is e a.filled in
        let x = p.fills a.before a.es a.filled in
        record {
          before = a.before;
          es = f i a.es;
          filled = x;
          few = rw (sym d) at a.few;
          room = let l = rw (sym d) at a.room in omega (arith, l, filled-length a.filled, filled-length x);
        }

    -- and both are made.
    pub puts-both : {rule'' : List ℕ} {w'' : Written} → Puts (g i) rule' w' rule'' w'' → Puts (λ es. g (last_of es) (f (last_of es) es)) rule w rule'' w''
    puts-both q =
        record {
          more = omega (arith, p.more, q.more);
          fills = λ before es x. rw (sym (last-is e x)) (q.fills before (f i es) (p.fills before es x));
        }
