-- The call: one law for each return; any two results are equal; each number is given exactly when its row applies; a refusal leaves
-- the buffer. Assumes nothing.
use Prim.Native.Nat.{ℕ, ◌*◌, ◌≤◌, ◌<◌}
use native.Mathlib.Decide.{dec_lt}
use native.Mathlib.Omega.{arith}
use mathlib.Core.Path.{◌≡◌, sym, ap, ◌∙◌}
use mathlib.Core.Bool.{Bool, true, false, cond}
use mathlib.Core.List.{List, [], ◌∷◌, ◌++◌}
use mathlib.Core.Logic.{◌⊎◌, inl, inr, ⊎_elim, ◌↔◌}
use lib.Dec.{leb}
use lib.ListN.{length, length-append}
use Rattle.parse.specs.declared.tree.Row.{Row}
use Rattle.numbers.specs.Lists.{over}
use Rattle.numbers.proofs.Lists.{over_none}
use Rattle.terms.specs.Answer.{Answer, Accepted, Refused}
use Rattle.terms.specs.Kinds.{row_of}
use Rattle.entry.specs.declared.entry.Entry.{Entry}
use Rattle.numbers.specs.Bytes.{two_bytes}
use Rattle.grammar.specs.Rules.{body_of, record_of, rule_bytes}
use Rattle.grammar.specs.When.{Sized}
use Rattle.paths.specs.Syntax.{Test}
use Rattle.paths.specs.Spelling.{Text, StopsAt}
use Rattle.paths.specs.Translation.{table_of}
use Rattle.terms.specs.Limits.{entries_most, rule_most}
use Rattle.paths.specs.Answer.{text_most, TextOf, bytes_for, TextGets, bad-size, no_text, is-text, path_outcome, bytes_given}
use Rattle.paths.proofs.Answer.{gets-only, one-tree, outcome-many, outcome-short, outcome-taken, outcome-refused}
use Rattle.parse.specs.Rows.{HeldT}
use Rattle.parse.specs.Promises.{TreeRead}
use Rattle.std.specs.Prelude.{Ok, Err}
use Rattle.words.specs.declared.words.Stray.{Stray}
use Rattle.parse.specs.declared.tree.Counts.{Counts}
use Rattle.parse.proofs.HeldLaws.{text-held}
use Rattle.typing.specs.declared.export.PathReply.{PathReply}
use Rattle.typing.specs.Typed.{path_reply, Typed}

-- ---- room

-- A record has 8 bytes at most, so 512 bytes are room for every text's rule.
record-few : (e : Entry) → length (record_of e) ≤ 8
unfolding record_of body_of two_bytes
record-few e = go (leb 1 (row_of e.kind).arguments) (leb 2 (row_of e.kind).arguments) where
  go : (p q : Bool)
      → length (two_bytes (row_of e.kind).length ++ (two_bytes e.kind ++ (cond p (two_bytes e.a) [] ++ cond q (two_bytes e.b) []))) ≤ 8
  go true true = omega arith
  go true false = omega arith
  go false true = omega arith
  go false false = omega arith

bytes-few : (es : List Entry) → length (rule_bytes es) ≤ 8 * length es
unfolding rule_bytes
bytes-few [] = omega arith
bytes-few (e ∷ es) = omega (arith, length-append (record_of e) (rule_bytes es), record-few e, bytes-few es)

pub room-always : (t : Test) → length (table_of t) ≤ entries_most → length (bytes_for t) ≤ rule_most
room-always t l = omega (arith, bytes-few (table_of t))

-- ---- the returns

counted : {m n : ℕ} → m ≡ n → ◌≡◌ {A = PathReply} (record { number = 0; place = 0; written = n }) (record { number = 0; place = 0; written = m })
counted e = rw e

module _ (text rule : List ℕ) where
  -- What is refused leaves the buffer.
  typed-refused : {a : Answer} {es : List Entry} (number place : ℕ) {r : PathReply} → TextGets text a es → path_outcome a es (length rule) ≡ Refused number place
      → r ≡ path_reply (Refused number place) [] → Typed text rule r rule
  typed-refused {a} {es} number place g e q =
      record { answer = a; entries = es; gets = g; reply_is = rw e q; buffer = rw e (sym (over_none rule)) }

  pub typed-stopped : (rows : List Row) (p : Stray) (r : PathReply) → TreeRead text (Err p) rows → r ≡ path_reply (Refused 13 p.place) [] → Typed text rule r rule
  typed-stopped rows p r y q = typed-refused 13 p.place y.0 (outcome-refused 13 p.place [] (length rule)) q

  module _ (rows : List Row) (n : Counts) (whole : TreeRead text (Ok n) rows) where
    pub typed-many : (r : PathReply) → entries_most < n.entries → r ≡ path_reply (Refused 14 0) [] → Typed text rule r rule
    typed-many r l q =
        let (t, y, i, j, h) = whole in typed-refused 14 0 (is-text y) (outcome-many _ (table_of t) (length rule) (omega arith)) q

    module _ (few : n.entries ≤ entries_most) where
      pub typed-short : (r : PathReply) → length rule < n.bytes → r ≡ path_reply (Refused 9 0) [] → Typed text rule r rule
      typed-short r l q =
          let (t, y, i, j, h) = whole in
          typed-refused 9 0 (is-text y) (outcome-short _ (table_of t) (length rule) (omega arith) (omega arith)) q

      pub bytes_small : n.bytes ≤ rule_most
      bytes_small = let (t, y, i, j, h) = whole in omega (arith, room-always t (omega arith))

      module _ (room : n.bytes ≤ length rule) where
        -- What the writer asks for.
        pub typed-asks : (n.entries ≤ entries_most) × ((t : Test) × HeldT rows t n.entries × (length (table_of t) ≤ entries_most) × (length (rule_bytes (table_of t)) ≤ length rule))
        typed-asks = let (t, y, i, j, h) = whole in (few, (t, text-held t n.entries rows i few h, omega arith, omega arith))

        pub typed-taken : (after : List ℕ) → ((t : Test) → HeldT rows t n.entries → after ≡ over (rule_bytes (table_of t)) rule)
            → Typed text rule (record { number = 0; place = 0; written = n.bytes }) after
        typed-taken after f =
            let (t, y, i, j, h) = whole in
            let k = outcome-taken (length (table_of t)) (table_of t) (length rule) (omega arith) (omega arith) in
            record {
              answer = Accepted (length (table_of t));
              entries = table_of t;
              gets = is-text y;
              reply_is = rw k (counted (sym j));
              buffer = rw k (f t (text-held t n.entries rows i few h));
            }

-- ---- one result only

pub pz-read-path-only : (text rule : List ℕ) {r r' : PathReply} {after after' : List ℕ} → Typed text rule r after → Typed text rule r' after'
    → (r ≡ r') × (after ≡ after')
pz-read-path-only text rule x y =
    let (i, j) = gets-only text x.gets y.gets in
    (x.reply_is ∙ rw (i, j) (sym y.reply_is), x.buffer ∙ rw (i, j) (sym y.buffer))

-- ---- each number exactly when

-- Some tree is the text's, and has P.
abbrev pub Some : List ℕ → (Test → Type 0) → Type 0
Some text P = (t : Test) × TextOf text t × P t

-- A text's outcome: too many entries, too little room, or neither.
text-told : (t : Test) (room : ℕ)
    → (entries_most < length (table_of t))
    ⊎ (((length (table_of t) ≤ entries_most) × (room < length (bytes_for t))) ⊎ ((length (table_of t) ≤ entries_most) × (length (bytes_for t) ≤ room)))
text-told t room =
    elim (dec_lt entries_most (length (table_of t))) [
      | yes l ↦ inl l
      | no l ↦ inr (elim (dec_lt room (length (bytes_for t))) [ yes m ↦ inl (omega arith, m) | no m ↦ inr (omega arith, omega arith) ])
    ]

module _ (text rule : List ℕ) (r : PathReply) (after : List ℕ) (x : Typed text rule r after) where
  abbrev room : ℕ
  room = length rule

  -- Whatever the string gets as a text, the reply and the buffer are what that comes to.
  reply-told : {a : Answer} {es : List Entry} → TextGets text a es → r ≡ path_reply (path_outcome a es room) (rule_bytes es)
  reply-told g = let (i, j) = gets-only text x.gets g in x.reply_is ∙ rw (i, j)

  buffer-told : {a : Answer} {es : List Entry} → TextGets text a es → after ≡ over (bytes_given a es room) rule
  buffer-told g = let (i, j) = gets-only text x.gets g in x.buffer ∙ rw (i, j)

  -- So is each row: the string is no text, or it is one with too many entries, with too little room, or with neither.
  refused-told : (p : ℕ) → TextGets text (Refused 13 p) [] → (r ≡ path_reply (Refused 13 p) []) × (after ≡ rule)
  refused-told p g =
      (reply-told g ∙ rw (outcome-refused 13 p [] room), buffer-told g ∙ rw (outcome-refused 13 p [] room) (over_none rule))

  module _ {t : Test} (y : TextOf text t) where
    many-told : entries_most < length (table_of t) → (r ≡ path_reply (Refused 14 0) []) × (after ≡ rule)
    many-told l =
        let e = outcome-many (length (table_of t)) (table_of t) room l in (reply-told (is-text y) ∙ rw e, buffer-told (is-text y) ∙ rw e (over_none rule))

    short-told : (length (table_of t) ≤ entries_most) × (room < length (bytes_for t)) → (r ≡ path_reply (Refused 9 0) []) × (after ≡ rule)
    short-told (l, m) =
        let e = outcome-short (length (table_of t)) (table_of t) room l m in
        (reply-told (is-text y) ∙ rw e, buffer-told (is-text y) ∙ rw e (over_none rule))

    taken-told : (length (table_of t) ≤ entries_most) × (length (bytes_for t) ≤ room)
        → (r ≡ record { number = 0; place = 0; written = length (bytes_for t) }) × (after ≡ over (bytes_for t) rule)
    taken-told (l, m) =
        let e = outcome-taken (length (table_of t)) (table_of t) room l m in (reply-told (is-text y) ∙ rw e, buffer-told (is-text y) ∙ rw e)

  -- The number and the place by each row.
  refused-number : (p : ℕ) → TextGets text (Refused 13 p) [] → (r.number ≡ 13) × (r.place ≡ p)
  refused-number p g = let e = (refused-told p g).0 in (ap (λ (q : PathReply). q.number) e, ap (λ (q : PathReply). q.place) e)

  module _ {t : Test} (y : TextOf text t) where
    many-number : entries_most < length (table_of t) → (r.number ≡ 14) × (r.place ≡ 0)
    many-number h = let e = (many-told y h).0 in (ap (λ (q : PathReply). q.number) e, ap (λ (q : PathReply). q.place) e)

    short-number : (length (table_of t) ≤ entries_most) × (room < length (bytes_for t)) → (r.number ≡ 9) × (r.place ≡ 0)
    short-number h = let e = (short-told y h).0 in (ap (λ (q : PathReply). q.number) e, ap (λ (q : PathReply). q.place) e)

    taken-number : (length (table_of t) ≤ entries_most) × (length (bytes_for t) ≤ room) → (r.number ≡ 0) × (r.place ≡ 0)
    taken-number h = let e = (taken-told y h).0 in (ap (λ (q : PathReply). q.number) e, ap (λ (q : PathReply). q.place) e)

  -- There are no other rows: what follows from each of them holds.
  pub by_row : {P : Type 0} → ((p : ℕ) → TextGets text (Refused 13 p) [] → P)
      → ((t : Test) → TextOf text t → entries_most < length (table_of t) → P)
      → ((t : Test) → TextOf text t → (length (table_of t) ≤ entries_most) × (room < length (bytes_for t)) → P)
      → ((t : Test) → TextOf text t → (length (table_of t) ≤ entries_most) × (length (bytes_for t) ≤ room) → P) → P
  by_row {P} refused many short taken = go x.gets where
    go : {a : Answer} {es : List Entry} → TextGets text a es → P
    go (bad-size h) = refused 0 (bad-size h)
    go (no_text {p} z h k) = refused p (no_text z h k)
    go (is-text {t} y) = ⊎_elim (many t y) (⊎_elim (short t y) (taken t y)) (text-told t room)

  -- 0: a text of 64 entries or fewer, and room for its rule.
  pub zero-iff : (r.number ≡ 0) ↔ Some text (λ t. (length (table_of t) ≤ entries_most) × (length (bytes_for t) ≤ length rule))
  zero-iff = (
    λ e. by_row (λ p g. absurd (omega (arith, (refused-number p g).0))) (λ t y h. absurd (omega (arith, (many-number y h).0)))
        (λ t y h. absurd (omega (arith, (short-number y h).0))) (λ t y h. (t, y, h)),
    λ (t, y, h). (taken-number y h).0,
  )

  -- 9: a text of 64 entries or fewer, and no room for its rule.
  pub nine-iff : (r.number ≡ 9) ↔ Some text (λ t. (length (table_of t) ≤ entries_most) × (length rule < length (bytes_for t)))
  nine-iff = (
    λ e. by_row (λ p g. absurd (omega (arith, (refused-number p g).0))) (λ t y h. absurd (omega (arith, (many-number y h).0)))
        (λ t y h. (t, y, h)) (λ t y h. absurd (omega (arith, (taken-number y h).0))),
    λ (t, y, h). (short-number y h).0,
  )

  -- 14: a text of more than 64 entries.
  pub fourteen-iff : (r.number ≡ 14) ↔ Some text (λ t. entries_most < length (table_of t))
  fourteen-iff = (
    λ e. by_row (λ p g. absurd (omega (arith, (refused-number p g).0))) (λ t y h. (t, y, h))
        (λ t y h. absurd (omega (arith, (short-number y h).0))) (λ t y h. absurd (omega (arith, (taken-number y h).0))),
    λ (t, y, h). (many-number y h).0,
  )

  -- 13, placed at p: the size is wrong and p is 0, or it is right, the string is no text, and p is where it stops being one.
  pub thirteen-iff : (p : ℕ) → ((r.number ≡ 13) × (r.place ≡ p)) ↔ (((Sized text_most text → ⊥) × (p ≡ 0)) ⊎ (Sized text_most text × (Text text → ⊥) × StopsAt text p))
  thirteen-iff p = (
    λ (e, f). by_row (λ q g. cause g (sym (refused-number q g).1 ∙ f)) (λ t y h. absurd (omega (arith, (many-number y h).0)))
        (λ t y h. absurd (omega (arith, (short-number y h).0))) (λ t y h. absurd (omega (arith, (taken-number y h).0))),
    back,
  ) where
    cause : {q : ℕ} {es : List Entry} → TextGets text (Refused 13 q) es → q ≡ p
        → ((Sized text_most text → ⊥) × (p ≡ 0)) ⊎ (Sized text_most text × (Text text → ⊥) × StopsAt text p)
    cause (bad-size h) f = inl (h, sym f)
    cause (no_text z h k) f = inr (z, h, rw f at k)

    back : ((Sized text_most text → ⊥) × (p ≡ 0)) ⊎ (Sized text_most text × (Text text → ⊥) × StopsAt text p) → (r.number ≡ 13) × (r.place ≡ p)
    back (inl (h, e)) = rw e (refused-number 0 (bad-size h))
    back (inr (z, h, k)) = refused-number p (no_text z h k)

  -- A number other than 0 leaves every byte of the buffer as it was, and nothing is counted.
  pub refused-kept : (r.number ≡ 0 → ⊥) → (after ≡ rule) × (r.written ≡ 0)
  refused-kept h =
      by_row (λ p g. let (e, k) = refused-told p g in (k, ap (λ (q : PathReply). q.written) e))
      (λ t y l. let (e, k) = many-told y l in (k, ap (λ (q : PathReply). q.written) e))
      (λ t y l. let (e, k) = short-told y l in (k, ap (λ (q : PathReply). q.written) e)) (λ t y l. absurd (h (taken-number y l).0))

  -- Only 13 has a place.
  pub place-zero : (r.number ≡ 13 → ⊥) → r.place ≡ 0
  place-zero h =
      by_row (λ p g. absurd (h (refused-number p g).0)) (λ t y l. (many-number y l).1) (λ t y l. (short-number y l).1) (λ t y l. (taken-number y l).1)

  -- What is taken stands at the front of the buffer.
  pub taken-bytes : {t : Test} → TextOf text t → r.number ≡ 0 → (r.written ≡ length (bytes_for t)) × (after ≡ over (bytes_for t) rule)
  taken-bytes {t} y e =
      let (u, z, h) = zero-iff.0 e in
      let (k, m) = taken-told z h in
      let same = one-tree text z y in (ap (λ (q : PathReply). q.written) k ∙ rw same, m ∙ rw same)
