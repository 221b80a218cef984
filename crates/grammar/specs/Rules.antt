-- A rule without any cursor: the concatenation of its entries' records. Document 01, "Records" and "Sizes".
-- Laws: proofs/Rules.antt. Assumes nothing.
use Rattle.std.specs.Prelude.{ℕ, ◌≤◌, ◌<◌, ◌≡◌, true, cond, List, [], ◌∷◌, ◌++◌, leb, length, get_or}
use Rattle.terms.specs.Kinds.{row_of, looks_back}
use Rattle.entry.specs.declared.entry.Entry.{Entry}
use Rattle.numbers.specs.Bytes.{two_bytes}
use Rattle.grammar.specs.When.{Misdirected}
use Rattle.terms.specs.Limits.{entries_most}

-- The entry of kind 0, which is no kind: what stands for an entry where there is none.
abbrev pub no_entry : Entry
no_entry = record { kind = 0; a = 0; b = 0 }

-- The numbers of an entry's body, as many as its row says.
unfoldable pub body_of : ℕ → Entry → List ℕ
body_of arguments e = cond (leb 1 arguments) (two_bytes e.a) [] ++ cond (leb 2 arguments) (two_bytes e.b) []

-- The bytes of an entry's record: its length, its kind, its body.
unfoldable pub record_of : Entry → List ℕ
record_of e = two_bytes (row_of e.kind).length ++ (two_bytes e.kind ++ body_of (row_of e.kind).arguments e)

-- The bytes of a rule: its entries' records in order.
unfoldable pub rule_bytes : List Entry → List ℕ
rule_bytes [] = []
rule_bytes (e ∷ es) = record_of e ++ rule_bytes es

-- An entry is well formed as entry `own`: its kind is one of the table's, its entry numbers are below its own, its label is in
-- 1..999, and the numbers that its body does not have are 0.
pub record WellFormed (own : ℕ) (e : Entry) : Type 0 where
  pub known : (row_of e.kind).length ≡ 0 → ⊥
  pub directed : Misdirected (row_of e.kind) own e → ⊥
  pub no_a : (row_of e.kind).arguments < 1 → e.a ≡ 0
  pub no_b : (row_of e.kind).arguments < 2 → e.b ≡ 0

-- A rule's entries: 1 to 64 of them, each well formed at its place.
pub record RuleEntries (es : List Entry) : Type 0 where
  pub nonempty : 1 ≤ length es
  pub few : length es ≤ entries_most
  pub formed : (i : ℕ) → i < length es → WellFormed i (get_or es i no_entry)

-- The byte string is the rule of these entries.
pub record IsRule (s : List ℕ) (es : List Entry) : Type 0 where
  pub entries : RuleEntries es
  pub bytes_are : s ≡ rule_bytes es

-- The rule looks back only: every entry's kind does.
abbrev pub LooksBack : List Entry → Type 0
LooksBack es = (i : ℕ) → i < length es → looks_back (get_or es i no_entry).kind ≡ true
