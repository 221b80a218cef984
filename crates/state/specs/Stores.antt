-- Working definitions: nothing here has to be believed.
-- What start, an opening and a closing write into the state's bytes. Document 01, "One pass".
-- Shuts out: start that leaves a byte; an opening or a closing that stores a field elsewhere, or one more.
-- Laws: proofs/StateLaws.antt, proofs/WrittenLaws.antt. Assumes nothing.
use Rattle.std.specs.Prelude.{ℕ, pred, ◌+◌, true, cond, List, [], ◌∷◌, length, replicate}
use Rattle.entry.specs.declared.entry.Entry.{Entry}
use Rattle.tag.specs.Tags.{Tag, opens, closes}
use Rattle.meaning.specs.OnePass.{opened_word}
use Rattle.fields.specs.Fields.{state_size, bad_size, cleared_below, root_after}
use Rattle.state.specs.Layout.{Store, stored}
use Rattle.state.specs.State.{depth_in, elements_in, root_in, presence_in, open_place, layout, state_of}
use Rattle.numbers.specs.Bytes.{word_at}
use Rattle.numbers.specs.Bits.{with_bit}

-- Start fills a state of the right size with zeros; any other stays as it was.
unfoldable pub start_after : List ℕ → List ℕ
start_after s = cond (bad_size (length s)) s (replicate state_size 0)

-- A store into each of the state's numbers.
abbrev pub to_depth : ℕ → Store
to_depth v = record { group = 0; index = 0; value = v }

abbrev pub to_elements : ℕ → Store
to_elements v = record { group = 1; index = 0; value = v }

abbrev pub to_root : ℕ → Store
to_root v = record { group = 2; index = 0; value = v }

abbrev pub to_presence : ℕ → Store
to_presence v = record { group = 4; index = 0; value = v }

abbrev pub to_open_word : ℕ → ℕ → Store
to_open_word i v = record { group = 5; index = i; value = v }

abbrev pub to_last_word : ℕ → ℕ → Store
to_last_word i v = record { group = 6; index = i; value = v }

-- Opening at depth d: the presence bit below goes, the word goes into open word d, and depth and elements rise by 1.
abbrev pub opening_run : (d elements word presence : ℕ) → List Store
opening_run d e w p = to_presence (cleared_below d p) ∷ to_open_word d w ∷ to_depth (d + 1) ∷ to_elements (e + 1) ∷ []

unfoldable pub opened_bytes : (d elements word : ℕ) → List ℕ → List ℕ
opened_bytes d e w s = stored layout (opening_run d e w (presence_in s)) s

-- Closing that leaves depth d: presence bit d is set, open word d becomes last word d, the depth is d, and with d 0 the root is closed.
abbrev pub closing_run : (d word presence root : ℕ) → List Store
closing_run d w p r = to_presence (with_bit d true p) ∷ to_last_word d w ∷ to_depth d ∷ to_root (root_after d r) ∷ []

unfoldable pub closed_bytes : ℕ → List ℕ → List ℕ
closed_bytes d s = stored layout (closing_run d (word_at 8 s (open_place d)) (presence_in s) (root_in s)) s

-- The bytes after an opening that is taken, of an element with this word, and after a closing that is taken.
abbrev pub opening : (word : ℕ) → List ℕ → List ℕ
opening w s = opened_bytes (depth_in s) (elements_in s) w s

abbrev pub closing : List ℕ → List ℕ
closing s = closed_bytes (pred (depth_in s)) s

-- The bytes after a tag that is taken; an element that opens has the word of these entries.
unfoldable pub bytes_after : List Entry → List ℕ → Tag → List ℕ
bytes_after es s (opens label) = opening (opened_word es (state_of s) label) s
bytes_after es s closes = closing s
