-- Where the machine stops on texts that are none, computed; proofs/Place.antt says that this is the place. Assumes nothing.
use Prim.Native.Nat.{ℕ, zero, suc, ◌-◌}
use Prim.Native.String.{String}
use mathlib.Core.Path.{◌≡◌, refl}
use mathlib.Core.Bool.{false}
use mathlib.Core.List.{List, [], ◌∷◌, ◌++◌}
use lib.ListN.{length}
use Rattle.text.specs.Text.{ascii}
use Rattle.paths.proofs.Machine.{test, is_digit, is_word, choices, pick, next, ended, Outcome, whole, stopped, run}

pub record Fault : Type 0 where
  pub text : List ℕ
  pub place : ℕ

abbrev at : String → ℕ → Fault
at text place = record { text = ascii text; place = place }

unfoldable pub times : ℕ → List ℕ → List ℕ → List ℕ
times zero s r = r
times (suc n) s r = s ++ times n s r

unfoldable pub faults : List Fault
faults =
    at "" 0 ∷ at "truex" 4 ∷ at "true " 4 ∷ at "(true " 6 ∷ at "label 0" 6 ∷ at "label 1000" 9 ∷ at "notlabel" 3 ∷ at "not  true" 4
    ∷ at "not (true or true)" 4 ∷ at "<child" 6 ∷ at "<chil>" 5 ∷ at "<la" 2 ∷ at "<child/>" 7 ∷ at "<?true*>" 6 ∷ at "<(child?true)>" 13
    ∷ at "<(true or true)>" 2 ∷ at "(child?true)*" 1
    ∷ record { text = times 64 (ascii "not ") (ascii "tru"); place = 259 }
    ∷ record { text = times 256 (ascii "not ") []; place = 1024 }
    ∷ record { text = times 1024 (ascii "(") []; place = 1024 }
    ∷ record { text = times 512 (ascii "<?") []; place = 1024 }
    ∷ []

-- How many bytes were read before the machine stopped; one more than there are where it did not.
unfoldable pub place_of : List ℕ → Outcome → ℕ
place_of s whole = suc (length s)
place_of s (stopped left) = length s - length left

unfoldable pub placed_faults : List Fault → List Fault
placed_faults [] = []
placed_faults (f ∷ fs) = record { text = f.text; place = place_of f.text (run false (test ∷ []) f.text) } ∷ placed_faults fs

pub faults-right : placed_faults faults ≡ faults
unfolding placed_faults faults place_of times ascii run next choices pick ended is_word is_digit
faults-right = refl
