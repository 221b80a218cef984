-- Working definitions: nothing here has to be believed.
-- What the writer's functions ask and promise of each other: that parts of a text stand in rows, and that there is room for their entries, or
-- that these have been put. Nothing here has to be believed: the promise of `write_rule` cites none of it.
-- Laws: proofs/Below.antt, proofs/Writer.antt. Assumes nothing.
use Rattle.std.specs.Prelude.{ℕ, ◌≤◌, ◌≡◌, List, [], ◌∷◌}
use Rattle.paths.specs.Syntax.{Test, Step}
use Rattle.paths.specs.Translation.{put_t, put_s}
use Rattle.terms.specs.Limits.{entries_most}
use Rattle.spell.specs.declared.own.Written.{Written}
use Rattle.spell.specs.Filled.{Change, Asks, Puts}
use Rattle.parse.specs.Rows.{HeldT, HeldS}
use Rattle.parse.specs.declared.tree.Row.{Row}

-- What steps put that are told from the last of a path to the first: the entries of each stand behind those of the one after it.
unfoldable pub put_steps : List Step → Change
put_steps [] es = es
put_steps (st ∷ sts) es = put_steps sts (put_s st es)

-- Steps stand in rows, from row n back to the first of their path: each row names that of the step before it, and the first names 0.
unfoldable pub HeldSteps : List Row → List Step → (n : ℕ) → Type 0
HeldSteps rows [] n = n ≡ 0
HeldSteps rows (st ∷ sts) n = (b : ℕ) × (n ≤ entries_most) × HeldS rows st n b × HeldSteps rows sts b

-- A test stands in row n, and there is room for its entries.
abbrev pub TestAsks : (rows : List Row) (n : ℕ) (rule : List ℕ) (w : Written) → Type 0
TestAsks rows n rule w = (t : Test) × HeldT rows t n × Asks (put_t t) rule w

-- Whatever test stands in row n, its entries have been put.
abbrev pub TestPuts : (rows : List Row) (n : ℕ) (rule : List ℕ) (w : Written) (rule' : List ℕ) (w' : Written) → Type 0
TestPuts rows n rule w rule' w' = (t : Test) → HeldT rows t n → Puts (put_t t) rule w rule' w'

-- The same of a step,
abbrev pub StepAsks : (rows : List Row) (n : ℕ) (rule : List ℕ) (w : Written) → Type 0
StepAsks rows n rule w = (st : Step) × (b : ℕ) × HeldS rows st n b × Asks (put_s st) rule w

abbrev pub StepPuts : (rows : List Row) (n : ℕ) (rule : List ℕ) (w : Written) (rule' : List ℕ) (w' : Written) → Type 0
StepPuts rows n rule w rule' w' = (st : Step) (b : ℕ) → HeldS rows st n b → Puts (put_s st) rule w rule' w'

-- and of a step and those before it.
abbrev pub StepsAsk : (rows : List Row) (n : ℕ) (rule : List ℕ) (w : Written) → Type 0
StepsAsk rows n rule w = (sts : List Step) × HeldSteps rows sts n × Asks (put_steps sts) rule w

abbrev pub StepsPut : (rows : List Row) (n : ℕ) (rule : List ℕ) (w : Written) (rule' : List ℕ) (w' : Written) → Type 0
StepsPut rows n rule w rule' w' = (sts : List Step) → HeldSteps rows sts n → Puts (put_steps sts) rule w rule' w'
