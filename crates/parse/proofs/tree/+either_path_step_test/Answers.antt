use Prim.Native.Nat.{◌+◌}
use native.Mathlib.Omega.{arith}
use mathlib.Core.Path.{sym, ◌∙◌}
use mathlib.Core.Bool.{false}
use Rattle.words.proofs.WordLaws.{front}
use Rattle.words.proofs.BeginSays.{or-says, begins-says, start-says}
use Rattle.parse.proofs.TreeLaws.{test-ends, leaf-law, except-law, begins-law, either_left, either-word, either-law, went-none, path-bad, path-ended, went-more, plain-law, passing-law, while-law}
use Rattle.parse.proofs.tree.+either_path_step_test.Goals as goal

pub either-test-requires : goal.either-test-requires
either-test-requires t c = let l = (front c.args.s.now c.args.at 40 c.requires.1 (omega arith)).0 in (omega (arith, c.requires, l), (omega (arith, l), c.requires.0.1, omega (arith, c.requires.0.2)))

pub either-overflow_cast-result : goal.either-overflow_cast-result
either-overflow_cast-result t c = let y = (or-says c.in-Done.v c.args.s.now c.in-Done.e (rw c.in-Done.is at (test-ends c.args.s.now (c.args.at + 1) _ _ false c.test.result _ c.test.ensures)) c.or_at.ensures c.in-Err.is) in omega (arith, c.requires, y.0)

pub either-test-right-requires : goal.either-test-right-requires
either-test-right-requires t c = let x = (rw c.in-Done.is at c.test.ensures) in let y = (or-says c.in-Done.v c.args.s.now c.in-Done.e (rw c.in-Done.is at (test-ends c.args.s.now (c.args.at + 1) _ _ false c.test.result _ c.test.ensures)) c.or_at.ensures c.in-Ok.is) in (omega (arith, c.requires, x.0.on, y.0, y.1), (y.1, c.requires.0.1, omega (arith, c.requires.0.2, x.0.entries_fit, y.0)))

pub either-returns-in-Bad : goal.either-returns-in-Bad
either-returns-in-Bad t c = λ w. either_left w c.args.s.now c.args.at c.args.k c.args.rows.now c.requires.1 c.in-Bad.p (rw c.in-Bad.is at c.test.ensures)

pub either-returns-in-Err : goal.either-returns-in-Err
either-returns-in-Err t c = λ w. either-word w c.args.s.now c.args.at c.args.k c.args.rows.now c.requires.1 c.in-Done.e c.in-Done.n c.in-Done.b c.in-Done.v _ (rw c.in-Done.is at c.test.ensures) c.in-Err.p (or-says c.in-Done.v c.args.s.now c.in-Done.e (rw c.in-Done.is at (test-ends c.args.s.now (c.args.at + 1) _ _ false c.test.result _ c.test.ensures)) c.or_at.ensures c.in-Err.is)

pub either-returns-in-Ok : goal.either-returns-in-Ok
either-returns-in-Ok t c = λ w. either-law w c.args.s.now c.args.at c.args.k c.args.rows.now c.requires.1 c.in-Done.e c.in-Done.n c.in-Done.b c.in-Done.v _ (rw c.in-Done.is at c.test.ensures) c.in-Ok.f (or-says c.in-Done.v c.args.s.now c.in-Done.e (rw c.in-Done.is at (test-ends c.args.s.now (c.args.at + 1) _ _ false c.test.result _ c.test.ensures)) c.or_at.ensures c.in-Ok.is) c.test-right.result c.either_of.result c.shut.result _ _ c.test-right.ensures c.either_of.ensures c.shut.ensures

pub path-loop-p-init : goal.path-loop-p-init
path-loop-p-init t c = went-none c.args.s.now c.args.at c.args.k c.args.rows.now c.requires.0

pub path-returns-then-next-eq62 : goal.path-returns-then-next-eq62
path-returns-then-next-eq62 t c = path-ended c.args.s.now c.args.at c.args.k c.args.rows.now c.loop-p.from c.loop-p.entries c.loop-p.bytes c.loop-p.before c.loop-p.rows c.loop-p.invariant c.in-Done.e c.in-Done.n c.in-Done.b c.in-Done.v _ (rw c.in-Done.is at c.step.ensures) (sym c.byte_at-next.ensures ∙ c.if-next-eq62.true)

pub path-returns-then-next-ne47 : goal.path-returns-then-next-ne47
path-returns-then-next-ne47 t c = path-bad c.args.s.now c.args.at c.args.k c.args.rows.now c.loop-p.from c.loop-p.entries c.loop-p.bytes c.loop-p.before c.loop-p.rows c.loop-p.invariant c.in-Done.e c.in-Done.n c.in-Done.b c.in-Done.v _ (rw c.in-Done.is at c.step.ensures) (λ h. c.if-next-ne47.true (c.byte_at-next.ensures ∙ h)) (λ h. c.if-next-eq62.false (c.byte_at-next.ensures ∙ h))

pub path-loop-p-preserved : goal.path-loop-p-preserved
path-loop-p-preserved t c = went-more c.args.s.now c.args.at c.args.k c.args.rows.now c.loop-p.from c.loop-p.entries c.loop-p.bytes c.loop-p.before c.loop-p.rows c.loop-p.invariant c.in-Done.e c.in-Done.n c.in-Done.b c.in-Done.v _ (rw c.in-Done.is at c.step.ensures) (sym c.byte_at-next.ensures ∙ c.if-next-ne47.false)

pub step-overflow_cast-result : goal.step-overflow_cast-result
step-overflow_cast-result t c = let y = (start-says c.args.s.now c.args.at c.requires.0 c.start_at.ensures c.in-Err.is) in omega (arith, c.requires, y.0)

pub step-overflow_cast-e : goal.step-overflow_cast-e
step-overflow_cast-e t c = let y = (rw c.in-Ok-Plain.field-0-is at (start-says c.args.s.now c.args.at c.requires.0 c.start_at.ensures c.in-Ok-Plain.is)) in omega (arith, c.requires, y.1)

pub step-test-inner-requires : goal.step-test-inner-requires
step-test-inner-requires t c = let l = (front c.args.s.now c.args.at 63 (rw c.in-Ok-Test.field-0-is at (start-says c.args.s.now c.args.at c.requires.0 c.start_at.ensures c.in-Ok-Test.is)) (omega arith)).0 in (omega (arith, c.requires, l), (omega (arith, l), c.requires.1, omega (arith, c.requires.2)))

pub step-test-inner-requires-in-Ok-While : goal.step-test-inner-requires-in-Ok-While
step-test-inner-requires-in-Ok-While t c = let x = (rw c.in-Ok-While.field-0-is at (start-says c.args.s.now c.args.at c.requires.0 c.start_at.ensures c.in-Ok-While.is)) in (omega (arith, c.requires, x.0, x.1), (x.1, c.requires.1, omega (arith, c.requires.2, x.0)))

pub step-returns-in-Err : goal.step-returns-in-Err
step-returns-in-Err t c = start-says c.args.s.now c.args.at c.requires.0 c.start_at.ensures c.in-Err.is

pub step-returns-in-Ok-Plain : goal.step-returns-in-Ok-Plain
step-returns-in-Ok-Plain t c = plain-law c.args.s.now c.args.at c.args.k c.args.before c.args.rows.now c.in-Ok-Plain.e c.in-Ok-Plain.v c.in-Ok-Plain.form c.step_of.result _ (rw c.in-Ok-Plain.field-0-is at (start-says c.args.s.now c.args.at c.requires.0 c.start_at.ensures c.in-Ok-Plain.is)) c.step_of.ensures

pub step-returns-in-Ok-Test : goal.step-returns-in-Ok-Test
step-returns-in-Ok-Test t c = passing-law c.args.s.now c.args.at c.args.k c.args.before c.args.rows.now c.test-inner.result c.step_of-in-Ok-Test.result _ _ (rw c.in-Ok-Test.field-0-is at (start-says c.args.s.now c.args.at c.requires.0 c.start_at.ensures c.in-Ok-Test.is)) c.test-inner.ensures c.step_of-in-Ok-Test.ensures

pub step-returns-in-Ok-While : goal.step-returns-in-Ok-While
step-returns-in-Ok-While t c = while-law c.args.s.now c.args.at c.args.k c.args.before c.args.rows.now c.in-Ok-While.f c.in-Ok-While.form (rw c.in-Ok-While.field-0-is at (start-says c.args.s.now c.args.at c.requires.0 c.start_at.ensures c.in-Ok-While.is)) c.test-inner-in-Ok-While.result c.shut.result c.step_of-in-Ok-While.result _ _ c.test-inner-in-Ok-While.ensures c.shut.ensures c.step_of-in-Ok-While.ensures

pub test-overflow_cast-result : goal.test-overflow_cast-result
test-overflow_cast-result t c = let y = (begins-says c.args.after c.args.s.now c.args.at c.requires.0 c.begins_at.ensures c.in-Err.is) in omega (arith, c.requires, y.0)

pub test-leaf-requires : goal.test-leaf-requires
test-leaf-requires t c = let y = (rw c.in-Ok-Leaf.field-0-is at (begins-says c.args.after c.args.s.now c.args.at c.requires.0 c.begins_at.ensures c.in-Ok-Leaf.is)) in (omega (arith, c.requires, y.within), omega (arith, c.requires))

pub test-test-inner-requires : goal.test-test-inner-requires
test-test-inner-requires t c = let x = (rw c.in-Ok-Not.field-0-is at (begins-says c.args.after c.args.s.now c.args.at c.requires.0 c.begins_at.ensures c.in-Ok-Not.is)) in (omega (arith, c.requires, x.0, x.1), (x.1, c.requires.1, omega (arith, c.requires.2, x.0)))

pub test-either-requires : goal.test-either-requires
test-either-requires t c = let h = (rw c.in-Ok-Either.field-0-is at (begins-says c.args.after c.args.s.now c.args.at c.requires.0 c.begins_at.ensures c.in-Ok-Either.is)) in let l = (front c.args.s.now c.args.at 40 h (omega arith)).0 in (omega (arith, c.requires, l), (c.requires, h))

pub test-path-requires : goal.test-path-requires
test-path-requires t c = let l = (front c.args.s.now c.args.at 60 (rw c.in-Ok-Path.field-0-is at (begins-says c.args.after c.args.s.now c.args.at c.requires.0 c.begins_at.ensures c.in-Ok-Path.is)) (omega arith)).0 in (omega (arith, c.requires, l), (omega (arith, l), c.requires.1, omega (arith, c.requires.2)))

pub test-returns-in-Err : goal.test-returns-in-Err
test-returns-in-Err t c = begins-says c.args.after c.args.s.now c.args.at c.requires.0 c.begins_at.ensures c.in-Err.is

pub test-returns-in-Ok-Leaf : goal.test-returns-in-Ok-Leaf
test-returns-in-Ok-Leaf t c = leaf-law c.args.after c.args.s.now c.args.at c.args.k c.in-Ok-Leaf.e c.in-Ok-Leaf.label c.args.rows.now _ c.leaf.result (rw c.in-Ok-Leaf.field-0-is at (begins-says c.args.after c.args.s.now c.args.at c.requires.0 c.begins_at.ensures c.in-Ok-Leaf.is)) c.leaf.ensures.0 c.leaf.ensures.1

pub test-returns-in-Ok-Not : goal.test-returns-in-Ok-Not
test-returns-in-Ok-Not t c = except-law c.args.after c.args.s.now c.args.at c.args.k c.args.rows.now _ c.except.result c.in-Ok-Not.f c.test-inner.result _ (rw c.in-Ok-Not.field-0-is at (begins-says c.args.after c.args.s.now c.args.at c.requires.0 c.begins_at.ensures c.in-Ok-Not.is)) c.test-inner.ensures c.except.ensures

pub test-returns-in-Ok-Path : goal.test-returns-in-Ok-Path
test-returns-in-Ok-Path t c = begins-law c.args.after c.args.s.now c.args.at c.args.k c.args.rows.now _ c.closing.result c.path.result (rw c.in-Ok-Path.field-0-is at (begins-says c.args.after c.args.s.now c.args.at c.requires.0 c.begins_at.ensures c.in-Ok-Path.is)) c.path.ensures c.closing.ensures
