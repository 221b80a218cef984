-- `write` calls itself on rows below its own and `write_steps` on its own row, `write_steps` calls `write_step` on that row and then, with
-- more entries written, on those that it leads to, and `write_step` calls `write` on a row below. Assumes nothing.
use native.Mathlib.Omega.{arith}
use borrow.Author.Rules.{rules}
use mathlib.Core.Path.{◌≡◌}
use mathlib.Core.List.{List}
use Rattle.parse.specs.declared.tree.Row.{Row}
use Rattle.parse.specs.Rows.{row_at}
use Rattle.typing.proofs.Below.{Says, step-row, test-row}
use Rattle.typing.proofs.Writer.{leaf-put, not_first, not-put, or-first, or-second, or_put, path-first, path-second, path-put, plain-put, tested-first, tested-put, steps_first, along-last, along-less, along-more}
use Prim.Native.Nat.{ℕ}
use Rattle.typing.proofs.write.+write_write_step_write_steps.Goals as goal

-- The row is read,
says : {rows : List Row} {n : ℕ} {p : Row} → p ≡ row_at rows n → Says rows n p
says e = record { row_is = e }

pub write-row_at-part-requires : goal.write-row_at-part-requires
write-row_at-part-requires t c =
    let a = c.requires in
    (test-row c.args.rows.now a.1.0 c.args.n a.1.1, a.0)

pub write-write-test-requires : goal.write-write-test-requires
write-write-test-requires t c =
    let a = not_first (says c.row_at-part.ensures) c.in-3.is c.requires.1 in
    (omega (arith, a.0, c.decreases), (omega (arith, a.0, c.requires.0), a.1))

pub write-write-left-requires : goal.write-write-left-requires
write-write-left-requires t c =
    let a = or-first (says c.row_at-part.ensures) c.in-4.is c.requires.1 in
    (omega (arith, a.0, c.decreases), (omega (arith, a.0, c.requires.0), a.1))

pub write-write-right-requires : goal.write-write-right-requires
write-write-right-requires t c =
    let a = or-second (says c.row_at-part.ensures) c.in-4.is c.write-left.ensures c.requires.1 in
    (omega (arith, a.0, a.1, c.decreases), (omega (arith, a.0, c.requires.0), a.2))

pub write-write_steps-requires : goal.write-write_steps-requires
write-write_steps-requires t c =
    let a = c.requires in
    let q = path-first (says c.row_at-part.ensures) (omega arith, λ e. omega (arith, e), λ e. omega (arith, e)) a.1 c.put_part-end.ensures in
    let l = test-row c.args.rows.now a.1.0 c.args.n a.1.1 in
    let b = path-second (says c.row_at-part.ensures) (omega arith, λ e. omega (arith, e), λ e. omega (arith, e)) q a.0 a.1 in
    (omega (arith, q.more, c.decreases), (l, omega (arith, q.more), b))

pub write-returns-in-3 : goal.write-returns-in-3
write-returns-in-3 t c =
    not-put (says c.row_at-part.ensures) c.in-3.is c.write-test.ensures c.last.ensures c.requires.1
    c.put_part.ensures

pub write-returns-in-4 : goal.write-returns-in-4
write-returns-in-4 t c =
    or_put (says c.row_at-part.ensures) c.in-4.is c.write-left.ensures c.write-right.ensures c.last-in-4.ensures c.requires.1
    c.put_part-in-4.ensures

pub write-returns-in-0-to-2 : goal.write-returns-in-0-to-2
write-returns-in-0-to-2 t c =
    leaf-put (says c.row_at-part.ensures) c.requires.1 (omega arith) c.put_part-in-0-to-2.ensures

pub write-returns-in_default : goal.write-returns-in_default
write-returns-in_default t c =
    let a = c.requires in
    let q = path-first (says c.row_at-part.ensures) (omega arith, λ e. omega (arith, e), λ e. omega (arith, e)) a.1 c.put_part-end.ensures in
    path-put (says c.row_at-part.ensures) (omega arith, λ e. omega (arith, e), λ e. omega (arith, e)) q a.0 c.write_steps.ensures

pub write_step-row_at-part-requires : goal.write_step-row_at-part-requires
write_step-row_at-part-requires t c =
    let a = c.requires in
    ((step-row c.args.rows.now a.2.0 c.args.n a.2.1 a.2.2).0, a.0)

pub write_step-write-test-requires : goal.write_step-write-test-requires
write_step-write-test-requires t c =
    let a = tested-first (says c.row_at-part.ensures) (λ l. omega (arith, l)) c.requires.2 in
    (omega (arith, a.0, c.decreases), (omega (arith, a.0, c.requires.0), a.1))

pub write_step-returns-in-6-to-13 : goal.write_step-returns-in-6-to-13
write_step-returns-in-6-to-13 t c =
    let a = c.requires in
    plain-put (says c.row_at-part.ensures) (omega arith) (omega arith) a.1 c.last.ensures a.2 c.put_part.ensures

pub write_step-returns-in_default : goal.write_step-returns-in_default
write_step-returns-in_default t c =
    tested-put (says c.row_at-part.ensures) (λ l. omega (arith, l)) c.write-test.ensures c.last-in_default.ensures c.requires.2
    c.put_part-in_default.ensures

pub write_steps-write_step-so_far-requires : goal.write_steps-write_step-so_far-requires
write_steps-write_step-so_far-requires t c =
    let l = c.loop-part in
    let a = steps_first c.args.rows.now l.row l.invariant.some l.invariant.asks in
    (omega (arith, c.decreases, l.invariant.less_to_do), (a.0, l.invariant.begun, a.1))

pub write_steps-row_at-part-requires : goal.write_steps-row_at-part-requires
write_steps-row_at-part-requires t c =
    let l = c.loop-part in
    (l.invariant.some, (steps_first c.args.rows.now l.row l.invariant.some l.invariant.asks).0)

pub write_steps-returns-then-part-eq0 : goal.write_steps-returns-then-part-eq0
write_steps-returns-then-part-eq0 t c =
    along-last c.loop-part.invariant (says c.row_at-part.ensures) c.write_step-so_far.ensures c.if-part-eq0.true

pub write_steps-loop-part-smaller : goal.write_steps-loop-part-smaller
write_steps-loop-part-smaller t c =
    along-less c.loop-part.invariant (says c.row_at-part.ensures) c.write_step-so_far.ensures c.if-part-eq0.false

pub write_steps-loop-part-preserved : goal.write_steps-loop-part-preserved
write_steps-loop-part-preserved t c =
    along-more c.loop-part.invariant (says c.row_at-part.ensures) c.write_step-so_far.ensures c.if-part-eq0.false (search rules)
