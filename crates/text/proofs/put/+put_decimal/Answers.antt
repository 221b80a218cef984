-- Assumes nothing.
use native.Mathlib.Omega.{arith}
use Rattle.text.proofs.DecimalLaws.{decimal-one, decimal-more, decimal-some, decimal-longer}
use Rattle.text.proofs.PutLaws.{put_one, put_then}
use Rattle.text.proofs.put.+put_decimal.Goals as goal

pub overflow_add-out : goal.overflow_add-out
overflow_add-out t c = omega arith

pub overflow_cast-out : goal.overflow_cast-out
overflow_cast-out t c = omega arith

pub bounds-out-at : goal.bounds-out-at
bounds-out-at t c = omega (arith, decimal-some c.args.x)

pub overflow_add-result : goal.overflow_add-result
overflow_add-result t c = omega (arith, decimal-some c.args.x)

pub returns-then-one_digit : goal.returns-then-one_digit
returns-then-one_digit t c = rw (decimal-one c.args.x c.if-one_digit.true) (put_one _ _ _)

pub put_decimal-last-requires : goal.put_decimal-last-requires
put_decimal-last-requires t c =
    omega (arith, decimal-longer c.args.x c.if-one_digit.false)

pub overflow_add-out-2 : goal.overflow_add-out-2
overflow_add-out-2 t c = omega arith

pub overflow_cast-out-2 : goal.overflow_cast-out-2
overflow_cast-out-2 t c = omega arith

pub bounds-out-last : goal.bounds-out-last
bounds-out-last t c =
    omega (arith, c.put_decimal-last.ensures.next_is, decimal-longer c.args.x c.if-one_digit.false)

pub overflow_add-result-2 : goal.overflow_add-result-2
overflow_add-result-2 t c =
    omega (arith, c.put_decimal-last.ensures.next_is, decimal-longer c.args.x c.if-one_digit.false)

pub returns : goal.returns
returns t c =
    rw (decimal-more c.args.x c.if-one_digit.false) (put_then c.put_decimal-last.ensures (put_one _ _ _))
