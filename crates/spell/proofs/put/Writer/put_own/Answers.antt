-- `put_own` puts one record, or what the function of a longer step puts, by the form. Assumes nothing.
use native.Mathlib.Omega.{arith}
use mathlib.Core.Path.{ap}
use Rattle.grammar.specs.Rules.{rule_bytes}
use Rattle.spell.proofs.Adding.{room_as, spells-as}
use Rattle.spell.proofs.FormLaws.{own-one, own-star, own-down, own-beside}
use Rattle.spell.proofs.put.Writer.put_own.Goals as goal

pub put_down-requires : goal.put_down-requires
put_down-requires c =
    let e = c.in-14.is in
    (c.requires.0, room_as (ap rule_bytes (own-down c.args.form c.args.argument c.args.n (omega (arith, e)) e)) c.requires.1)

pub put_record-requires : goal.put_record-requires
put_record-requires c =
    room_as (own-one c.args.form c.args.argument c.args.n (omega (arith, c.in-0-to-9.if-form-lt10-own.true)) c.last.ensures) c.requires.1

pub put_star-requires : goal.put_star-requires
put_star-requires c =
    let e = own-star c.args.form c.args.argument c.args.n c.in-10-to-13.if-form-lt10-own.false (omega (arith, c.in-10-to-13.if-form-lt14-own.true)) in
    room_as (ap rule_bytes e) c.requires.1

pub put_beside-requires : goal.put_beside-requires
put_beside-requires c =
    let h = c.in_default.in_default-own.rest.1 in
    let e = own-beside c.args.form c.args.argument c.args.n c.in_default.if-form-lt10-own.false c.in_default.if-form-lt14-own.false h in
    (omega (arith, c.in_default.if-form-lt10-own.false), room_as (ap rule_bytes e) c.requires.1)

pub returns-in-14 : goal.returns-in-14
returns-in-14 c =
    let e = c.in-14.is in
    spells-as (ap rule_bytes (own-down c.args.form c.args.argument c.args.n (omega (arith, e)) e)) c.put_down.ensures

pub returns-in-0-to-9 : goal.returns-in-0-to-9
returns-in-0-to-9 c =
    let e = own-one c.args.form c.args.argument c.args.n (omega (arith, c.in-0-to-9.if-form-lt10-own.true)) c.last.ensures in
    spells-as e c.put_record.ensures

pub returns-in-10-to-13 : goal.returns-in-10-to-13
returns-in-10-to-13 c =
    let e = own-star c.args.form c.args.argument c.args.n c.in-10-to-13.if-form-lt10-own.false (omega (arith, c.in-10-to-13.if-form-lt14-own.true)) in
    spells-as (ap rule_bytes e) c.put_star.ensures

pub returns-in_default : goal.returns-in_default
returns-in_default c =
    let h = c.in_default.in_default-own.rest.1 in
    let e = own-beside c.args.form c.args.argument c.args.n c.in_default.if-form-lt10-own.false c.in_default.if-form-lt14-own.false h in
    spells-as (ap rule_bytes e) c.put_beside.ensures
