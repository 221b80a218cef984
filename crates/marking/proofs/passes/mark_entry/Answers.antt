-- `mark_entry`: each shape has its pass, and the pass leaves what the shape means. Assumes nothing.
use mathlib.Core.Path.{refl}
use Rattle.terms.specs.Kinds.{numbers_of}
use Rattle.marking.proofs.KindLaws.{column-room, passed-some, passed-until, passed-every, passed-local, passed-nothing, ups-nearest}
use Rattle.marking.proofs.passes.mark_entry.Goals as goal

pub local_pass-requires : goal.local_pass-requires
unfolding numbers_of
local_pass-requires c =
    let p = c.requires in
    record { earlier = λ h. p.earlier (rw c.in-Here.is h); room = p.room }

pub invariant_of-along_pass : goal.invariant_of-along_pass
unfolding numbers_of
invariant_of-along_pass c = record { earlier = c.requires.earlier (rw c.in-SomeAlong.is refl) }

pub invariant_of-along_pass-in-SomeAlong : goal.invariant_of-along_pass-in-SomeAlong
invariant_of-along_pass-in-SomeAlong c = let p = c.requires in record { not_past = (column-room p.columns.1 _ _ c.column-numbers.ensures p.room).1 }

pub along_pass-requires : goal.along_pass-requires
along_pass-requires c = let p = c.requires in (column-room p.columns.1 _ _ c.column-numbers.ensures p.room).0

pub invariant_of-along_pass-in-UntilAlong : goal.invariant_of-along_pass-in-UntilAlong
unfolding numbers_of
invariant_of-along_pass-in-UntilAlong c = record { earlier = c.requires.earlier (rw c.in-UntilAlong.is refl) }

pub invariant_of-along_pass-in-UntilAlong-2 : goal.invariant_of-along_pass-in-UntilAlong-2
invariant_of-along_pass-in-UntilAlong-2 c = let p = c.requires in record { not_past = (column-room p.columns.1 _ _ c.column-numbers-in-UntilAlong.ensures p.room).1 }

pub along_pass-requires-in-UntilAlong : goal.along_pass-requires-in-UntilAlong
along_pass-requires-in-UntilAlong c = let p = c.requires in (column-room p.columns.1 _ _ c.column-numbers-in-UntilAlong.ensures p.room).0

pub invariant_of-turn_pass : goal.invariant_of-turn_pass
unfolding numbers_of
invariant_of-turn_pass c = record { earlier = c.requires.earlier (rw c.in-EveryChild.is refl) }

pub turn_pass-requires-clause-nearest : goal.turn_pass-requires-clause-nearest
turn_pass-requires-clause-nearest c = ups-nearest c.requires.columns.1

pub returns-in-Nothing : goal.returns-in-Nothing
returns-in-Nothing c = let p = c.requires in λ levels columns. passed-nothing columns _ _ p.room c.in-Nothing.is

pub returns-in-Here : goal.returns-in-Here
returns-in-Here c = λ levels columns. passed-local columns _ _ _ c.in-Here.is c.local_pass.ensures

pub returns-in-SomeAlong : goal.returns-in-SomeAlong
returns-in-SomeAlong c = λ levels columns.
    passed-some columns _ _ _ _ c.column-numbers.ensures c.in-SomeAlong.is c.along_pass.ensures

pub returns-in-UntilAlong : goal.returns-in-UntilAlong
returns-in-UntilAlong c = λ levels columns.
    passed-until columns _ _ _ _ c.column-numbers-in-UntilAlong.ensures c.in-UntilAlong.is c.along_pass-in-UntilAlong.ensures

pub returns-in-EveryChild : goal.returns-in-EveryChild
returns-in-EveryChild c = λ levels columns. passed-every columns _ _ c.in-EveryChild.is c.turn_pass.ensures
