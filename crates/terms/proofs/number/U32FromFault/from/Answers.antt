-- A fault's number is its place in the list of faults, counted from 1. Assumes nothing.
use Rattle.std.proofs.Common.{◌≡◌, ◌+◌}
use mathlib.Core.Path.{refl}
use denote.Enum.Declared.{tag_of}
use Rattle.terms.specs.contracts.refusal.Fault.{the_type}
use Rattle.terms.specs.declared.refusal.Fault.{Fault}
use Rattle.terms.specs.declared.refusal.Fault.TheVariants.{RuleSize, RuleRecord, RuleArgument, RuleFull, ReportSize, ReportRecord, ReportOrder, ReportFull, BufferShort, RuleAhead, StateBad, TallyBad, TextBad, TextFull}
use Rattle.terms.specs.Answer.{number_of_fault}
use Rattle.terms.proofs.number.U32FromFault.from.Goals as goal

in_order : (f : Fault) → tag_of the_type f + 1 ≡ number_of_fault f
unfolding number_of_fault
in_order RuleSize = refl
in_order RuleRecord = refl
in_order RuleArgument = refl
in_order RuleFull = refl
in_order ReportSize = refl
in_order ReportRecord = refl
in_order ReportOrder = refl
in_order ReportFull = refl
in_order BufferShort = refl
in_order RuleAhead = refl
in_order StateBad = refl
in_order TallyBad = refl
in_order TextBad = refl
in_order TextFull = refl

pub returns : goal.returns
returns c = in_order c.args.fault
