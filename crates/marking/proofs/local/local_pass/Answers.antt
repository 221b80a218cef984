-- `local_pass`: each question has its gate, and that of a label its own pass. Assumes nothing.
use mathlib.Core.Path.{refl, ◌∙◌}
use Rattle.terms.specs.Kinds.{local_numbers}
use Rattle.meaning.specs.Marks.{means_here}
use Rattle.steps.proofs.Gates.{gate-always, gate-not, gate-or, gate-and}
use Rattle.marking.proofs.PassLaws.{passed-same, passed-gate, earlier-in}
use Rattle.marking.proofs.local.local_pass.Goals as goal

pub returns-in-Always : goal.returns-in-Always
unfolding means_here local_numbers
returns-in-Always c = passed-same c.requires.room (λ s h. rw c.in-Always.is (rw c.always_gate.ensures (gate-always _))) (passed-gate _ c.requires.room c.gate_pass.ensures)

pub returns-in-HasLabel : goal.returns-in-HasLabel
unfolding means_here
returns-in-HasLabel c = passed-same c.requires.room (λ s h. rw c.in-HasLabel.is refl) c.label_pass.ensures

pub returns-in-Negation : goal.returns-in-Negation
unfolding means_here local_numbers
returns-in-Negation c = let p = c.requires in let h = p.earlier (rw c.in-Negation.is refl) in passed-same p.room (λ s l. rw (c.in-Negation.is, c.not_gate.ensures) (gate-not _ _ ∙ rw (earlier-in p.room h.0))) (passed-gate _ p.room c.gate_pass-in-Negation.ensures)

pub returns-in-Disjunction : goal.returns-in-Disjunction
unfolding means_here local_numbers
returns-in-Disjunction c = let p = c.requires in let h = p.earlier (rw c.in-Disjunction.is refl) in passed-same p.room (λ s l. rw (c.in-Disjunction.is, c.or_gate.ensures) (gate-or _ _ _ ∙ rw (earlier-in p.room h.0, earlier-in p.room h.1))) (passed-gate _ p.room c.gate_pass-in-Disjunction.ensures)

pub returns-in-Conjunction : goal.returns-in-Conjunction
unfolding means_here local_numbers
returns-in-Conjunction c = let p = c.requires in let h = p.earlier (rw c.in-Conjunction.is refl) in passed-same p.room (λ s l. rw (c.in-Conjunction.is, c.and_gate.ensures) (gate-and _ _ _ ∙ rw (earlier-in p.room h.0, earlier-in p.room h.1))) (passed-gate _ p.room c.gate_pass-in-Conjunction.ensures)
