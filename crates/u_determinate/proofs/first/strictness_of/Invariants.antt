use Rattle.u_determinate.proofs.Breaches.{KeptRules}
use Rattle.u_determinate.proofs.first.strictness_of.Given as goal

abbrev pub invariant-loop-rule : goal.invariant-loop-rule
invariant-loop-rule l = KeptRules l.blocks l.rule-index
