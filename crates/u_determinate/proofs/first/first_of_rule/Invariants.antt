use Rattle.u_determinate.proofs.Breaches.{Kept}
use Rattle.u_determinate.proofs.first.first_of_rule.Given as goal

abbrev pub invariant-loop-i : goal.invariant-loop-i
invariant-loop-i l = Kept l.blocks l.rule l.i
