use Rattle.std.proofs.Common.{length}
use Rattle.u_machine.proofs.late_tokens.+first_in.Given as goal

abbrev pub decreases-first_in : goal.decreases-first_in
decreases-first_in l = length l.values.now
