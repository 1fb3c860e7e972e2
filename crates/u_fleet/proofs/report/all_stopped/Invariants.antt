use Rattle.std.proofs.Common.{◌≡◌, ℕ, ◌<◌, true, slice_index_or}
use Rattle.u_fleet.specs.declared.plan.End.TheVariants.{Stopped}
use Rattle.u_fleet.proofs.report.all_stopped.Given as goal

abbrev pub invariant-loop-end : goal.invariant-loop-end
invariant-loop-end l = l.memory ≡ true → (j : ℕ) → j < l.end-index → slice_index_or l.ends j Stopped ≡ Stopped
