use Rattle.std.proofs.Common.{◌≡◌, ℕ, ◌<◌, slice_index_or}
use Rattle.u_fleet.specs.declared.plan.End.TheVariants.{Done}
use Rattle.u_fleet.proofs.report.first_done.Given as goal

abbrev pub invariant-loop-place : goal.invariant-loop-place
invariant-loop-place l = (j : ℕ) → j < l.place → slice_index_or l.ends j Done ≡ Done → ⊥
