use Rattle.u_fleet.proofs.closing.close_unused.Given as goal

abbrev pub decreases-loop-outlet : goal.decreases-loop-outlet
decreases-loop-outlet g l = goal.left-loop-outlet g l
