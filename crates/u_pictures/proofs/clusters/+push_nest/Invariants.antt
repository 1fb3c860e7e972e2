use Rattle.u_pictures.proofs.clusters.+push_nest.Given as goal

abbrev pub decreases-push_nest : goal.decreases-push_nest
decreases-push_nest l = l.depth
