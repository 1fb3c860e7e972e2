use Rattle.u_pictures.proofs.clusters.+push_unnest.Given as goal

abbrev pub decreases-push_unnest : goal.decreases-push_unnest
decreases-push_unnest l = l.depth
