use Rattle.u_fleet.proofs.fleet.run_fleet.Given as goal

abbrev pub ghosts-fleet_of : goal.ghosts-fleet_of
ghosts-fleet_of g a = record { job = a.job.now }
