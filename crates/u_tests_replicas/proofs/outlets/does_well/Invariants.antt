use Rattle.u_tests_replicas.proofs.outlets.does_well.Given as goal

abbrev pub ghosts-goes_well_with_log : goal.ghosts-goes_well_with_log
ghosts-goes_well_with_log g a = record { job = a.machine.now.job }
