use Rattle.u_fleet.proofs.Reporting.{fresh_full}
use Rattle.u_fleet.proofs.report.machine_of.Goals as goal

pub returns-in-Err-clause-full : goal.returns-in-Err-clause-full
returns-in-Err-clause-full g c = λ e. fresh_full _ _ _ _ c.in_ok-replica.replica c.requires.job c.in_ok-replica.ensures ((c.in-Err.ensures).full e)
