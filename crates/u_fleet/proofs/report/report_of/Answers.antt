use Rattle.u_fleet.proofs.Ended.{have_runs, runs_sound}
use Rattle.u_fleet.proofs.report.report_of.Goals as goal

pub returns-clause-report : goal.returns-clause-report
returns-clause-report g c =
    record {
      ended = c.requires.ended;
      sound = runs_sound _ _ (have_runs _ _ _ _ _ c.requires.ended);
      took = (c.in_ok-machine.ensures).took;
      done = (c.in_ok-machine.ensures).done;
      none_done = (c.in_ok-machine.ensures).none_done;
    }
