use Rattle.u_commands.proofs.RanLaws.{run_refused}
use Rattle.u_commands.proofs.restoring.run_behind.Goals as goal

pub returns-in-Err : goal.returns-in-Err
returns-in-Err g c = rw c.fault_of.ensures (run_refused c.args.machine.now c.run_watched-ran.new.machine c.args.firings c.holds.ensures.is c.in-Err.refusal c.in-Err.ensures.answer)

pub returns : goal.returns
returns g c =
    record {
      end = c.in-Ok.ran;
      machine = c.run_watched-ran.new.machine;
      is_machine = c.holds.ensures.is;
      ran = c.in-Ok.ensures.answer;
      report = c.in_ok-report.report.text.items;
      reported = rw c.ending_of-state.ensures at c.in_ok-report.ensures;
      is = rw c.deref.ensures.value at c.in_ok-text.ensures;
    }
