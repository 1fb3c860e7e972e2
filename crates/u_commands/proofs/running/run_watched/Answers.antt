use Rattle.u_machine.proofs.Runs.{run_fresh}
use Rattle.u_commands.proofs.running.run_watched.Goals as goal

pub returns-clause-plain : goal.returns-clause-plain
returns-clause-plain g c = λ fresh.
    run_fresh c.args.machine.now c.run_pieces-ran.new.machine c.args.firings c.run_pieces-ran.result c.run_pieces-ran.ensures c.holds.ensures.is.sound fresh
