use Rattle.u_commands.proofs.InPieces.{HasRun}
use Rattle.u_commands.proofs.running.run_pieces.Given as goal

abbrev pub invariant-loop-left : goal.invariant-loop-left
invariant-loop-left g l = HasRun l.fn.machine l.left l.firings l.machine

abbrev pub decreases-loop-left : goal.decreases-loop-left
decreases-loop-left g l = l.left
