use Rattle.u_fleet.proofs.Sharing.{IsShareBelow}
use Rattle.u_fleet.proofs.shares.share_of.Given as goal

abbrev pub invariant-loop-bucket : goal.invariant-loop-bucket
invariant-loop-bucket l = IsShareBelow l.bucket l.worker l.workers l.round l.mask
