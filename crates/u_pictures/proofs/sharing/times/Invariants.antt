use Rattle.std.proofs.Common.{◌≡◌, ◌≤◌, take}
use Rattle.u_pictures.specs.Sharing.{times}
use Rattle.u_pictures.proofs.sharing.times.Given as goal

abbrev pub invariant-loop-statement : goal.invariant-loop-statement
invariant-loop-statement l = (l.count ≡ times l.to (take l.statement-index l.statements)) × (l.count ≤ l.statement-index)
