use Rattle.std.proofs.Common.{length}
use Rattle.std.specs.Prelude.{IfSome, IfNone, Contains}
use Rattle.u_rule.specs.Rule.{own_of}
use Rattle.u_machine.specs.Invariant.{Invariant, MakesMore, NeedsNoLate}
use Rattle.u_machine.proofs.parts.Parts.make_for.Given as goal

abbrev pub invariant-loop-need : goal.invariant-loop-need
invariant-loop-need l = record {
  kept : Invariant l.self;
  makes : MakesMore l.fn.self l.self;
  some : IfSome l.need (λ e. Contains l.self.late e × Contains ((own_of l.self.job.now).needs l.firing) e);
  none : IfNone l.need (NeedsNoLate l.self l.firing);
}

abbrev pub decreases-loop-need : goal.decreases-loop-need
decreases-loop-need l = length l.self.late
