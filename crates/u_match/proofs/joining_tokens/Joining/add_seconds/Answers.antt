use Rattle.std.proofs.Common.{rules}
use Rattle.std.specs.Prelude.{Contains}
use Rattle.u_sets.proofs.Gathering.{scan_all}
use Rattle.u_match.specs.Joins.{JoinsTwo}
use Rattle.u_sets.proofs.Steps.{round}
use Rattle.u_sets.specs.Members.{SomeOf}
use Rattle.u_match.specs.Finite.{HasSome}
use Rattle.u_match.proofs.Finite.{too_many, some_at}
use Rattle.u_match.proofs.joining_tokens.Joining.add_seconds.Goals as goal

pub loop-second-preserved : goal.loop-second-preserved
loop-second-preserved c =
    round (JoinsTwo c.args.self.now.job.now (Contains c.args.self.now.history.now.entries) c.args.self.now.activity.now c.args.first.now) c.args.found.now.items c.loop-second.found.items c.add_two.new.found.items c.args.seconds.now c.loop-second.second-index c.second-item.result c.loop-second-test.true c.second-item.is c.loop-second.invariant c.in_ok-add_two.ensures.ok

pub returns-clause-ok : goal.returns-clause-ok
returns-clause-ok c = scan_all (JoinsTwo c.args.self.now.job.now (Contains c.args.self.now.history.now.entries) c.args.self.now.activity.now c.args.first.now) c.args.found.now.items c.args.seconds.now c.loop-second.second-index c.loop-second.found.items c.loop-second-test.false c.loop-second.invariant

pub returns-in_err-add_two-clause-many : goal.returns-in_err-add_two-clause-many
returns-in_err-add_two-clause-many c =
    too_many c.from_residual.result (HasSome (JoinsTwo c.args.self.now.job.now (Contains c.args.self.now.history.now.entries) c.args.self.now.activity.now c.args.first.now c.second-item.result)) (HasSome (SomeOf c.args.seconds.now (JoinsTwo c.args.self.now.job.now (Contains c.args.self.now.history.now.entries) c.args.self.now.activity.now c.args.first.now)))
    (some_at (JoinsTwo c.args.self.now.job.now (Contains c.args.self.now.history.now.entries) c.args.self.now.activity.now c.args.first.now) c.args.seconds.now c.loop-second.second-index c.second-item.result c.loop-second-test.true c.second-item.is) (search rules)
