use Rattle.std.proofs.Common.{rules}
use Rattle.std.specs.Prelude.{Contains}
use Rattle.u_sets.proofs.Gathering.{scan_all}
use Rattle.u_match.specs.Joins.{JoinsSome}
use Rattle.u_sets.proofs.Steps.{round}
use Rattle.u_sets.specs.Members.{SomeOf}
use Rattle.u_match.specs.Finite.{HasSome}
use Rattle.u_match.proofs.Finite.{too_many, some_at}
use Rattle.u_match.proofs.joining_tokens.Joining.add_twos.Goals as goal

pub loop-first-preserved : goal.loop-first-preserved
loop-first-preserved c =
    round (JoinsSome c.args.self.now.job.now (Contains c.args.self.now.history.now.entries) c.args.self.now.activity.now c.args.seconds.now) c.args.found.now.items c.loop-first.found.items c.add_seconds.new.found.items c.args.firsts.now c.loop-first.first-index c.first-item.result c.loop-first-test.true c.first-item.is c.loop-first.invariant c.in_ok-add_seconds.ensures.ok

pub returns-clause-ok : goal.returns-clause-ok
returns-clause-ok c = scan_all (JoinsSome c.args.self.now.job.now (Contains c.args.self.now.history.now.entries) c.args.self.now.activity.now c.args.seconds.now) c.args.found.now.items c.args.firsts.now c.loop-first.first-index c.loop-first.found.items c.loop-first-test.false c.loop-first.invariant

pub returns-in_err-add_seconds-clause-many : goal.returns-in_err-add_seconds-clause-many
returns-in_err-add_seconds-clause-many c =
    too_many c.from_residual.result (HasSome (JoinsSome c.args.self.now.job.now (Contains c.args.self.now.history.now.entries) c.args.self.now.activity.now c.args.seconds.now c.first-item.result)) (HasSome (SomeOf c.args.firsts.now (JoinsSome c.args.self.now.job.now (Contains c.args.self.now.history.now.entries) c.args.self.now.activity.now c.args.seconds.now)))
    (some_at (JoinsSome c.args.self.now.job.now (Contains c.args.self.now.history.now.entries) c.args.self.now.activity.now c.args.seconds.now) c.args.firsts.now c.loop-first.first-index c.first-item.result c.loop-first-test.true c.first-item.is) (search rules)
