use Rattle.std.proofs.Common.{rules, [], ◌∷◌, Some}
use Rattle.u_rule.specs.EntryOrder.{firing}
use Rattle.u_sets.proofs.Gathering.{scan_all}
use Rattle.u_match.specs.Joins.{IsKept, IsReading}
use Rattle.u_sets.proofs.Steps.{round}
use Rattle.u_match.proofs.Steps.{renamed}
use Rattle.u_sets.specs.Members.{SomeOf}
use Rattle.u_match.specs.Finite.{HasSome}
use Rattle.u_match.proofs.Finite.{too_many, some_at, some_renamed}
use Rattle.u_match.proofs.joining_tokens.Joining.add_readings.Goals as goal

pub loop-write-preserved : goal.loop-write-preserved
loop-write-preserved c =
    round (IsReading c.args.self.now.job.now c.args.self.now.activity.now c.args.first.now c.args.second.now) c.args.found.now.items c.loop-write.found.items c.add.new.found.items c.args.writes.now c.loop-write.write-index c.write-item.result c.loop-write-test.true c.write-item.is c.loop-write.invariant
    (renamed c.args.self.now.job.now c.in_ok-reading.reading (firing c.args.self.now.activity.now (c.args.first.now ∷ c.args.second.now ∷ []) (Some c.write-item.result)) c.loop-write.found.items c.add.new.found.items c.in_ok-reading.ensures c.in_ok-add.ensures.ok)

pub returns-clause-ok : goal.returns-clause-ok
returns-clause-ok c = scan_all (IsReading c.args.self.now.job.now c.args.self.now.activity.now c.args.first.now c.args.second.now) c.args.found.now.items c.args.writes.now c.loop-write.write-index c.loop-write.found.items c.loop-write-test.false c.loop-write.invariant

pub returns-in_err-add-clause-many : goal.returns-in_err-add-clause-many
returns-in_err-add-clause-many c =
    too_many c.from_residual-in_err-add.result (HasSome (IsKept c.args.self.now.job.now c.in_ok-reading.reading)) (HasSome (SomeOf c.args.writes.now (IsReading c.args.self.now.job.now c.args.self.now.activity.now c.args.first.now c.args.second.now)))
    (λ some. some_at (IsReading c.args.self.now.job.now c.args.self.now.activity.now c.args.first.now c.args.second.now) c.args.writes.now c.loop-write.write-index c.write-item.result c.loop-write-test.true c.write-item.is (some_renamed c.args.self.now.job.now c.in_ok-reading.reading (firing c.args.self.now.activity.now (c.args.first.now ∷ c.args.second.now ∷ []) (Some c.write-item.result)) c.in_ok-reading.ensures some)) (search rules)
