use Rattle.std.proofs.Common.{rules, [], ◌∷◌, None}
use Rattle.u_rule.specs.EntryOrder.{firing}
use Rattle.u_sets.proofs.Gathering.{scan_all}
use Rattle.u_match.specs.Joins.{IsKept, IsOne}
use Rattle.u_sets.proofs.Steps.{round}
use Rattle.u_match.proofs.Steps.{renamed}
use Rattle.u_sets.specs.Members.{SomeOf}
use Rattle.u_match.specs.Finite.{HasSome}
use Rattle.u_match.proofs.Finite.{too_many, some_at, some_renamed}
use Rattle.u_match.proofs.joining_tokens.Joining.add_ones.Goals as goal

pub loop-first-preserved : goal.loop-first-preserved
loop-first-preserved c =
    round (IsOne c.args.self.now.job.now c.args.self.now.activity.now) c.args.found.now.items c.loop-first.found.items c.add.new.found.items c.args.firsts.now c.loop-first.first-index c.first-item.result c.loop-first-test.true c.first-item.is c.loop-first.invariant
    (renamed c.args.self.now.job.now c.in_ok-single.single (firing c.args.self.now.activity.now (c.first-item.result ∷ []) (None)) c.loop-first.found.items c.add.new.found.items c.in_ok-single.ensures c.in_ok-add.ensures.ok)

pub returns-clause-ok : goal.returns-clause-ok
returns-clause-ok c = scan_all (IsOne c.args.self.now.job.now c.args.self.now.activity.now) c.args.found.now.items c.args.firsts.now c.loop-first.first-index c.loop-first.found.items c.loop-first-test.false c.loop-first.invariant

pub returns-in_err-add-clause-many : goal.returns-in_err-add-clause-many
returns-in_err-add-clause-many c =
    too_many c.from_residual-in_err-add.result (HasSome (IsKept c.args.self.now.job.now c.in_ok-single.single)) (HasSome (SomeOf c.args.firsts.now (IsOne c.args.self.now.job.now c.args.self.now.activity.now)))
    (λ some. some_at (IsOne c.args.self.now.job.now c.args.self.now.activity.now) c.args.firsts.now c.loop-first.first-index c.first-item.result c.loop-first-test.true c.first-item.is (some_renamed c.args.self.now.job.now c.in_ok-single.single (firing c.args.self.now.activity.now (c.first-item.result ∷ []) (None)) c.in_ok-single.ensures some)) (search rules)
