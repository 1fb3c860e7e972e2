use Rattle.std.proofs.Common.{rules, ◌∷◌, [], None, inl, inr}
use Rattle.std.specs.Prelude.{Contains}
use Rattle.u_rule.specs.EntryOrder.{firing}
use Rattle.u_match.specs.Joins.{IsKept, IsTwo, ReadsCell, JoinsTwo}
use Rattle.u_sets.proofs.Steps.{both}
use Rattle.u_match.proofs.Steps.{renamed}
use Rattle.u_match.specs.Finite.{HasSome}
use Rattle.u_match.proofs.Finite.{too_many, some_renamed}
use Rattle.u_match.proofs.joining_tokens.Joining.add_two.Goals as goal

pub returns-clause-ok : goal.returns-clause-ok
returns-clause-ok c =
    both (IsTwo c.args.self.now.job.now c.args.self.now.activity.now c.args.first.now c.args.second.now) (ReadsCell c.args.self.now.job.now (Contains c.args.self.now.history.now.entries) c.args.self.now.activity.now c.args.first.now c.args.second.now) c.args.found.now.items c.add.new.found.items c.add_reads.new.found.items
    (renamed c.args.self.now.job.now c.in_ok-joined.joined (firing c.args.self.now.activity.now (c.args.first.now ∷ c.args.second.now ∷ []) None) c.args.found.now.items c.add.new.found.items c.in_ok-joined.ensures c.in_ok-add.ensures.ok)
    c.in_ok-add_reads.ensures.ok

pub returns-in_err-add-clause-many : goal.returns-in_err-add-clause-many
returns-in_err-add-clause-many c =
    too_many c.from_residual-in_err-add.result (HasSome (IsKept c.args.self.now.job.now c.in_ok-joined.joined)) (HasSome (JoinsTwo c.args.self.now.job.now (Contains c.args.self.now.history.now.entries) c.args.self.now.activity.now c.args.first.now c.args.second.now))
    (λ some. let (f, k) = some_renamed c.args.self.now.job.now c.in_ok-joined.joined (firing c.args.self.now.activity.now (c.args.first.now ∷ c.args.second.now ∷ []) None) c.in_ok-joined.ensures some in (f, inl k)) (search rules)

pub returns-in_err-add_reads-clause-many : goal.returns-in_err-add_reads-clause-many
returns-in_err-add_reads-clause-many c = too_many c.from_residual-in_err-add_reads.result (HasSome (ReadsCell c.args.self.now.job.now (Contains c.args.self.now.history.now.entries) c.args.self.now.activity.now c.args.first.now c.args.second.now)) (HasSome (JoinsTwo c.args.self.now.job.now (Contains c.args.self.now.history.now.entries) c.args.self.now.activity.now c.args.first.now c.args.second.now)) (λ (f, k). (f, inr k)) (search rules)
