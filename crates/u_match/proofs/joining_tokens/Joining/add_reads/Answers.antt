use Rattle.std.proofs.Common.{rules}
use Rattle.std.specs.Prelude.{Contains}
use Rattle.u_sets.specs.Members.{SomeOf}
use Rattle.u_match.specs.Finite.{HasSome}
use Rattle.u_match.specs.Joins.{IsReading, ReadsCell}
use Rattle.u_match.proofs.Finite.{too_many}
use Rattle.u_sets.proofs.Steps.{nothing}
use Rattle.u_match.proofs.Steps.{no_cell, of_cell}
use Rattle.u_match.proofs.joining_tokens.Joining.add_reads.Goals as goal

pub returns-in-None-clause-ok : goal.returns-in-None-clause-ok
returns-in-None-clause-ok c =
    nothing (ReadsCell c.args.self.now.job.now (Contains c.args.self.now.history.now.entries) c.args.self.now.activity.now c.args.first.now c.args.second.now) c.args.found.now.items
    (no_cell c.args.self.now.job.now (Contains c.args.self.now.history.now.entries) c.args.self.now.activity.now c.args.first.now c.args.second.now c.in_ok-named.named c.in-None.is c.in_ok-named.ensures)

pub returns-clause-ok : goal.returns-clause-ok
returns-clause-ok c =
    of_cell c.args.self.now.job.now (Contains c.args.self.now.history.now.entries) c.args.self.now.activity.now c.args.first.now c.args.second.now c.in_ok-named.named c.in-Some.cell c.writes_to-writes.result.now c.args.found.now.items c.add_readings.new.found.items c.in-Some.is c.in_ok-named.ensures c.writes_to-writes.ensures.all c.in_ok-add_readings.ensures.ok

pub returns-in_err-add_readings-clause-many : goal.returns-in_err-add_readings-clause-many
returns-in_err-add_readings-clause-many c =
    too_many c.from_residual-in_err-add_readings.result (HasSome (SomeOf c.writes_to-writes.result.now (IsReading c.args.self.now.job.now c.args.self.now.activity.now c.args.first.now c.args.second.now))) (HasSome (ReadsCell c.args.self.now.job.now (Contains c.args.self.now.history.now.entries) c.args.self.now.activity.now c.args.first.now c.args.second.now))
    (λ (f, (x, m, k)). (f, (c.in-Some.cell, (c.in_ok-named.ensures c.in-Some.cell).0 c.in-Some.is, (x, (c.writes_to-writes.ensures.all x).0 m, k)))) (search rules)
