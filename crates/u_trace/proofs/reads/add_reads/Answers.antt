use Rattle.std.specs.Prelude.{Contains}
use Rattle.u_sets.specs.Members.{SomeOf}
use Rattle.u_trace.specs.Gathering.{ReadsOn, ReadsAt}
use Rattle.u_sets.proofs.Steps.{alike_on_ok}
use Rattle.u_trace.proofs.ReadLaws.{reads_of_indices}
use Rattle.u_trace.proofs.reads.add_reads.Goals as goal

pub returns-clause-ok : goal.returns-clause-ok
returns-clause-ok c =
    alike_on_ok (SomeOf c.values_at-indices.result.now (ReadsOn (Contains c.args.history.now) c.activity-reader.result.now c.value.result.now)) (ReadsAt c.args.program.now.blocks (Contains c.args.history.now) c.args.entry.now) c.args.found.now.items c.add_reads_with.new.found.items c.add_reads_with.result
    (reads_of_indices c.args.program.now.blocks (Contains c.args.history.now) c.args.entry.now c.in-Token.token c.in-Token.is c.values_at-indices.result.now c.activity-reader.result.now c.in_ok-activity.activity c.value.result.now c.activity-reader.ensures c.in_ok-activity.ensures c.value.ensures c.values_at-indices.ensures.all (c.is_structure.ensures.0 c.if-not-is_structure.false))
    c.add_reads_with.ensures.ok
