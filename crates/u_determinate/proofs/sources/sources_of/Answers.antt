use Rattle.std.proofs.Common.{◌∙◌}
use Rattle.u_determinate.proofs.SourceTables.{none_yet}
use Rattle.u_determinate.proofs.sources.sources_of.Goals as goal

pub add_all-requires : goal.add_all-requires
add_all-requires c = none_yet c.args.statements.now c.args.port c.deref_mut.result.now (c.deref_mut.ensures.value ∙ c.in_ok-table.ensures)
