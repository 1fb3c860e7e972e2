use Rattle.std.proofs.Common.{◌∙◌, length}
use Rattle.u_determinate.proofs.GuardTables.{none_possible_yet}
use Rattle.u_determinate.proofs.possible.possible_tests.Goals as goal

pub mark_all-requires : goal.mark_all-requires
mark_all-requires c = none_possible_yet c.statements.result.now (length c.loops.result.now) c.deref_mut.result.now (c.deref_mut.ensures.value ∙ c.in_ok-table.ensures)
