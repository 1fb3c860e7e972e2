use Rattle.std.proofs.Common.{◌∙◌, length}
use Rattle.u_determinate.proofs.GuardTables.{no_guards_yet}
use Rattle.u_determinate.proofs.guards.guards_of.Goals as goal

pub add_guards-requires-clause-none : goal.add_guards-requires-clause-none
add_guards-requires-clause-none c = no_guards_yet c.statements.result.now (length c.loops.result.now) c.deref_mut.result.now (c.deref_mut.ensures.value ∙ c.in_ok-table.ensures)
