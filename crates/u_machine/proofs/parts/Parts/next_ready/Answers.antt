use Rattle.std.proofs.Common.{rules, sym}
use Rattle.u_machine.proofs.Picking.{picks_least}
use Rattle.u_machine.proofs.parts.Parts.next_ready.Goals as goal

pub returns-in-Some : goal.returns-in-Some
returns-in-Some c = picks_least c.args.self.now c.requires (search rules) (c.knows_least.ensures.least (search rules)) c.is_empty-none.ensures.rises c.in-Some.firing.now (sym c.in-Some.ensures)
