use Rattle.std.proofs.Common.{List, subst}
use Rattle.u_name.specs.Name.{Activity}
use Rattle.u_base.specs.Firing.{Distinct}
use Rattle.u_names.proofs.Framed.{names_distinct}
use Rattle.u_names.proofs.OneNumber.{one_number}
use Rattle.u_names.proofs.name_table.NameTable.are_distinct.Goals as goal

pub returns : goal.returns
returns c =
    one_number c.args.self.now (subst (λ (ns : List Activity). Distinct ns) c.self.view_is
    (names_distinct c.self.inside.frames c.self.invariant.frames c.self.inside.places c.self.invariant.framed c.self.invariant.places))
