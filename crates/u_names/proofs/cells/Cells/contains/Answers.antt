use Rattle.std.proofs.Common.{◌↔◌, Contains, IsTrue, false, subst}
use Rattle.u_names.proofs.Celled.{at_spot, under_none}
use Rattle.u_names.proofs.cells.Cells.contains.Goals as goal

pub returns-in-Some : goal.returns-in-Some
returns-in-Some g c =
    let u = at_spot c.self.inside.structures c.self.invariant.structures c.self.inside.pairs c.self.invariant.placed c.in-Some.place c.args.cell.now c.args.value.now c.in-Some.ensures.structure c.in-Some.ensures.index in
    subst (λ ps. IsTrue c.contains.result ↔ Contains ps (c.args.cell.now, c.args.value.now)) c.self.view_is ((λ t. u.0 (c.contains.ensures.0 t)), λ m. c.contains.ensures.1 (u.1 m))

pub returns-in-None : goal.returns-in-None
returns-in-None g c =
    let none = under_none c.self.inside.structures c.self.invariant.structures c.self.inside.pairs c.self.invariant.placed c.args.cell.now c.args.value.now c.in-None.ensures.none in
    subst (λ ps. IsTrue false ↔ Contains ps (c.args.cell.now, c.args.value.now)) c.self.view_is ((λ t. absurd (cc)), λ m. absurd (none m))
