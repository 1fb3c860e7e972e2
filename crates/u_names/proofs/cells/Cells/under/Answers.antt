use Rattle.std.proofs.Common.{◌↔◌, [], Contains, subst}
use Rattle.u_base.proofs.Member.{Contains-nil}
use Rattle.u_names.proofs.Celled.{at_spot, under_none}
use Rattle.u_names.proofs.cells.Cells.under.Goals as goal

pub returns-in-Some-clause-all : goal.returns-in-Some-clause-all
returns-in-Some-clause-all g c v =
    let u = at_spot c.self.inside.structures c.self.invariant.structures c.self.inside.pairs c.self.invariant.placed c.in-Some.place c.args.cell.now v c.in-Some.ensures.structure c.in-Some.ensures.index in
    let all = c.under.ensures.all v in
    subst (λ ps. Contains c.under.result.now v ↔ Contains ps (c.args.cell.now, v)) c.self.view_is ((λ m. u.0 (all.0 m)), λ m. all.1 (u.1 m))

pub returns-in-None-clause-all : goal.returns-in-None-clause-all
returns-in-None-clause-all g c v =
    let none = under_none c.self.inside.structures c.self.invariant.structures c.self.inside.pairs c.self.invariant.placed c.args.cell.now v c.in-None.ensures.none in
    subst (λ ps. Contains [] v ↔ Contains ps (c.args.cell.now, v)) c.self.view_is ((λ m. absurd (Contains-nil v m)), λ m. absurd (none m))
