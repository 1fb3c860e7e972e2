use Rattle.std.proofs.Common.{List, ap, ◌∙◌, subst}
use Rattle.u_compile.specs.declared.drawing.Carried.{Carried}
use Rattle.u_compile.specs.Drawings.{DrawingParts, IsOpen}
use Rattle.u_compile.proofs.CarriedLaws.{sets_next}
use Rattle.u_compile.proofs.drawing.Drawing.set_next.Goals as goal

pub returns-in-Some-clause-sets : goal.returns-in-Some-clause-sets
returns-in-Some-clause-sets c =
    let is = subst (λ (cs : List Carried). IsOpen cs c.args.turn c.args.name c.in-Some.number) (c.deref.ensures.value ∙ ap (λ (d : DrawingParts). d.carried) c.self.view_is) c.in-Some.ensures in
    sets_next c.args.self.now c.keep_next.new.self c.args.turn c.args.name c.in-Some.number c.args.value is c.keep_next.ensures.same c.keep_next.ensures.sets
