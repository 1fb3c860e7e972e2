use Rattle.std.proofs.Common.{Option, refl, subst}
use Rattle.std.proofs.lemmas.Result.{IfOk-weaker}
use Rattle.u_compile.specs.declared.graph.Output.{Output}
use Rattle.u_compile.specs.Drawings.{IsOwn, own, pass}
use Rattle.u_compile.proofs.drawing.Drawing.control.Goals as goal

pub returns-in-Some : goal.returns-in-Some
returns-in-Some c = own refl (subst (λ (o : Option Output). IsOwn c.args.self.now c.args.value o) c.in-Some.is c.in_ok-one.ensures)

pub returns-in-None : goal.returns-in-None
returns-in-None c =
    let none = subst (λ (o : Option Output). IsOwn c.args.self.now c.args.value o) c.in-None.is c.in_ok-one.ensures in
    IfOk-weaker c.add_pass.result _ _ (λ o h. pass none h.0 h.1) c.add_pass.ensures
