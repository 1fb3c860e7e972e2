use Rattle.std.proofs.Common.{List, ap, refl, sym, ◌∙◌, subst}
use Rattle.u_compile.specs.declared.drawing.Gate.{Gate}
use Rattle.u_compile.specs.Scoped.{IsOf}
use Rattle.u_compile.specs.Drawings.{DrawingParts, IsGate, a_gate}
use Rattle.u_compile.proofs.DrawingLaws.{grows_self}
use Rattle.u_compile.proofs.GateLaws.{of_last}
use Rattle.u_compile.proofs.drawing.Drawing.gate.Goals as goal

pub returns-in-Some-clause-grows : goal.returns-in-Some-clause-grows
returns-in-Some-clause-grows c = grows_self c.args.self.now

pub returns-in-Some-clause-gate : goal.returns-in-Some-clause-gate
returns-in-Some-clause-gate c =
    let g = a_gate c.args.control c.args.value c.in-Some.switch in
    let is = subst (λ (gs : List Gate). IsOf gs g) c.deref.ensures.value c.in-Some.ensures.some in
    subst (λ (d : DrawingParts). IsGate d.statements d.links d.values g) c.self.view_is (c.self.invariant.gates g is)

pub returns-in-Some-clause-shared : goal.returns-in-Some-clause-shared
returns-in-Some-clause-shared c =
    let g = a_gate c.args.control c.args.value c.in-Some.switch in
    let is = subst (λ (gs : List Gate). IsOf gs g) c.deref.ensures.value c.in-Some.ensures.some in
    record { switch = c.in-Some.switch; noted = subst (λ (d : DrawingParts). IsOf d.gates g) c.self.view_is is; none_added = λ n h. refl }

pub returns-in_ok-switch-in-None-clause-shared : goal.returns-in_ok-switch-in-None-clause-shared
returns-in_ok-switch-in-None-clause-shared c =
    let before = c.args.self.now.gates in
    let switch = c.in_ok-switch-in-None.switch in
    let same = sym (c.deref.ensures.value ∙ ap (λ (d : DrawingParts). d.gates) c.self.view_is) in
    record {
      switch = switch;
      noted = subst (λ (gs : List Gate). IsOf gs (a_gate c.args.control c.args.value switch)) (sym c.in_ok-switch-in-None.ensures.notes) (of_last before (a_gate c.args.control c.args.value switch));
      none_added = λ n h. absurd (c.in-None.ensures.none n (subst (λ (gs : List Gate). IsOf gs (a_gate c.args.control c.args.value n)) same h));
    }
