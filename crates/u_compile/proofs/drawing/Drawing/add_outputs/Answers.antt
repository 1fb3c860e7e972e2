use Rattle.std.proofs.Common.{List, [], ◌∷◌, ◌++◌, sym, subst}
use Rattle.u_compile.specs.declared.graph.Output.{Output}
use Rattle.u_compile.specs.Drawings.{IsDrawn}
use Rattle.u_compile.proofs.DrawingLaws.{drawn_values, on_one}
use Rattle.u_compile.proofs.drawing.Drawing.add_outputs.Goals as goal

pub invariant_of-self-2 : goal.invariant_of-self-2
invariant_of-self-2 c =
    let s = c.self.inside in
    subst (λ (vs : List (List Output)). IsDrawn s.graph.graph.statements s.graph.graph.links vs s.gates.items s.broken) (sym c.in_ok-push.ensures.items) (drawn_values s.graph.graph.statements s.graph.graph.links s.values.items (s.values.items ++ (c.args.list.items ∷ [])) s.gates.items s.broken c.self.invariant (on_one s.values.items c.args.list.items))
