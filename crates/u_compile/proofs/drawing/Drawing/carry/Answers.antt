use Rattle.std.proofs.Common.{◌≡◌, ℕ, ◌+◌, List, [], ◌∷◌, ◌++◌, length, None, refl, sym, ap, ◌∙◌, subst}
use Rattle.std.proofs.lemmas.Result.{IfOk-weaker}
use Rattle.u_program.specs.declared.program.Kind.TheVariants.{Enter}
use Rattle.u_compile.specs.declared.graph.Output.{Output}
use Rattle.u_compile.specs.declared.drawing.Carried.{Carried}
use Rattle.u_compile.specs.Drawings.{DrawingParts, Adds, a_carried, drawing, with_value}
use Rattle.u_compile.proofs.DrawingLaws.{adds_again, gives_value}
use Rattle.u_compile.specs.Placed.{places_of}
use Rattle.u_compile.proofs.drawing.Drawing.carry.Goals as goal

pub returns-clause-carried : goal.returns-clause-carried
returns-clause-carried c =
    let s = c.self.inside in
    let d = c.args.self.now in
    let had : s.carried.items ≡ d.carried = ap (λ (e : DrawingParts). e.carried) c.self.view_is ∙ c.in_ok-enter.ensures.carried in
    let now : c.push.new.self.items ≡ d.carried ++ (a_carried c.args.turn c.args.name (length d.statements + 1) None ∷ []) = c.in_ok-push.ensures.items ∙ (ap (λ (cs : List Carried). cs ++ (a_carried c.args.turn c.args.name c.in_ok-enter.enter None ∷ [])) had ∙ ap (λ (n : ℕ). d.carried ++ (a_carried c.args.turn c.args.name n None ∷ [])) c.in_ok-enter.ensures.number) in
    IfOk-weaker c.add_value.result _ _ (λ v h. ap (λ (e : DrawingParts). e.carried) h.1 ∙ now) c.add_value.ensures

pub returns-clause-gives : goal.returns-clause-gives
returns-clause-gives c =
    let s = c.self.inside in
    let d = c.args.self.now in
    let ds = s.graph.graph.statements in
    let ls = s.graph.graph.links in
    let ps = places_of s.graph in
    let e = drawing ds ls s.scopes.items s.values.items s.gates.items c.push.new.self.items ps in
    let ins = c.args.value ∷ [] in
    let a = adds_again d ds ls s.scopes.items s.values.items s.gates.items s.gates.items s.carried.items c.push.new.self.items ps (Enter c.args.number) ins (subst (λ (f : DrawingParts). Adds d f (Enter c.args.number) ins) (sym c.self.view_is) c.in_ok-enter.ensures.adds) (a_carried c.args.turn c.args.name c.in_ok-enter.enter None) refl c.in_ok-push.ensures.items in
    IfOk-weaker c.add_value.result _ _ (λ v h. gives_value d e (Enter c.args.number) ins c.in_ok-enter.enter v c.add_value.new.self a c.in_ok-enter.ensures.number h.0 (h.1 ∙ ap (λ (o : Output). with_value e (o ∷ [])) c.output_of.ensures)) c.add_value.ensures
