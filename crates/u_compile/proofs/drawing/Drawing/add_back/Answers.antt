use Rattle.std.proofs.Common.{◌≡◌, length, [], ◌∷◌, ap, ◌∙◌}
use Rattle.std.proofs.lemmas.Result.{IfOk-weaker}
use Rattle.u_program.specs.declared.program.Kind.TheVariants.{Back}
use Rattle.u_compile.specs.declared.graph.Output.{Output}
use Rattle.u_compile.specs.Placed.{PlacedParts}
use Rattle.u_compile.specs.Drawings.{DrawingParts, with_value}
use Rattle.u_compile.proofs.DrawingLaws.{gives_value}
use Rattle.u_compile.proofs.LeadLaws.{same_drawn, seen}
use Rattle.u_compile.proofs.drawing.Drawing.add_back.Goals as goal

pub invariant_of-self-2 : goal.invariant_of-self-2
invariant_of-self-2 c =
    let s = c.self.inside in
    same_drawn s.graph c.finish_call.new.self s.values.items s.gates.items s.broken (ap (λ (p : PlacedParts). p.graph.statements) c.in_ok-finish_call.ensures) (ap (λ (p : PlacedParts). p.graph.links) c.in_ok-finish_call.ensures) c.self.invariant

pub returns : goal.returns
returns c =
    let s = c.self.inside in
    let here : seen c.finish_call.new.self s.scopes.items s.values.items s.gates.items s.carried.items ≡ c.add.new.self =
    ap (λ (p : PlacedParts). seen p s.scopes.items s.values.items s.gates.items s.carried.items) c.in_ok-finish_call.ensures ∙ c.self.view_is in
    IfOk-weaker c.add_value.result _ _ (λ v h. gives_value c.args.self.now c.add.new.self Back [] c.in_ok-back.back v c.add_value.new.self c.in_ok-back.ensures.adds c.in_ok-back.ensures.number (h.0 ∙ ap (λ (d : DrawingParts). length d.values) here) (h.1 ∙ (ap (λ (d : DrawingParts). with_value d (c.output_of.result ∷ [])) here ∙ ap (λ (o : Output). with_value c.add.new.self (o ∷ [])) c.output_of.ensures))) c.add_value.ensures
