use Rattle.std.proofs.Common.{[], ◌∷◌, ap, ◌∙◌}
use Rattle.std.proofs.lemmas.Result.{IfOk-weaker}
use Rattle.u_compile.specs.declared.graph.Output.{Output}
use Rattle.u_compile.specs.Drawings.{DrawingParts, with_value}
use Rattle.u_compile.proofs.DrawingLaws.{gives_value}
use Rattle.u_compile.proofs.drawing.Drawing.add_giving.Goals as goal

pub returns-clause-gives : goal.returns-clause-gives
returns-clause-gives c =
    IfOk-weaker c.add_value.result _ _ (λ v h. gives_value c.args.self.now c.add.new.self c.args.kind.now c.args.inputs.now c.in_ok-statement.statement v c.add_value.new.self c.in_ok-statement.ensures.adds c.in_ok-statement.ensures.number h.0 (h.1 ∙ ap (λ (o : Output). with_value c.add.new.self (o ∷ [])) c.output_of.ensures)) c.add_value.ensures

pub returns-clause-stands : goal.returns-clause-stands
returns-clause-stands c =
    IfOk-weaker c.add_value.result _ _ (λ v h. record { at = c.in_ok-place.place; is = c.in_ok-place.ensures; adds = ap (λ (d : DrawingParts). d.places) h.1 ∙ c.in_ok-statement.ensures.places }) c.add_value.ensures
