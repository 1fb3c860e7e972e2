use Rattle.std.proofs.Common.{[], ◌∷◌}
use Rattle.std.specs.Prelude.{not}
use Rattle.std.proofs.lemmas.Result.{IfOk-weaker}
use Rattle.u_compile.specs.Graphs.{output}
use Rattle.u_compile.proofs.DrawingLaws.{gated_value, value_grows}
use Rattle.u_compile.proofs.drawing.Drawing.gated.Goals as goal

pub returns-clause-grows : goal.returns-clause-grows
returns-clause-grows c =
    IfOk-weaker c.add_value.result _ _ (λ w h. value_grows c.args.self.now c.gate.new.self c.add_value.new.self (output c.in_ok-switch.switch (not c.args.on) ∷ []) c.in_ok-switch.ensures.grows h.1) c.add_value.ensures

pub returns-clause-gated : goal.returns-clause-gated
returns-clause-gated c =
    IfOk-weaker c.add_value.result _ _ (λ w h. gated_value c.gate.new.self c.add_value.new.self c.args.control c.args.on c.args.value c.in_ok-switch.switch w c.in_ok-switch.ensures.gate h.0 h.1) c.add_value.ensures
