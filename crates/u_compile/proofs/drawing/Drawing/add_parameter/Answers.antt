use Rattle.std.proofs.Common.{ℕ, ◌+◌, refl, ap, ◌∙◌}
use Rattle.u_program.specs.declared.program.Kind.TheVariants.{Param}
use Rattle.u_compile.specs.Drawings.{further}
use Rattle.u_compile.proofs.drawing.Drawing.add_parameter.Goals as goal

pub returns : goal.returns
returns c = (Param c.in_ok-parameter.parameter, further c.in_ok-parameter.parameter (c.in_ok-parameter.ensures ∙ ap (λ (n : ℕ). n + 1) c.len-2.ensures) refl, c.in_ok-value-2.ensures.gives)
