use Rattle.std.proofs.Common.{◌≡◌, ◌∙◌, sym, ap, Some}
use Rattle.u_machine.proofs.parts.Parts.is_least.Goals as goal

pub returns-in-Some : goal.returns-in-Some
returns-in-Some c = (
  (λ t. sym c.in-Some.ensures ∙ ap Some (c.is_same.ensures.0 t)),
  λ e. c.is_same.ensures.1 (let k : Some c.in-Some.least.now ≡ Some c.args.firing.now = c.in-Some.ensures ∙ e in cc),
)
