use Rattle.std.proofs.Common.{◌∙◌, Some, sym, subst}
use Rattle.std.specs.Prelude.{◌≡◌, slice_get}
use Rattle.std.proofs.lemmas.Result.{IfOk-weaker}
use Rattle.u_rule.specs.declared.firing.Firing.{Firing}
use Rattle.u_machine.proofs.Lists.{slice_get_at}
use Rattle.u_trace.proofs.finding.Given.at.Goals as goal

pub returns : goal.returns
returns c =
    let at = slice_get_at c.args.self.now.firings.now c.args.place c.index-self-place.result c.requires c.index-self-place.is in
    IfOk-weaker c.copy.result _ _ (λ f e. subst (λ (g : Firing). slice_get c.args.self.now.firings.now c.args.place ≡ Some g) (c.index-self-place.is ∙ sym e) at) c.copy.ensures
