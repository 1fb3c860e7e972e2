use Rattle.std.proofs.Common.{subst, sym}
use Rattle.std.specs.Prelude.{Contains}
use Rattle.u_rule.specs.EntryOrder.{FiringList}
use Rattle.u_machine.proofs.Turned.{same_items}
use Rattle.u_machine.proofs.parts.Parts.is_woken.Goals as goal

pub returns : goal.returns
returns c =
    let f = c.args.firing.now in
    let same = same_items c.args.self.now.woken.items f in
    let e = c.deref.ensures.value in
    ((λ t. same.0 (subst (λ (fs : FiringList). Contains fs f) e (c.is_among.ensures.0 t))), λ m. c.is_among.ensures.1 (subst (λ (fs : FiringList). Contains fs f) (sym e) (same.1 m)))
