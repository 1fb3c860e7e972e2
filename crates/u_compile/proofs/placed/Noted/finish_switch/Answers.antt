use Rattle.std.proofs.Common.{sym, subst}
use Rattle.u_compile.specs.Placed.{PlacedParts, IsPlaced, finished}
use Rattle.u_compile.proofs.PlacedTests.{switch_finished}
use Rattle.u_compile.proofs.placed.Noted.finish_switch.Goals as goal

pub invariant_of-self : goal.invariant_of-self
invariant_of-self c =
    let now = c.args.self.now in
    let is : IsPlaced now = subst IsPlaced c.self.view_is c.self.invariant in
    subst (λ (p : PlacedParts). IsPlaced (finished p)) (sym c.self.view_is) (switch_finished now is (c.is_switch.ensures c.if-not-is_switch.false) (c.is_controlled.ensures c.if-not-is_controlled.false))
