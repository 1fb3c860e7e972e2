use Rattle.std.proofs.Common.{List, sym, subst}
use Rattle.u_compile.specs.declared.place.Guard.{Guard}
use Rattle.u_compile.specs.Scoped.{GuardedRegionParts}
use Rattle.u_compile.specs.Scopes.{IsPlaceOf}
use Rattle.u_compile.proofs.ScopeLaws.{IsPlaceSo, place_begins, place_more, place_in_procedure, place_in_turn}
use Rattle.u_compile.proofs.drawing.Drawing.place.Goals as goal

pub outwards-init : goal.outwards-init
outwards-init c =
    let begins = place_begins c.args.self.now.scopes c.args.scope c.in_ok-region.region c.in_ok-region.ensures in
    subst (λ (gs : List Guard). IsPlaceSo c.args.self.now.scopes c.args.scope c.in_ok-region.region gs c.args.scope) (sym c.new-guards.ensures.items) begins

pub outwards-preserved : goal.outwards-preserved
outwards-preserved c = place_more c.args.self.now.scopes c.args.scope c.in_ok-region.region c.outwards.at c.outwards.guards.items c.push.new.self.items c.in_ok-outer.outer c.in-Side.control c.in-Side.value c.outwards.invariant c.in_ok-outer.ensures c.in-Side.is c.in_ok-push-in-Side.ensures.items

pub returns-in-Procedure : goal.returns-in-Procedure
returns-in-Procedure c =
    let is = place_in_procedure c.args.self.now.scopes c.args.scope c.in_ok-region.region c.outwards.at c.outwards.guards.items c.in_ok-outer.outer c.outwards.invariant c.in_ok-outer.ensures c.in-Procedure.is in
    subst (λ (p : GuardedRegionParts). IsPlaceOf c.args.self.now.scopes c.args.scope p) (sym c.of.ensures) is

pub returns-in-Turn : goal.returns-in-Turn
returns-in-Turn c =
    let is = place_in_turn c.args.self.now.scopes c.args.scope c.in_ok-region.region c.outwards.at c.outwards.guards.items c.in_ok-outer.outer c.in-Turn.field-0 c.outwards.invariant c.in_ok-outer.ensures c.in-Turn.is in
    subst (λ (p : GuardedRegionParts). IsPlaceOf c.args.self.now.scopes c.args.scope p) (sym c.of-in-Turn.ensures) is
