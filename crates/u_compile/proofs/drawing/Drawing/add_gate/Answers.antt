use Rattle.std.proofs.Common.{List, [], ◌∷◌, ◌++◌, ap, sym, subst}
use Rattle.u_compile.specs.declared.drawing.Gate.{Gate}
use Rattle.u_compile.specs.Placed.{PlacedParts}
use Rattle.u_compile.specs.Drawings.{IsGate, Grows, a_gate}
use Rattle.u_compile.proofs.GateLaws.{drawn_gate, switch_drawn, switch_gate, switch_grows}
use Rattle.u_compile.proofs.LeadLaws.{as_drawn, same_drawn, seen}
use Rattle.u_compile.proofs.drawing.Drawing.add_gate.Goals as goal

-- when the control is linked
pub invariant_of-self-in_err-finish_switch : goal.invariant_of-self-in_err-finish_switch
invariant_of-self-in_err-finish_switch c =
    let s = c.self.inside in
    let led = switch_drawn c.args.self.now c.add.new.self s.graph c.lead.new.self s.scopes.items s.values.items s.gates.items s.carried.items s.broken c.args.control c.args.value c.in_ok-switch.ensures.adds c.self.view_is c.self.invariant c.in_ok-lead.ensures in
    subst (λ (p : PlacedParts). as_drawn p s.values.items s.gates.items s.broken) (sym c.in_err-finish_switch.ensures) led

pub invariant_of-self-in_err-push : goal.invariant_of-self-in_err-push
invariant_of-self-in_err-push c =
    let s = c.self.inside in
    let led = switch_drawn c.args.self.now c.add.new.self s.graph c.lead.new.self s.scopes.items s.values.items s.gates.items s.carried.items s.broken c.args.control c.args.value c.in_ok-switch.ensures.adds c.self.view_is c.self.invariant c.in_ok-lead.ensures in
    let done = same_drawn c.lead.new.self c.finish_switch.new.self s.values.items s.gates.items s.broken (ap (λ (p : PlacedParts). p.graph.statements) c.in_ok-finish_switch.ensures) (ap (λ (p : PlacedParts). p.graph.links) c.in_ok-finish_switch.ensures) led in
    subst (λ (gs : List Gate). as_drawn c.finish_switch.new.self s.values.items gs s.broken) (sym c.in_err-push.ensures.items) done

pub invariant_of-self-2 : goal.invariant_of-self-2
invariant_of-self-2 c =
    let s = c.self.inside in
    let g = a_gate c.args.control c.args.value c.in_ok-switch.switch in
    let led = switch_drawn c.args.self.now c.add.new.self s.graph c.lead.new.self s.scopes.items s.values.items s.gates.items s.carried.items s.broken c.args.control c.args.value c.in_ok-switch.ensures.adds c.self.view_is c.self.invariant c.in_ok-lead.ensures in
    let made = switch_gate c.args.self.now c.add.new.self s.graph c.lead.new.self s.scopes.items s.values.items s.gates.items s.carried.items c.args.control c.args.value c.in_ok-switch.switch c.in_ok-switch.ensures.adds c.self.view_is c.in_ok-lead.ensures c.in_ok-switch.ensures.number in
    let whole = drawn_gate c.lead.new.self.graph.statements c.lead.new.self.graph.links s.values.items s.gates.items s.broken g led made in
    let done = same_drawn c.lead.new.self c.finish_switch.new.self s.values.items (s.gates.items ++ (g ∷ [])) s.broken (ap (λ (p : PlacedParts). p.graph.statements) c.in_ok-finish_switch.ensures) (ap (λ (p : PlacedParts). p.graph.links) c.in_ok-finish_switch.ensures) whole in
    subst (λ (gs : List Gate). as_drawn c.finish_switch.new.self s.values.items gs s.broken) (sym c.in_ok-push.ensures.items) done

pub returns-clause-grows : goal.returns-clause-grows
returns-clause-grows c =
    let s = c.self.inside in
    let grown = switch_grows c.args.self.now c.add.new.self s.graph c.lead.new.self s.scopes.items s.values.items s.gates.items c.push.new.self.items s.carried.items c.args.control c.args.value c.in_ok-switch.ensures.adds c.self.view_is c.in_ok-lead.ensures in
    subst (λ (p : PlacedParts). Grows c.args.self.now (seen p s.scopes.items s.values.items c.push.new.self.items s.carried.items)) (sym (c.in_ok-finish_switch.ensures)) grown

pub returns-clause-gate : goal.returns-clause-gate
returns-clause-gate c =
    let s = c.self.inside in
    let made = switch_gate c.args.self.now c.add.new.self s.graph c.lead.new.self s.scopes.items s.values.items s.gates.items s.carried.items c.args.control c.args.value c.in_ok-switch.switch c.in_ok-switch.ensures.adds c.self.view_is c.in_ok-lead.ensures c.in_ok-switch.ensures.number in
    subst (λ (p : PlacedParts). IsGate p.graph.statements p.graph.links s.values.items (a_gate c.args.control c.args.value c.in_ok-switch.switch)) (sym c.in_ok-finish_switch.ensures) made
