use Rattle.std.proofs.Common.{ap, ◌∙◌}
use Rattle.u_compile.specs.Placed.{PlacedParts}
use Rattle.u_compile.proofs.LeadLaws.{same_drawn, seen}
use Rattle.u_compile.proofs.drawing.Drawing.set_test.Goals as goal

pub invariant_of-self-2 : goal.invariant_of-self-2
invariant_of-self-2 c =
    let s = c.self.inside in
    same_drawn s.graph c.set_test.new.self s.values.items s.gates.items s.broken (ap (λ (p : PlacedParts). p.graph.statements) c.in_ok-set_test.ensures) (ap (λ (p : PlacedParts). p.graph.links) c.in_ok-set_test.ensures) c.self.invariant

pub returns : goal.returns
returns c =
    let s = c.self.inside in
    ap (λ (p : PlacedParts). seen p s.scopes.items s.values.items s.gates.items s.carried.items) c.in_ok-set_test.ensures ∙ c.self.view_is
