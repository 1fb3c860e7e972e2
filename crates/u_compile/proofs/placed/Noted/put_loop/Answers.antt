use Rattle.std.proofs.Common.{◌≡◌, ℕ, List, [], ◌∷◌, ◌++◌, sym, ap, ◌∙◌, subst}
use Rattle.u_compile.specs.Graphs.{GraphParts, graph}
use Rattle.u_compile.specs.Scoped.{GuardedRegionParts}
use Rattle.u_compile.specs.Placed.{placed, IsPlaced}
use Rattle.u_compile.proofs.PlacedLaws.{loop_placed}
use Rattle.u_compile.proofs.placed.Noted.put_loop.Goals as goal

pub invariant_of-self-in-Ok : goal.invariant_of-self-in-Ok
invariant_of-self-in-Ok c =
    let s = c.self.inside in
    let g = s.graph in
    let at = c.args.around.now in
    let here = placed g s.notes.items s.arounds.items s.tests.items s.unfinished in
    let is : c.put_loop.new.self ≡ graph (g.loops ++ (at.region ∷ [])) g.statements g.links = c.in-Ok.ensures.1 ∙ ap (λ (n : ℕ). graph (g.loops ++ (n ∷ [])) g.statements g.links) c.region.ensures in
    let more : c.push.new.self.items ≡ s.arounds.items ++ (at ∷ []) = c.in_ok-push.ensures.items ∙ ap (λ (v : GuardedRegionParts). s.arounds.items ++ (v ∷ [])) c.in_ok-place.ensures in
    let well = loop_placed here c.len.ensures.graph c.self.invariant at in
    let noted = subst (λ (v : List GuardedRegionParts). IsPlaced (placed (graph (g.loops ++ (at.region ∷ [])) g.statements g.links) s.notes.items v s.tests.items s.unfinished)) (sym more) well in
    subst (λ (v : GraphParts). IsPlaced (placed v s.notes.items c.push.new.self.items s.tests.items s.unfinished)) (sym is) noted
