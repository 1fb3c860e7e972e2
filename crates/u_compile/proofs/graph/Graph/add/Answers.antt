use Rattle.std.proofs.Common.{◌≡◌, ◌≤◌, ◌+◌, ◌++◌, ◌∷◌, [], length, ap, ◌∙◌, refl, arith, true, ℕ}
use Rattle.u_compile.specs.Drafts.{draft}
use Rattle.u_compile.specs.Graphs.{GraphParts, graph, enters_one}
use Rattle.u_compile.proofs.GraphLaws.{with_draft, own_links}
use Rattle.u_compile.proofs.graph.Graph.add.Goals as goal

pub invariant_of-self-2 : goal.invariant_of-self-2
invariant_of-self-2 c =
    let loops : length c.self.inside.loops.items ≡ length c.args.self.now.loops = ap (λ (g : GraphParts). length g.loops) c.self.view_is in
    let in_loop : c.args.region ≤ length c.self.inside.loops.items = omega (arith, c.requires.region, loops) in
    let enters : enters_one (length c.self.inside.loops.items) c.args.kind ≡ true = ap (λ (n : ℕ). enters_one n c.args.kind) loops ∙ c.requires.enters in
    let count : c.len-2.result ≡ length c.self.inside.statements.items = omega arith in
    let number = length c.self.inside.statements.items + 1 in
    let e : c.push.new.self.items ≡ c.self.inside.statements.items ++ (c.new.result ∷ []) = c.in_ok-push.ensures.items in
    let new : c.new.result ≡ draft c.args.region c.args.kind number = c.new.ensures ∙ ap (λ (n : ℕ). draft c.args.region c.args.kind (n + 1)) count in
    rw (e, new) (with_draft (graph c.self.inside.loops.items c.self.inside.statements.items c.self.inside.links.items) (draft c.args.region c.args.kind number) c.self.invariant (omega arith)
    (record { region = in_loop; kind = c.requires.kind; known = c.requires.known; enters = enters; shares = own_links c.self.inside.statements.items (draft c.args.region c.args.kind number) c.requires.other refl }))
