use Rattle.std.proofs.Common.{◌≡◌, ◌≤◌, ◌++◌, ◌∷◌, [], length, ap, arith}
use Rattle.u_compile.specs.Graphs.{GraphParts, graph}
use Rattle.u_compile.proofs.GraphLaws.{with_loop}
use Rattle.u_compile.proofs.graph.Graph.add_loop.Goals as goal

pub invariant_of-self-2 : goal.invariant_of-self-2
invariant_of-self-2 c =
    let held : c.args.held_by ≤ length c.self.inside.loops.items = omega (arith, c.requires, ap (λ (g : GraphParts). length g.loops) c.self.view_is) in
    let e : c.push.new.self.items ≡ c.self.inside.loops.items ++ (c.args.held_by ∷ []) = c.in_ok-push.ensures.items in
    rw e (with_loop (graph c.self.inside.loops.items c.self.inside.statements.items c.self.inside.links.items) c.args.held_by c.self.invariant held (omega arith))
