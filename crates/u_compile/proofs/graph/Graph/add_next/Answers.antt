use Rattle.std.proofs.Common.{◌≡◌, ◌≤◌, ◌++◌, ◌∷◌, [], length, ap, ◌∙◌, refl, arith, true}
use Rattle.u_program.specs.declared.program.Kind.TheVariants.{Next}
use Rattle.u_compile.specs.Drafts.{draft}
use Rattle.u_compile.specs.Graphs.{GraphParts, graph, is_enter, draft_at}
use Rattle.u_compile.proofs.Numbers.{test_more}
use Rattle.u_compile.proofs.GraphLaws.{with_draft}
use Rattle.u_compile.proofs.graph.Graph.add_next.Goals as goal

pub invariant_of-self-2 : goal.invariant_of-self-2
invariant_of-self-2 c =
    let new = draft c.args.region Next c.args.enter in
    let in_loop : c.args.region ≤ length c.self.inside.loops.items = omega (arith, c.requires.region, ap (λ (g : GraphParts). length g.loops) c.self.view_is) in
    let enter : is_enter (draft_at c.self.inside.statements.items c.args.enter) ≡ true = ap (λ (g : GraphParts). is_enter (draft_at g.statements c.args.enter)) c.self.view_is ∙ c.requires.enter in
    let e : c.push.new.self.items ≡ c.self.inside.statements.items ++ (c.new.result ∷ []) = c.in_ok-push.ensures.items in
    rw (e, c.new.ensures) (with_draft (graph c.self.inside.loops.items c.self.inside.statements.items c.self.inside.links.items) new c.self.invariant (omega arith)
    (record { region = in_loop; kind = tt; known = tt; enters = refl; shares = test_more is_enter refl c.self.inside.statements.items new c.args.enter enter }))
