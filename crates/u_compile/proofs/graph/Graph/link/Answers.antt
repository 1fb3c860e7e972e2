use Rattle.std.proofs.Common.{◌≡◌, ◌+◌, ◌*◌, ◌++◌, ◌∷◌, [], ap, sym, ◌∙◌, subst, true}
use Rattle.std.proofs.lemmas.Bool.{and_from}
use Rattle.u_compile.specs.Graphs.{GraphParts, graph, link, is_output, has_port, draft_at, destinations, AllBefore}
use Rattle.u_compile.proofs.GraphLaws.{with_link}
use Rattle.u_compile.proofs.graph.Graph.link.Goals as goal

pub invariant_of-self-2 : goal.invariant_of-self-2
invariant_of-self-2 c =
    let here = graph c.self.inside.loops.items c.self.inside.statements.items c.self.inside.links.items in
    let new = link c.args.from c.args.to.statement c.args.to.port in
    let sends : is_output c.self.inside.statements.items c.args.from ≡ true = ap (λ (g : GraphParts). is_output g.statements c.args.from) c.self.view_is ∙ c.requires.output in
    let takes : has_port (draft_at c.self.inside.statements.items c.args.to.statement) c.args.to.port ≡ true = ap (λ (g : GraphParts). has_port (draft_at g.statements c.args.to.statement) c.args.to.port) c.self.view_is ∙ c.requires.port in
    let behind : AllBefore (8 * c.args.to.statement + c.args.to.port) (destinations c.args.from c.self.inside.links.items) = subst (λ (g : GraphParts). AllBefore (8 * c.args.to.statement + c.args.to.port) (destinations c.args.from g.links)) (sym c.self.view_is) c.requires.behind in
    let e : c.push.new.self.items ≡ c.self.inside.links.items ++ (new ∷ []) = c.in_ok-push.ensures.items in
    rw e (with_link here new c.self.invariant (and_from (is_output c.self.inside.statements.items c.args.from) (has_port (draft_at c.self.inside.statements.items c.args.to.statement) c.args.to.port) sends takes) behind)
