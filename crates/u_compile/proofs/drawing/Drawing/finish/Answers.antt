use Rattle.std.proofs.Common.{subst}
use Rattle.std.proofs.lemmas.Result.{IfOk-weaker}
use Rattle.u_compile.specs.Fanning.{IsFinished}
use Rattle.u_compile.specs.Graphs.{graph}
use Rattle.u_compile.specs.Drawings.{DrawingParts, EachIsFed}
use Rattle.u_compile.proofs.PlacedTests.{always_ok}
use Rattle.u_compile.proofs.drawing.Drawing.finish.Goals as goal

pub returns-clause-arcs : goal.returns-clause-arcs
returns-clause-arcs c =
    let d = c.args.self in
    always_ok c.complete.result (EachIsFed d.statements d.links d.values) (subst (λ (e : DrawingParts). EachIsFed e.statements e.links e.values) c.self.view_is (c.self.invariant.fed c.if-broken.false))

pub returns-clause-finished : goal.returns-clause-finished
returns-clause-finished c =
    let g = c.self.inside.graph.graph in
    IfOk-weaker c.complete.result _ _ (λ b h. (g.loops, subst (λ (d : DrawingParts). IsFinished c.args.name (graph g.loops d.statements d.links) b) c.self.view_is h)) c.complete.ensures.finished
