use Rattle.std.proofs.Common.{◌≡◌, length}
use Rattle.u_compile.specs.Drawings.{LeadsOn, links_to, with_links}
use Rattle.u_compile.proofs.drawing.lead_all.Given as goal

abbrev pub invariant-loop-output : goal.invariant-loop-output
invariant-loop-output l =
    let last = length l.fn.graph.graph.statements in
    record {
      led : LeadsOn l.fn.graph l.graph;
      links : with_links l.graph (links_to last l.port l.rest) ≡ with_links l.fn.graph (links_to last l.port l.outputs);
    }

abbrev pub decreases-loop-output : goal.decreases-loop-output
decreases-loop-output l = length l.rest
