use Rattle.std.proofs.Common.{◌≡◌, ◌+◌, ◌≤◌, length}
use Rattle.u_compile.specs.Drawings.{AreValues, LeadsOn, input_links, with_links}
use Rattle.u_compile.proofs.drawing.lead_values.Given as goal

abbrev pub invariant-loop-value : goal.invariant-loop-value
invariant-loop-value l =
    let last = length l.fn.graph.graph.statements in
    record {
      led : LeadsOn l.fn.graph l.graph;
      links : with_links l.graph (input_links l.values last l.port l.rest) ≡ with_links l.fn.graph (input_links l.values last 1 l.inputs);
      there : AreValues l.values l.rest → AreValues l.values l.inputs;
      room : l.port + length l.rest ≤ 6;
    }

abbrev pub decreases-loop-value : goal.decreases-loop-value
decreases-loop-value l = length l.rest
