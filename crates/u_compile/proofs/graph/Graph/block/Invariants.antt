use Rattle.std.proofs.Common.{◌≡◌, ◌++◌, length}
use Rattle.u_program.specs.Parts.{block}
use Rattle.u_compile.specs.Blocks.{statements_of}
use Rattle.u_compile.proofs.graph.Graph.block.Given as goal

abbrev pub invariant-loop-draft : goal.invariant-loop-draft
invariant-loop-draft l = record {
  same : l.block ≡ block l.fn.name l.self.loops l.block.statements;
  statements : l.block.statements ++ statements_of l.self.links l.rest ≡ statements_of l.self.links l.self.statements;
}

abbrev pub decreases-loop-draft : goal.decreases-loop-draft
decreases-loop-draft l = length l.rest
