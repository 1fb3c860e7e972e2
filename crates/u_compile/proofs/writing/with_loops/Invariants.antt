use Rattle.std.proofs.Common.{◌≡◌, ◌++◌, [], length}
use Rattle.u_program.specs.Parts.{block}
use Rattle.u_compile.proofs.writing.with_loops.Given as goal

abbrev pub invariant-loop-held_by : goal.invariant-loop-held_by
invariant-loop-held_by l = record {
  same : l.block ≡ block l.fn.name l.block.loops [];
  loops : l.block.loops ++ l.rest ≡ l.loops;
}

abbrev pub decreases-loop-held_by : goal.decreases-loop-held_by
decreases-loop-held_by l = length l.rest
