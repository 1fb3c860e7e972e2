use Rattle.std.proofs.Common.{drop}
use Rattle.u_compile.specs.Loops.{TestsNone}
use Rattle.u_compile.proofs.lowering.Lowering.clock_of.Given as goal

abbrev pub invariant-loop-at : goal.invariant-loop-at
invariant-loop-at l = TestsNone l.self.tree.now (drop l.waiting l.self.starts.items) l.whole l.number l.at
