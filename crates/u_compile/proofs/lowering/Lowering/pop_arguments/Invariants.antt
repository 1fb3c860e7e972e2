use Rattle.std.proofs.Common.{◌≡◌, ◌++◌, reverse}
use Rattle.u_compile.specs.Operands.{lowering}
use Rattle.u_compile.proofs.lowering.Lowering.pop_arguments.Given as goal

abbrev pub invariant-taking : goal.invariant-taking
invariant-taking l = record {
  were : l.fn.self.operands.items ≡ l.self.operands.items ++ reverse l.taken.items;
  rest : lowering l.self ≡ record (lowering l.fn.self) { operands = l.self.operands.items };
}
