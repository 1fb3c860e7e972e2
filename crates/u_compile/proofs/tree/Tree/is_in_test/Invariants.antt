use Rattle.std.proofs.Common.{◌↔◌}
use Rattle.u_compile.specs.Trees.{StandsInTest}
use Rattle.u_compile.proofs.tree.Tree.is_in_test.Given as goal

abbrev pub invariant-upwards : goal.invariant-upwards
invariant-upwards l = StandsInTest l.self l.whole l.at ↔ StandsInTest l.self l.whole l.number
