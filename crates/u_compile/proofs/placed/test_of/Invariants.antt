use Rattle.std.proofs.Common.{◌≡◌, length}
use Rattle.u_compile.specs.Placed.{test_of}
use Rattle.u_compile.proofs.placed.test_of.Given as goal

abbrev pub invariant-loop-test : goal.invariant-loop-test
invariant-loop-test l = test_of l.rest l.region ≡ test_of l.tests l.region

abbrev pub decreases-loop-test : goal.decreases-loop-test
decreases-loop-test l = length l.rest
