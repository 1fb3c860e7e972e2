use Rattle.std.proofs.Common.{◌≡◌, length}
use Rattle.u_compile.proofs.ForestLaws.{AreWantedSo}
use Rattle.u_compile.proofs.tree.wanted.Given as goal

abbrev pub invariant-loop-back : goal.invariant-loop-back
invariant-loop-back l = record {
  many : length l.wanted.items ≡ l.back;
  so : AreWantedSo l.nodes l.parents l.wanted.items;
}
