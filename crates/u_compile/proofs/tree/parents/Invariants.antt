use Rattle.std.proofs.Common.{◌≡◌, length}
use Rattle.u_compile.proofs.ForestLaws.{AreFound}
use Rattle.u_compile.proofs.tree.parents.Given as goal

abbrev pub invariant-loop-number : goal.invariant-loop-number
invariant-loop-number l = record {
  many : length l.parents.items ≡ l.number;
  found : AreFound l.nodes l.parents.items l.roots.items;
}
