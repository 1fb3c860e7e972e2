use Rattle.u_compile.specs.Forests.{Adopts}
use Rattle.u_compile.proofs.tree.adopt.Given as goal

abbrev pub invariant-adopting : goal.invariant-adopting
invariant-adopting l = Adopts l.number l.counter l.fn.parents.items l.fn.roots.items l.parents.items l.roots.items
