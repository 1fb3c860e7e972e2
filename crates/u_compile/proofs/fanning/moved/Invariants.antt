use Rattle.std.proofs.Common.{◌≡◌, ◌++◌, length}
use Rattle.u_compile.specs.Fanning.{moved}
use Rattle.u_compile.proofs.fanning.moved.Given as goal

abbrev pub invariant-loop-link : goal.invariant-loop-link
invariant-loop-link l = l.all.items ++ moved l.output l.left l.behind l.rest ≡ moved l.output l.first l.behind l.links

abbrev pub decreases-loop-link : goal.decreases-loop-link
decreases-loop-link l = length l.rest
