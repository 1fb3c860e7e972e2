use Rattle.std.proofs.Common.{arith}
use Rattle.u_compile.proofs.PlacedTests.{linked_more}
use Rattle.u_compile.proofs.linked.are_linked.Goals as goal

pub loop-port-preserved : goal.loop-port-preserved
loop-port-preserved c = record {
  linked = linked_more c.args.links.now c.args.statement c.loop-port.port c.loop-port.invariant.linked (c.is_linked.ensures c.if-not-is_linked.false);
  from_one = omega arith;
  few = omega (arith, c.requires);
}
