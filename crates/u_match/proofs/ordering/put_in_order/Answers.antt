use Rattle.std.proofs.Common.{arith}
use Rattle.u_rule.specs.EntryOrder.{firing_cmp}
use Rattle.u_match.proofs.Ordered.{rises_alone}
use Rattle.u_match.proofs.ordering.put_in_order.Goals as goal

pub returns-then-len-lt2-clause-rises : goal.returns-then-len-lt2-clause-rises
returns-then-len-lt2-clause-rises c = rises_alone firing_cmp c.args.firings.now.items (omega (arith, c.len.ensures, c.if-len-lt2.true))
