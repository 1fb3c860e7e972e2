use Rattle.u_rule.specs.FiringText.{firing_text}
use Rattle.u_rule.specs.declared.firing.Firing.{Firing}
use Rattle.u_commands.specs.Placed.{place_at}
use Rattle.u_commands.proofs.Lined.{lines_placed}
use Rattle.u_commands.proofs.tracing.push_placed.Goals as goal

pub loop-firing-preserved : goal.loop-firing-preserved
loop-firing-preserved c =
    lines_placed firing_text (λ (x : Firing). place_at c.args.origins.now x.activity) c.args.firings.now c.loop-firing.firing-index c.firing-item.result c.args.text.now.items c.loop-firing.text.items _ _ _ c.loop-firing-test.true c.firing-item.is c.loop-firing.invariant c.in_ok-write_text.ensures.ok c.in_ok-push_place.ensures c.in_ok-push.ensures.items
