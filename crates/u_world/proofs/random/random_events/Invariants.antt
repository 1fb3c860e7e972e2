use Rattle.u_world.proofs.Drawing.{Makes}
use Rattle.u_world.proofs.random.random_events.Given as goal

abbrev pub invariant-loop-place : goal.invariant-loop-place
invariant-loop-place l = Makes l.seed l.replicas l.count l._place l.events.items l.random l.asks.items
