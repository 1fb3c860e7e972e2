use denote.Param.Send.{sendable}
use Rattle.std.proofs.Crossing.{crosses}
use Rattle.u_outlet.proofs.ends.OutletOf.TheSendSync as outlet
use Rattle.u_outlet.proofs.Crossing.{published_send, published_sync}
use Rattle.u_fleet.proofs.Crossing.{worker_send}
use Rattle.u_fleet.proofs.threads.run_all.Goals as goal

pub for_each_mut-requires-send-T : goal.for_each_mut-requires-send-T
for_each_mut-requires-send-T g c κs within = search (outlet.the_send, outlet.the_field_send, worker_send, published_send, published_sync, crosses, sendable) depth 60 fits 20000

pub for_each_mut-requires-clause-accepts : goal.for_each_mut-requires-clause-accepts
for_each_mut-requires-clause-accepts g c κs within i p h e = rw (e) (c.requires.job, c.requires.new i p.now h)

pub returns : goal.returns
returns g c i d h = let k = (c.for_each_mut.ensures i d h).1 in rw (← k.argument_is, ← k.left) k.call
