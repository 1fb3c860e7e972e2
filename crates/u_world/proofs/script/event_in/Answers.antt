use Rattle.u_world.proofs.ScriptLaws.{missing, no_event}
use Rattle.u_world.proofs.script.event_in.Goals as goal

-- what the replica does is no event
pub returns-in-None : goal.returns-in-None
returns-in-None c = λ e h. no_event c.args.line.now c.in-Some-after_replica.deed.now c.in-Some-after_replica.replica e c.in_default.ensures c.in-Some-after_replica.ensures.0 c.in-Some-after_replica.ensures.1 (missing _ _ _ c.in-None.is c.in_ok-event.ensures) h
