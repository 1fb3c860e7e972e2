use Rattle.std.proofs.Common.{rules}
use Rattle.u_world.proofs.ScriptLaws.{missing, no_deed}
use Rattle.u_world.proofs.script.deed_of.Goals as goal

-- it is none of all that a replica may do
pub returns-in-None : goal.returns-in-None
returns-in-None c = λ e h.
    no_deed c.args.replica c.args.deed.now e c.in_default.ensures c.in_default-replica_after.ensures c.in_default-replica_after-2.ensures
    (let f = c.if-eq.ensures in search rules) c.in_default-number_after.ensures (missing _ _ _ c.in-None.is c.in_ok-firing.ensures) h
