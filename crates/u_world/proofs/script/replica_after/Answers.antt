use Rattle.u_world.proofs.ScriptLaws.{replica_is_none}
use Rattle.u_world.proofs.script.replica_after.Goals as goal

-- what stands behind the bytes is no replica's number
pub returns-in-None : goal.returns-in-None
returns-in-None c = λ r l k. replica_is_none c.args.bytes.now c.args.front.now c.in_ok-rest.rest.now r c.in_ok-rest.ensures c.in-None.ensures l k
