use Rattle.u_world.proofs.ScriptLaws.{number_is, number_is_none}
use Rattle.u_world.proofs.script.number_after.Goals as goal

-- what stands behind the bytes is the number's text
pub returns-in-Ok : goal.returns-in-Ok
returns-in-Ok c = number_is c.args.bytes.now c.args.front.now c.in_ok-rest.rest.now c.in-Ok.number c.in_ok-rest.ensures c.in-Ok.ensures

-- what stands behind the bytes is no number's text
pub returns-in-Err : goal.returns-in-Err
returns-in-Err c = λ n l k. number_is_none c.args.bytes.now c.args.front.now c.in_ok-rest.rest.now n c.in_ok-rest.ensures c.in-Err.ensures l k
