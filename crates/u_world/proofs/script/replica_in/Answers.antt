use Rattle.std.proofs.Common.{arith}
use Rattle.u_world.proofs.ScriptLaws.{word_is}
use Rattle.u_world.proofs.script.replica_in.Goals as goal

-- the number is at most 8
pub returns-else-number-gt8 : goal.returns-else-number-gt8
returns-else-number-gt8 c = word_is c.args.word.now c.in-Ok.number c.in-Ok.ensures (omega (arith, c.if-number-gt8.false))
