use Rattle.u_replica.proofs.SpelledTexts.{number_there}
use Rattle.u_replica.proofs.spelled_context.behind_number.Goals as goal

pub returns-in-Ok : goal.returns-in-Ok
returns-in-Ok c = number_there c.args.bytes.now c.in-Ok.read c.args.number c.in-Ok.rest.now c.if-read-number.true c.in-Ok.ensures
