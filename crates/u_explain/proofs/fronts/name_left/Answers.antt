use Rattle.u_explain.proofs.LineLaws.{name_on, name_stuck}
use Rattle.u_explain.proofs.LeftLaws.{ended}
use Rattle.u_explain.proofs.fronts.name_left.Goals as goal

pub returns-in-Ok : goal.returns-in-Ok
returns-in-Ok c = name_on c.args.bytes.now _ c.in-Ok.rest.now c.in-Ok.rest.now c.in-Ok.ensures (ended c.in-Ok.rest.now)

pub returns-in-Err : goal.returns-in-Err
returns-in-Err c = name_stuck c.args.bytes.now c.in-Err.rest.now c.in-Err.ensures
