use Rattle.u_explain.proofs.LineLaws.{procedure_on, procedure_stuck}
use Rattle.u_explain.proofs.fronts.procedure_left.Goals as goal

pub returns-in-Ok : goal.returns-in-Ok
returns-in-Ok c = procedure_on c.args.version c.args.bytes.now _ c.in-Ok.rest.now c.arrow_left.result.now c.in-Ok.ensures c.arrow_left.ensures

pub returns-in-Err : goal.returns-in-Err
returns-in-Err c = procedure_stuck c.args.version c.args.bytes.now c.in-Err.rest.now c.in-Err.ensures
