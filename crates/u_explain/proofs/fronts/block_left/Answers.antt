use Rattle.u_explain.proofs.LineLaws.{block_on, block_stuck}
use Rattle.u_explain.proofs.fronts.block_left.Goals as goal

pub returns-in-Ok : goal.returns-in-Ok
returns-in-Ok c = block_on c.args.line.now c.in-Ok.rest.now c.name_left.result.now c.in-Ok.ensures c.name_left.ensures

pub returns-in-Err : goal.returns-in-Err
returns-in-Err c = block_stuck c.args.line.now c.in-Err.rest.now c.in-Err.ensures
