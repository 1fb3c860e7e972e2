use Rattle.u_explain.specs.Left.{Either}
use Rattle.u_explain.specs.Places.{BlockWhere, LoopWhere, StatementWhere}
use Rattle.u_explain.proofs.LeftLaws.{either}
use Rattle.u_explain.proofs.text_place.inside_left.Goals as goal

pub returns : goal.returns
returns c =
    let a = either (LoopWhere c.args.loops c.args.statements) (StatementWhere c.args.version c.args.statements) c.args.line.now c.loop_where.result.now c.statement_where.result.now c.shorter-own.result.now c.loop_where.ensures c.statement_where.ensures c.shorter-own.ensures.one c.shorter-own.ensures.first c.shorter-own.ensures.second in
    either (BlockWhere c.args.blocks c.args.statements) (Either (LoopWhere c.args.loops c.args.statements) (StatementWhere c.args.version c.args.statements)) c.args.line.now c.block_where-block.result.now c.shorter-own.result.now c.shorter.result.now c.block_where-block.ensures a c.shorter.ensures.one c.shorter.ensures.first c.shorter.ensures.second
