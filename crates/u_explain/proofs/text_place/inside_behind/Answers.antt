use Rattle.std.proofs.Common.{rules}
use Rattle.u_explain.proofs.BehindLaws.{behind_block, behind_loop, behind_statement}
use Rattle.u_explain.proofs.text_place.inside_behind.Goals as goal

pub returns-in-Block : goal.returns-in-Block
returns-in-Block c = λ before v b. behind_block before c.args.version c.args.blocks c.args.loops c.args.statements v c.args.line.now b (search rules) c.one_more.result c.one_more.ensures

pub returns-in-Loop : goal.returns-in-Loop
returns-in-Loop c = λ before v b. behind_loop before c.args.version c.args.blocks c.args.loops c.args.statements v c.args.line.now b (search rules) c.one_more-in-Loop.result c.one_more-in-Loop.ensures

pub returns-in-Statement : goal.returns-in-Statement
returns-in-Statement c = λ before v b. behind_statement before c.args.version c.args.blocks c.args.loops c.args.statements v c.args.line.now b (search rules) c.one_more-in-Statement.result c.one_more-in-Statement.ensures
