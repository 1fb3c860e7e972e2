use Rattle.std.proofs.Common.{codes}
use Rattle.u_explain.specs.Lines.{ConstantOn}
use Rattle.u_explain.proofs.LeftLaws.{word_on, word_stuck}
use Rattle.u_explain.proofs.LineLaws.{some_constant}
use Rattle.u_explain.proofs.fronts.const_left.Goals as goal

pub returns-in-Ok : goal.returns-in-Ok
returns-in-Ok c = word_on (codes "const ") (ConstantOn c.args.version) (some_constant c.args.version) c.args.bytes.now c.in-Ok.rest.now c.constant_left.result.now c.in-Ok.ensures c.constant_left.ensures

pub returns-in-Err : goal.returns-in-Err
returns-in-Err c = word_stuck (codes "const ") (ConstantOn c.args.version) (some_constant c.args.version) c.args.bytes.now c.in-Err.rest.now c.in-Err.ensures
