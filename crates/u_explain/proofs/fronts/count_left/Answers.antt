use Rattle.std.proofs.Common.{false}
use Rattle.std.specs.Fmt.{decimal}
use Rattle.u_program.specs.declared.program.Version.TheVariants as versions
use Rattle.u_explain.specs.Lines.{ArrowOn}
use Rattle.u_explain.proofs.LeftLaws.{word_on, word_stuck}
use Rattle.u_explain.proofs.ListLaws.{some_arrow}
use Rattle.u_explain.proofs.fronts.count_left.Goals as goal

pub returns-in-Ok : goal.returns-in-Ok
returns-in-Ok c = word_on (decimal c.args.number) (ArrowOn versions.Two false 0) (some_arrow versions.Two false 0) c.args.bytes.now c.in-Ok.rest.now c.arrow_left.result.now c.in-Ok.ensures c.arrow_left.ensures

pub returns-in-Err : goal.returns-in-Err
returns-in-Err c = word_stuck (decimal c.args.number) (ArrowOn versions.Two false 0) (some_arrow versions.Two false 0) c.args.bytes.now c.in-Err.rest.now c.in-Err.ensures
