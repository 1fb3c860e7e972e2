use Rattle.std.proofs.Common.{codes}
use Rattle.std.specs.Fmt.{decimal}
use Rattle.u_explain.specs.Left.{Behind}
use Rattle.u_explain.specs.Lines.{RegionOn}
use Rattle.u_explain.proofs.LeftLaws.{word_on, word_stuck}
use Rattle.u_explain.proofs.LineLaws.{some_behind, some_region, left_statement}
use Rattle.u_explain.proofs.fronts.statement_left.Goals as goal

pub returns-in-Ok : goal.returns-in-Ok
returns-in-Ok c = left_statement c.args.version c.args.number c.args.line.now c.spaced_regions_left.result.now (word_on (decimal c.args.number) (Behind (codes " ") (RegionOn c.args.version)) (some_behind (codes " ") (RegionOn c.args.version) (some_region c.args.version)) c.args.line.now c.in-Ok.rest.now c.spaced_regions_left.result.now c.in-Ok.ensures c.spaced_regions_left.ensures)

pub returns-in-Err : goal.returns-in-Err
returns-in-Err c = left_statement c.args.version c.args.number c.args.line.now c.in-Err.rest.now (word_stuck (decimal c.args.number) (Behind (codes " ") (RegionOn c.args.version)) (some_behind (codes " ") (RegionOn c.args.version) (some_region c.args.version)) c.args.line.now c.in-Err.rest.now c.in-Err.ensures)
