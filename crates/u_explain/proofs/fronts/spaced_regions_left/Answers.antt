use Rattle.std.proofs.Common.{codes}
use Rattle.u_explain.specs.Lines.{RegionOn}
use Rattle.u_explain.proofs.LeftLaws.{word_on, word_stuck}
use Rattle.u_explain.proofs.LineLaws.{some_region}
use Rattle.u_explain.proofs.fronts.spaced_regions_left.Goals as goal

pub returns-in-Ok : goal.returns-in-Ok
returns-in-Ok c = word_on (codes " ") (RegionOn c.args.version) (some_region c.args.version) c.args.bytes.now c.in-Ok.rest.now c.regions_left.result.now c.in-Ok.ensures c.regions_left.ensures

pub returns-in-Err : goal.returns-in-Err
returns-in-Err c = word_stuck (codes " ") (RegionOn c.args.version) (some_region c.args.version) c.args.bytes.now c.in-Err.rest.now c.in-Err.ensures
