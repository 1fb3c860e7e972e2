use Rattle.std.proofs.Common.{codes}
use Rattle.u_explain.specs.Lines.{CountOn}
use Rattle.u_explain.proofs.LeftLaws.{word_on, word_stuck}
use Rattle.u_explain.proofs.LineLaws.{some_count}
use Rattle.u_explain.proofs.fronts.spaced_counts_left.Goals as goal

pub returns-in-Ok : goal.returns-in-Ok
returns-in-Ok c = word_on (codes " ") CountOn some_count c.args.bytes.now c.in-Ok.rest.now c.counts_left.result.now c.in-Ok.ensures c.counts_left.ensures

pub returns-in-Err : goal.returns-in-Err
returns-in-Err c = word_stuck (codes " ") CountOn some_count c.args.bytes.now c.in-Err.rest.now c.in-Err.ensures
