use Rattle.u_trace.proofs.BlameLaws.{no_cell, cell_clash, least_cell, blames_cell}
use Rattle.u_trace.proofs.finding.blame_held.Goals as goal

pub blame_cell-requires : goal.blame_cell-requires
blame_cell-requires c = record {
  firings = c.requires.firings;
  clash = cell_clash c.args.job.now c.args.firings.now c.args.held.now c.requires.held c.in_ok-outcome.outcome c.in_ok-outcome.ensures c.in-Some.clash.now c.in-Some.ensures;
}

pub returns-in-Some : goal.returns-in-Some
returns-in-Some c =
    blames_cell c.args.job.now c.args.firings.now c.in-Some.clash.now.cell c.in_ok-found-in-Some.found
    (least_cell c.args.job.now c.args.firings.now c.args.held.now c.requires.held c.in_ok-outcome.outcome c.in_ok-outcome.ensures c.in-Some.clash.now c.in-Some.ensures)
    c.in_ok-found-in-Some.ensures

pub returns : goal.returns
returns c = no_cell c.args.job.now c.args.firings.now c.args.held.now c.requires.held c.in_ok-outcome.outcome c.in_ok-outcome.ensures c.in-None.ensures
