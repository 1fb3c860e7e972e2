use Rattle.u_sets.proofs.Gathering.{scan_all}
use Rattle.u_sets.proofs.Steps.{round}
use Rattle.u_sets.proofs.Rounds.{member_at}
use Rattle.u_trace.specs.Causes.{IsKept}
use Rattle.u_trace.proofs.causing.keep_all.Goals as goal

pub keep-requires-clause-firing : goal.keep-requires-clause-firing
keep-requires-clause-firing c = c.requires.firings c.firing-item.result (member_at c.args.firings.now c.loop-firing.firing-index c.firing-item.result c.loop-firing-test.true c.firing-item.is)

pub loop-firing-preserved : goal.loop-firing-preserved
loop-firing-preserved c = record {
  rises = c.keep.ensures.rises;
  all = round (IsKept c.args.job.now c.args.entry.now) c.args.found.now.items c.loop-firing.found.items c.keep.new.found.items c.args.firings.now c.loop-firing.firing-index c.firing-item.result c.loop-firing-test.true c.firing-item.is c.loop-firing.invariant.all c.in_ok-keep.ensures.ok;
}

pub returns-clause-ok : goal.returns-clause-ok
returns-clause-ok c = scan_all (IsKept c.args.job.now c.args.entry.now) c.args.found.now.items c.args.firings.now c.loop-firing.firing-index c.loop-firing.found.items c.loop-firing-test.false c.loop-firing.invariant.all
