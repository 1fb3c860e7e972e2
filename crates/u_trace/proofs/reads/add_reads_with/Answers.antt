use Rattle.std.specs.Prelude.{Contains}
use Rattle.u_sets.proofs.Gathering.{scan_none, scan_all}
use Rattle.u_trace.specs.Gathering.{ReadsOn}
use Rattle.u_sets.proofs.Steps.{round}
use Rattle.u_trace.proofs.reads.add_reads_with.Goals as goal

pub loop-index-init : goal.loop-index-init
loop-index-init c = record {
  rises = c.requires;
  all = scan_none (ReadsOn (Contains c.args.history.now) c.args.reader.now c.args.structure.now) c.args.found.now.items c.args.indices.now;
}

pub loop-index-preserved : goal.loop-index-preserved
loop-index-preserved c = record {
  rises = c.in_ok-add_read.ensures.rises;
  all = round (ReadsOn (Contains c.args.history.now) c.args.reader.now c.args.structure.now) c.args.found.now.items c.loop-index.found.items c.add_read.new.found.items c.args.indices.now c.loop-index.index-index c.index-item.result c.loop-index-test.true c.index-item.is c.loop-index.invariant.all c.in_ok-add_read.ensures.ok;
}

pub returns-clause-ok : goal.returns-clause-ok
returns-clause-ok c = scan_all (ReadsOn (Contains c.args.history.now) c.args.reader.now c.args.structure.now) c.args.found.now.items c.args.indices.now c.loop-index.index-index c.loop-index.found.items c.loop-index-test.false c.loop-index.invariant.all
