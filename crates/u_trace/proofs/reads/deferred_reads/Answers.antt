use Rattle.std.proofs.Common.{List, [], sym, subst}
use Rattle.std.specs.Prelude.{Contains}
use Rattle.u_sets.specs.Members.{SomeOf, Gains}
use Rattle.u_sets.specs.Rising.{Rises}
use Rattle.u_sets.proofs.Gathering.{scan_none, scan_all}
use Rattle.u_trace.specs.Gathering.{ReadsAt}
use Rattle.u_trace.specs.Orders.{read_order}
use Rattle.u_trace.specs.declared.reads.DeferredRead.{DeferredRead}
use Rattle.u_sets.proofs.Steps.{round}
use Rattle.u_trace.proofs.ReadLaws.{all_reads}
use Rattle.u_trace.proofs.reads.deferred_reads.Goals as goal

pub loop-entry-init : goal.loop-entry-init
loop-entry-init c = record {
  rises = subst (λ (xs : List DeferredRead). Rises read_order xs) (sym c.new-found.ensures.items) tt;
  all = subst (λ (xs : List DeferredRead). Gains [] (SomeOf [] (ReadsAt c.args.program.now.blocks (Contains c.args.history.now))) xs) (sym c.new-found.ensures.items) (scan_none (ReadsAt c.args.program.now.blocks (Contains c.args.history.now)) [] c.args.entries.now);
}

pub loop-entry-preserved : goal.loop-entry-preserved
loop-entry-preserved c = record {
  rises = c.in_ok-add_reads.ensures.rises;
  all = round (ReadsAt c.args.program.now.blocks (Contains c.args.history.now)) [] c.loop-entry.found.items c.add_reads.new.found.items c.args.entries.now c.loop-entry.entry-index c.entry-item.result c.loop-entry-test.true c.entry-item.is c.loop-entry.invariant.all c.in_ok-add_reads.ensures.ok;
}

pub returns : goal.returns
returns c =
    all_reads c.args.program.now.blocks (Contains c.args.history.now) c.args.entries.now c.loop-entry.found.items c.requires c.loop-entry.invariant.rises
    (scan_all (ReadsAt c.args.program.now.blocks (Contains c.args.history.now)) [] c.args.entries.now c.loop-entry.entry-index c.loop-entry.found.items c.loop-entry-test.false c.loop-entry.invariant.all)
