use Rattle.std.proofs.Common.{◌⊎◌, ◌↔◌, Contains, subst}
use Rattle.u_rule.specs.declared.entry.Entry.{Entry}
use Rattle.u_rule.specs.declared.firing.Firing.{Firing}
use Rattle.u_sets.proofs.Gathering.{scan_more, scan_all}
use Rattle.u_plain.specs.Tries.{FitsRead}
use Rattle.u_plain.proofs.enabling.add_reads.Goals as goal

pub loop-entry-preserved : goal.loop-entry-preserved
loop-entry-preserved c =
    scan_more (FitsRead c.args.job.now c.args.held.now c.args.made.now) c.args.found.now.items c.args.held.now c.loop-entry.entry-index c.entry-item.result c.loop-entry.found.items c.add_read.new.found.items c.loop-entry-test.true c.loop-entry.invariant
    (subst (λ (e : Entry). (f : Firing) → Contains c.add_read.new.found.items f ↔ (Contains c.loop-entry.found.items f ⊎ FitsRead c.args.job.now c.args.held.now c.args.made.now e f)) c.entry-item.is c.in_ok-add_read.ensures)

pub returns : goal.returns
returns c = scan_all (FitsRead c.args.job.now c.args.held.now c.args.made.now) c.args.found.now.items c.args.held.now c.loop-entry.entry-index c.loop-entry.found.items c.loop-entry-test.false c.loop-entry.invariant
