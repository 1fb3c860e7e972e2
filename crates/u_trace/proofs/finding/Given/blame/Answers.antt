use Rattle.std.proofs.Common.{subst, sym}
use Rattle.u_rule.specs.Rule.{own_of}
use Rattle.u_rule.specs.EntryOrder.{write_of}
use Rattle.u_base.specs.Firing.{Held}
use Rattle.u_sets.specs.Rising.{IsListOf}
use Rattle.u_history.specs.Orders.{written_order}
use Rattle.u_history.specs.Outcomes.{PairIn}
use Rattle.u_trace.proofs.BlameLaws.{two_first, too_few, has_first, has_second, write_given}
use Rattle.u_trace.proofs.finding.Given.blame.Goals as goal

pub unreachable-requires : goal.unreachable-requires
unreachable-requires c =
    let P = PairIn (Held (own_of c.args.self.now.job.now) c.args.self.now.firings.now) c.args.clash.now.cell in
    too_few written_order P c.as_slice.result.now (subst (IsListOf written_order P) (sym c.as_slice.ensures) c.requires.clash.1) c.in_default.len_below c.requires.clash.0

pub write-requires-clause-given : goal.write-requires-clause-given
write-requires-clause-given c =
    let P = PairIn (Held (own_of c.args.self.now.job.now) c.args.self.now.firings.now) c.args.clash.now.cell in
    let two = two_first written_order P c.as_slice.result.now c.first-item.result c.second-item.result (subst (IsListOf written_order P) (sym c.as_slice.ensures) c.requires.clash.1) c.in-len2-up.len_at_least c.first-item.is c.second-item.is in
    write_given c.args.self.now.job.now c.args.self.now.firings.now (write_of c.args.clash.now.cell c.first-item.result.writer c.first-item.result.value) (has_first written_order P c.first-item.result c.second-item.result two)

pub write-requires-in-len2-up-clause-given : goal.write-requires-in-len2-up-clause-given
write-requires-in-len2-up-clause-given c =
    let P = PairIn (Held (own_of c.args.self.now.job.now) c.args.self.now.firings.now) c.args.clash.now.cell in
    let two = two_first written_order P c.as_slice.result.now c.first-item.result c.second-item.result (subst (IsListOf written_order P) (sym c.as_slice.ensures) c.requires.clash.1) c.in-len2-up.len_at_least c.first-item.is c.second-item.is in
    write_given c.args.self.now.job.now c.args.self.now.firings.now (write_of c.args.clash.now.cell c.second-item.result.writer c.second-item.result.value) (has_second written_order P c.first-item.result c.second-item.result two)
