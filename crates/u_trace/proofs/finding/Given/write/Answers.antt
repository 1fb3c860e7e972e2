use Rattle.std.proofs.Common.{sym, subst}
use Rattle.u_rule.specs.Rule.{own_of}
use Rattle.u_rule.specs.EntryOrder.{write_of}
use Rattle.u_rule.specs.declared.entry.Entry.{Entry}
use Rattle.u_rule.specs.declared.entry.Entry.TheVariants as entries
use Rattle.u_rule.specs.declared.parts.Written.{Written}
use Rattle.u_trace.specs.Holding.{GivenBy}
use Rattle.u_trace.specs.Stories.{GivesFirst}
use Rattle.u_trace.proofs.finding.Given.write.Goals as goal

pub giver-requires-clause-given : goal.giver-requires-clause-given
giver-requires-clause-given c = subst (λ (e : Entry). GivenBy (own_of c.args.self.now.job.now) c.args.self.now.firings.now e) (sym c.in_ok-entry.ensures) c.requires.given

pub returns-clause-firing : goal.returns-clause-firing
returns-clause-firing c =
    subst (λ (w : Written). GivesFirst (own_of c.args.self.now.job.now) c.args.self.now.firings.now (entries.Write (write_of c.args.cell.now w.writer w.value)) c.in_ok-firing.firing) (sym c.in_ok-copy.ensures)
    (subst (λ (e : Entry). GivesFirst (own_of c.args.self.now.job.now) c.args.self.now.firings.now e c.in_ok-firing.firing) c.in_ok-entry.ensures c.in_ok-firing.ensures)
