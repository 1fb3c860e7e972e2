use Rattle.std.proofs.Common.{subst}
use Rattle.u_rule.specs.Rule.{own_of}
use Rattle.u_rule.specs.declared.entry.Entry.{Entry}
use Rattle.u_sets.specs.Members.{IsWith}
use Rattle.u_trace.proofs.HoldingLaws.{holds}
use Rattle.u_trace.proofs.holding.held_by.Goals as goal

pub returns : goal.returns
returns c =
    holds (own_of c.args.job.now) c.new-held.result c.insert.new.self c.put_given.new.held c.args.firings.now c.new-held.ensures
    (subst (λ (e : Entry). IsWith c.new-held.result e c.insert.new.self) c.start.ensures.start c.in_ok-insert.ensures.ok)
    c.in_ok-put_given.ensures
