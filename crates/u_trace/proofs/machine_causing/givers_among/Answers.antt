use Rattle.std.proofs.Common.{List, subst}
use Rattle.u_rule.specs.declared.firing.Firing.{Firing}
use Rattle.u_sets.specs.Members.{Gains, SomeOf}
use Rattle.u_trace.specs.Causes.{IsKept}
use Rattle.u_trace.proofs.CauseLaws.{givers_gathered}
use Rattle.u_trace.proofs.machine_causing.givers_among.Goals as goal

pub returns : goal.returns
returns c =
    let job = c.args.job.now in
    let log = c.args.log.now in
    let found = c.keep_all.new.found.items in
    let gains = subst (λ (fs : List Firing). Gains fs (SomeOf log (IsKept job c.args.entry.now)) found) c.new-found.ensures.items c.in_ok-keep_all.ensures.ok in
    record {
      rises = c.keep_all.ensures.rises;
      exact = givers_gathered job log c.args.entry.now found gains;
    }
