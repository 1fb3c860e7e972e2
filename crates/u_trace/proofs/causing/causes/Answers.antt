use Rattle.std.proofs.Common.{List, subst}
use Rattle.u_rule.specs.EntryOrder.{firing_cmp}
use Rattle.u_rule.specs.Rule.{own_of}
use Rattle.u_rule.specs.declared.entry.Entry.{Entry}
use Rattle.u_sets.specs.Rising.{IsListOf}
use Rattle.u_trace.specs.Causes.{IsCause}
use Rattle.u_trace.proofs.CauseLaws.{causes_same}
use Rattle.u_trace.proofs.causing.causes.Goals as goal

pub returns-clause-ok : goal.returns-clause-ok
returns-clause-ok c =
    let job = c.args.job.now in
    let found = c.in_ok-found.found.items in
    let those = subst (λ (es : List Entry). IsListOf firing_cmp (IsCause job es c.args.entry.now) found) c.deref.ensures.value c.in_ok-found.ensures in
    record {
      rises = those.rises;
      exact = causes_same (own_of job) c.args.entry.now c.in_ok-entries.entries.items c.args.history.now found c.in_ok-entries.ensures.all those.exact;
    }
