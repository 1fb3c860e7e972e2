use Rattle.std.proofs.Common.{◌↔◌, sym, subst, List, Contains}
use Rattle.u_rule.specs.declared.firing.Firing.{Firing}
use Rattle.u_match.proofs.WriteWaking.{answered_write}
use Rattle.u_match.proofs.waking_reads.Entering.woken_by_write.Goals as goal

pub returns-clause-exact : goal.returns-clause-exact
returns-clause-exact c =
    answered_write c.args.reads.now c.args.self.now.entries.now.entries c.requires.complete c.args.write.now c.args.self.now.job.now c.args.self.now.entry.now c.in_ok-met.met.items c.deref.result.now c.add_woken_of.new.found.items c.under-waiting.result.now
    c.requires.is c.under-waiting.ensures.all (subst (λ (xs : List Firing). (f : Firing) → Contains xs f ↔ Contains c.in_ok-met.met.items f) (sym c.deref.ensures.value) c.put_in_order.ensures.same) c.in_ok-met.ensures c.in_ok-add_woken_of.ensures.exact
