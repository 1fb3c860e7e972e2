use Rattle.std.proofs.Common.{List, Contains, subst, sym}
use Rattle.u_base.specs.Firing.{Same}
use Rattle.u_rule.specs.declared.entry.Entry.{Entry}
use Rattle.u_trace.proofs.answer.waits.Goals as goal

pub waiting_activities-requires : goal.waiting_activities-requires
waiting_activities-requires c = subst (λ (es : List Entry). Same (Contains es) (Contains c.args.history.now)) (sym c.deref.ensures.value) c.in_ok-entries.ensures.all

pub deferred_reads-requires : goal.deferred_reads-requires
deferred_reads-requires c = subst (λ (es : List Entry). Same (Contains es) (Contains c.args.history.now)) (sym c.deref-2.ensures.value) c.in_ok-entries.ensures.all
