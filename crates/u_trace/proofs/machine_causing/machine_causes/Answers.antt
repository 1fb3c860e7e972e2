use Rattle.std.proofs.Common.{◌≡◌, List, subst}
use Rattle.std.specs.Prelude.{IfOk}
use Rattle.std.proofs.lemmas.List.Elements.{Contains-append_left}
use Rattle.u_check.specs.Jobs.{JobParts}
use Rattle.u_rule.specs.EntryOrder.{firing_cmp}
use Rattle.u_rule.specs.Rule.{own_of}
use Rattle.u_rule.specs.declared.entry.Entry.{Entry}
use Rattle.u_rule.specs.declared.firing.Firing.{Firing}
use Rattle.u_sets.specs.Rising.{IsListOf}
use Rattle.u_machine.specs.State.{State, IsMachine}
use Rattle.u_trace.specs.Causes.{IsCause, IsGiverIn}
use Rattle.u_trace.specs.Givers.{AreFirings}
use Rattle.u_trace.proofs.CauseLaws.{quiet_causes}
use Rattle.u_trace.proofs.machine_causing.machine_causes.Goals as goal

pub returns-then-not-is_quiet-clause-ok : goal.returns-then-not-is_quiet-clause-ok
returns-then-not-is_quiet-clause-ok c =
    let found = c.causes.result in
    let of_job = subst (λ (j : JobParts). IfOk found (λ v. IsListOf firing_cmp (IsCause j c.history-history.result.now c.args.entry.now) v.items)) c.job-job.ensures c.causes.ensures.ok in
    subst (λ (es : List Entry). IfOk found (λ v. IsListOf firing_cmp (IsCause c.args.machine.now.job es c.args.entry.now) v.items)) c.history-history.ensures of_job

applied_firings : (m : State) (job : JobParts) (log : List Firing) → job ≡ m.job → log ≡ m.log → IsMachine m → AreFirings (own_of job) log
applied_firings m job log j l is = rw (j, l) (λ f k. is.sound.firings f (Contains-append_left m.log m.parked f k))

pub givers_among-requires : goal.givers_among-requires
givers_among-requires c = applied_firings c.args.machine.now c.job-job.result.now c.applied.result.now c.job-job.ensures c.applied.ensures c.holds.ensures.is

pub returns-clause-ok : goal.returns-clause-ok
returns-clause-ok c =
    let m = c.args.machine.now in
    let e = c.args.entry.now in
    let found = c.in_ok-found.found.items in
    let of_job = subst (λ (j : JobParts). IsListOf firing_cmp (IsGiverIn j c.applied.result.now e) found) c.job-job.ensures c.in_ok-found.ensures in
    let those = subst (λ (log : List Firing). IsListOf firing_cmp (IsGiverIn m.job log e) found) c.applied.ensures of_job in
    let causes = quiet_causes m c.holds.ensures.is (c.is_quiet.ensures.0 c.if-not-is_quiet.false) e in
    record {
      rises = those.rises;
      exact = λ f. ((λ k. (causes f).0 ((those.exact f).0 k)), (λ k. (those.exact f).1 ((causes f).1 k)));
    }
