use Rattle.std.proofs.Common.{rules, ◌≡◌, ◌<◌, [], length, sym, subst}
use Rattle.std.specs.Prelude.{Contains, slice_index_or}
use Rattle.std.proofs.lemmas.Result.{IfErr-weaker}
use Rattle.u_fleet.specs.Headline.{MoreThan, IsWholeList, AreRuns, AreStopped}
use Rattle.u_fleet.specs.declared.plan.End.TheVariants.{Done, Full}
use Rattle.u_fleet.specs.declared.plan.FleetFault.TheVariants as faults
use Rattle.u_fleet.proofs.Ended.{have_runs, have_whole, have_more, always_ok}
use Rattle.u_fleet.proofs.Pairs.{at_ok}
use Rattle.u_fleet.proofs.report.merged.Goals as goal

pub machine_of_done-requires-clause-runs : goal.machine_of_done-requires-clause-runs
machine_of_done-requires-clause-runs g c = subst (λ ls. AreRuns g.J.Named.job ls) (sym c.as_slice-lists.ensures.value) (have_runs _ _ _ _ _ c.requires.ended)

pub machine_of_done-requires-clause-whole : goal.machine_of_done-requires-clause-whole
machine_of_done-requires-clause-whole g c =
    let found = subst (λ es. (c.in-Some.place < length es) × (slice_index_or es c.in-Some.place Done ≡ Done)) c.as_slice-ends.ensures.value (c.in-Some.ensures).found in
    subst (λ ls. IsWholeList g.J.Named.job (slice_index_or ls c.in-Some.place [])) (sym c.as_slice-lists.ensures.value) (have_whole _ _ _ _ _ c.requires.ended _ found.0 found.1)

pub returns-in_err-all_stopped-in-None-clause-full : goal.returns-in_err-all_stopped-in-None-clause-full
returns-in_err-all_stopped-in-None-clause-full g c =
    IfErr-weaker c.from_residual.result (λ e. e ≡ faults.Full → Contains c.as_slice-ends.result.now Full) (λ e. e ≡ faults.Full → MoreThan g.J.Named.job c.args.plan.now.limit)
    (λ e full is. have_more _ _ _ _ _ c.requires.ended (subst (λ es. Contains es Full) c.as_slice-ends.ensures.value (full is))) (search rules)

pub machine_of-requires-clause-runs : goal.machine_of-requires-clause-runs
machine_of-requires-clause-runs g c = subst (λ ls. AreRuns g.J.Named.job ls) (sym c.as_slice-lists.ensures.value) (have_runs _ _ _ _ _ c.requires.ended)

pub returns-in-Some-clause-none_done : goal.returns-in-Some-clause-none_done
returns-in-Some-clause-none_done g c =
    let found = subst (λ es. (c.in-Some.place < length es) × (slice_index_or es c.in-Some.place Done ≡ Done)) c.as_slice-ends.ensures.value (c.in-Some.ensures).found in
    at_ok c.machine_of_done.result _ (λ none. absurd (none (c.in-Some.place, found.0, found.1)))

pub returns-in_ok-all_stopped-in-None-clause-done : goal.returns-in_ok-all_stopped-in-None-clause-done
returns-in_ok-all_stopped-in-None-clause-done g c =
    always_ok c.machine_of.result _ (λ m there. absurd ((c.in-None.ensures).none (search rules) (subst (λ es. Contains es Done) (sym c.as_slice-ends.ensures.value) there)))

pub returns-in_ok-all_stopped-in-None-clause-none_done : goal.returns-in_ok-all_stopped-in-None-clause-none_done
returns-in_ok-all_stopped-in-None-clause-none_done g c =
    at_ok c.machine_of.result _ (λ none. subst (λ es. AreStopped es) c.as_slice-ends.ensures.value (c.in_ok-all_stopped-in-None.ensures).ok)
