use Rattle.std.proofs.Common.{subst, sym, arith}
use Rattle.std.proofs.lemmas.List.{take_all}
use Rattle.u_base.specs.Firing.{Same}
use Rattle.u_machine.specs.State.{Taken}
use Rattle.u_fleet.specs.Headline.{IsPublished}
use Rattle.u_fleet.proofs.Soundness.{gains_same}
use Rattle.u_fleet.proofs.Firings.{gains_trans, full_before}
use Rattle.u_fleet.proofs.Reporting.{none_published, front_published}
use Rattle.u_fleet.proofs.report.take_lists.Goals as goal

pub loop-list-init : goal.loop-list-init
loop-list-init g c = (gains_same c.args.replica.now.machine, none_published c.args.replica.now.machine c.requires.none)

pub returns-in-Err-clause-gains : goal.returns-in-Err-clause-gains
returns-in-Err-clause-gains g c = gains_trans _ _ _ c.loop-list.invariant.0 c.take_run.ensures.gains

pub returns-in-Err-clause-full : goal.returns-in-Err-clause-full
returns-in-Err-clause-full g c = λ e. full_before _ _ c.loop-list.invariant.0 ((c.in-Err.ensures).full e)

pub loop-list-preserved : goal.loop-list-preserved
loop-list-preserved g c =
    (gains_trans _ _ _ c.loop-list.invariant.0 c.take_run.ensures.gains, front_published _ _ c.args.lists.now c.loop-list.list-index _ c.loop-list-test.true (sym c.list-item.is) c.loop-list.invariant.1 (c.in-Ok.ensures).takes)

pub returns-clause-taken : goal.returns-clause-taken
returns-clause-taken g c =
    let end = c.loop-list-test.false in
    subst (λ lists. Same (Taken c.loop-list.replica.machine) (IsPublished lists)) (take_all c.loop-list.list-index c.args.lists.now (omega (arith, end))) c.loop-list.invariant.1
