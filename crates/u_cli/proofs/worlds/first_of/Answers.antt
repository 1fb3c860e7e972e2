use Rattle.std.proofs.Common.{◌-◌, arith, sym, refl, subst, List, length}
use Rattle.u_world.specs.declared.event.Event.{Event}
use Rattle.u_cli.specs.Worlds.{AreDoable}
use Rattle.u_cli.proofs.Gathering.{merges_doable}
use Rattle.u_cli.proofs.worlds.first_of.Goals as goal

pub run_events-requires : goal.run_events-requires
run_events-requires c =
    subst (λ (es : List Event). AreDoable c.args.world es) (sym c.deref.ensures.value)
    (subst (λ (es : List Event). AreDoable c.args.world es) (sym c.in_ok-events.ensures)
    (merges_doable c.args.world (length c.args.world.replicas) (c.count.result - 1) c.holds.ensures.is refl (omega (arith, c.count.ensures, c.holds.ensures.is.count.0, c.holds.ensures.is.count.1))))
