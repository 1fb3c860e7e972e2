use Rattle.std.proofs.Common.{sym, ap, subst}
use Rattle.u_world.specs.Inside.{AllHold}
use Rattle.u_world.specs.WorldState.{WorldState}
use Rattle.u_world.specs.Worlds.{IsWorld}
use Rattle.u_world.specs.Headline.{AllSettled}
use Rattle.u_world.proofs.Settled.{fresh_settled}
use Rattle.u_world.proofs.Fresh.{fresh_is_world}
use Rattle.u_world.proofs.world.World.new.Goals as goal

pub invariant_of-result : goal.invariant_of-result
invariant_of-result c =
    let e = c.in_ok-inside.ensures.state in
    subst IsWorld (sym e) (fresh_is_world c.args.job.now c.args.limit c.args.count c.requires (subst AllHold (ap (λ (w : WorldState). w.replicas) e) c.in_ok-inside.ensures.hold))

pub returns-clause-settled : goal.returns-clause-settled
returns-clause-settled c = subst AllSettled (sym c.in_ok-inside.ensures.state) (fresh_settled c.args.job.now c.args.limit c.args.count)
