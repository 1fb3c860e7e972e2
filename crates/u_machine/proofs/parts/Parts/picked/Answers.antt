use Rattle.std.proofs.Common.{subst, sym}
use Rattle.std.specs.Prelude.{Contains}
use Rattle.u_rule.specs.declared.firing.Firing.{Firing}
use Rattle.u_machine.specs.State.{State, AreReady, IsPickIn, IsReadyIn}
use Rattle.u_machine.specs.Masks.{is_in, those_in}
use Rattle.u_machine.specs.Invariant.{state_of}
use Rattle.u_machine.proofs.Lists.{slice_get_Contains}
use Rattle.u_machine.proofs.Making.{makes_settled}
use Rattle.u_machine.proofs.Masked.{none_ready_in, from_filter}
use Rattle.u_machine.proofs.Settled.{kept_ready}
use Rattle.u_machine.proofs.parts.Parts.picked.Goals as goal
use Rattle.u_machine.proofs.parts.Parts.picked.Goals.{After-is_empty-none}

are : (c : After-is_empty-none) → AreReady (state_of c.make_all.new.self) c.make_all.new.self.ready
are c = kept_ready c.make_all.new.self c.in_ok-make_all.ensures.kept (makes_settled _ _ c.in_ok-make_all.ensures.makes c.requires.settled) c.in_ok-make_all.ensures.ok c.is_empty-none.ensures.rises

pub unreachable-requires : goal.unreachable-requires
unreachable-requires c =
    let (f, is) = c.requires.ready in
    none_ready_in (state_of c.make_all.new.self) c.args.buckets c.make_all.new.self.ready (are (goal.at.unreachable-requires c).After-is_empty-none) c.in_default.ensures.none f
    (subst (λ (s : State). IsReadyIn s c.args.buckets f) (sym c.in_ok-make_all.ensures.makes.state) is)

pub returns-clause-picked : goal.returns-clause-picked
returns-clause-picked c =
    let p = c.make_all.new.self in
    let f = c.in-Some.firing.now in
    let at = c.in-Some.ensures.some in
    let is : IsPickIn (state_of p) c.args.buckets c.args.pick f = (p.ready, are (goal.at.returns-clause-picked c).After-is_empty-none, at) in
    subst (λ (g : Firing). IsPickIn (state_of c.args.self.now) c.args.buckets c.args.pick g × Contains p.ready g) (sym c.in_ok-copy.ensures)
    (subst (λ (s : State). IsPickIn s c.args.buckets c.args.pick f) c.in_ok-make_all.ensures.makes.state is, (from_filter (is_in c.args.buckets) p.ready f (slice_get_Contains (those_in c.args.buckets p.ready) _ f at)).0)
