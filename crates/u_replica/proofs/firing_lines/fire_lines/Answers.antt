use Rattle.std.proofs.Common.{◌≡◌, List, ℕ, Bor, Option, Some}
use Rattle.std.specs.Prelude.{MatchOption}
use Rattle.u_machine.specs.State.{State}
use Rattle.u_replica.specs.FiredLines.{FiresLine}
use Rattle.u_replica.proofs.FiredLaws.{one_fired, one_ran}
use Rattle.u_replica.proofs.firing_lines.fire_lines.Goals as goal

fired_of : (old : State) (bytes : List ℕ) (others : Bor (List ℕ)) (found : Option (Bor (List ℕ))) (new : State) → found ≡ Some others → MatchOption found (new ≡ old) (λ rest. FiresLine old bytes rest.now new) → FiresLine old bytes others.now new
fired_of old bytes others found new e m = rw e at m

pub loop-spelled-preserved-then-applied-eq0 : goal.loop-spelled-preserved-then-applied-eq0
loop-spelled-preserved-then-applied-eq0 g c =
    let i = c.loop-spelled.invariant in
    let l = fired_of c.loop-spelled.machine c.loop-spelled.rest.now c.in-Some.others c.in_ok-others.field-0 c.fire_line.new.machine c.in-Some.is c.in_ok-others.ensures.fires in (
      one_fired c.args.machine.now c.loop-spelled.machine c.fire_line.new.machine c.loop-spelled.rest.now c.in-Some.others.now c.requires.fresh i.1 l c.args.bytes.now i.0,
      one_ran c.args.machine.now c.loop-spelled.machine c.fire_line.new.machine c.loop-spelled.rest.now c.in-Some.others.now c.requires.fresh i.1 l,
      l.settled,
    )

pub loop-spelled-preserved : goal.loop-spelled-preserved
loop-spelled-preserved g c =
    let i = c.loop-spelled.invariant in
    let l = fired_of c.loop-spelled.machine c.loop-spelled.rest.now c.in-Some.others c.in_ok-others.field-0 c.fire_line.new.machine c.in-Some.is c.in_ok-others.ensures.fires in (
      one_fired c.args.machine.now c.loop-spelled.machine c.fire_line.new.machine c.loop-spelled.rest.now c.in-Some.others.now c.requires.fresh i.1 l c.args.bytes.now i.0,
      one_ran c.args.machine.now c.loop-spelled.machine c.fire_line.new.machine c.loop-spelled.rest.now c.in-Some.others.now c.requires.fresh i.1 l,
      l.settled,
    )
