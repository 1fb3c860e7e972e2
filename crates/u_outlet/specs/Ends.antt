-- What the ends of a published list hold.
use Rattle.std.specs.Prelude.{List}
use Rattle.left_right.specs.declared.Absorb as absorb
use Rattle.left_right.specs.Sides.{view}
use Rattle.u_outlet.specs.Writing.{shown, unshown}
use Rattle.u_outlet.specs.declared.ends.OutletOf.{OutletOf}
use Rattle.u_outlet.specs.declared.ends.Inlet.{Inlet}
use Rattle.u_outlet.specs.declared.ends.Notice.{Notice}
use Rattle.u_rule.specs.declared.firing.Firing.{Firing}

module _ {X V P : Type 0} {g : absorb.Ghosts (List X) (List X) V} where
  -- all that is published
  abbrev pub published : OutletOf (List X) (List X) V P g → List X
  published o = shown o.writer

  -- all that was put and is not published
  abbrev pub pending : OutletOf (List X) (List X) V P g → List X
  pending o = unshown o.writer

module _ {J : Type 0} where
  -- all that the inlet has seen or learnt of
  abbrev pub seen_by : Inlet J → List Firing
  seen_by i = view i.reader.place

  -- what was published as the notice was made
  abbrev pub told_by : Notice J → List Firing
  told_by n = view n.reader.place
