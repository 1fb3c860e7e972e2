-- Sets in order, of which a few of the least keys stand in front.
use Rattle.std.specs.Prelude.{◌≤◌, List, ◌++◌, length}
use Rattle.std.specs.declared.cmp.Ordering.{Ordering}
use Rattle.u_sets.specs.Rising.{Rises}

-- the front and the others behind it rise, and the front has at most 8 keys
pub record IsFronted {X : Type 0} (R : X → X → Ordering) (front others : List X) : Type 0 where
  pub rises : Rises R (front ++ others)
  pub few : length front ≤ 8
