-- What a writer of `left_right` over lists shows, and what it has not shown.
use Rattle.std.specs.Prelude.{List, drop}
use Rattle.left_right.specs.declared.Absorb as absorb
use Rattle.left_right.specs.declared.writer.Writer.{Writer}
use Rattle.std.specs.declared.alloc.Global.{Global}
use Rattle.u_outlet.specs.Fronts.{joined}

module _ {X V P : Type 0} {g : absorb.Ghosts (List X) (List X) V} where
  abbrev pub shown : Writer (List X) (List X) V P Global V g → List X
  shown w = w.desk.shown.value

  -- its log holds batches, of which the first ones are shown already
  abbrev pub unshown : Writer (List X) (List X) V P Global V g → List X
  unshown w = joined (drop w.behind w.log.items)
