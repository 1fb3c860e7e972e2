-- The greatest initiation of a context, and of an activity.
use Rattle.std.specs.Prelude.{ℕ, max}
use Rattle.u_name.specs.Context.{Tree, Top, InLoop, InCall}
use Rattle.u_name.specs.Name.{Activity}

-- that of its loops and calls; the root has none, and 0 stands for it
abbrev pub greatest_turn : Tree → ℕ
greatest_turn Top = 0
greatest_turn (InLoop outer block number initiation) = max (greatest_turn outer) initiation
greatest_turn (InCall outer block statement initiation) = max (greatest_turn outer) initiation

-- its own, and those of its context
abbrev pub greatest_initiation : Activity → ℕ
greatest_initiation a = max (greatest_turn a.context) a.initiation
