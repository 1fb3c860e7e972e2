use Rattle.std.proofs.Common.{◌≡◌, map, length}
use Rattle.std.specs.List.{AllWithin}
use Rattle.u_fleet.specs.Fleets.{self_of, IsLinked}
use Rattle.u_fleet.proofs.making.link_all.Given as goal

abbrev pub invariant-loop-own : goal.invariant-loop-own
invariant-loop-own g l = (map self_of l.pairs ≡ map self_of l.initial.pairs) × AllWithin (IsLinked (length l.initial.pairs)) l.pairs 0 l.own
