use Rattle.std.proofs.Common.{◌≡◌, ◌+◌, [], ◌∷◌, ap, arith, length}
use Rattle.std.proofs.lemmas.List.{length-append, length-map}
use Rattle.u_fleet.specs.Fleets.{seat_of, IsSilent}
use Rattle.u_fleet.proofs.Pairs.{each_on, images_on}
use Rattle.u_fleet.proofs.making.open_all.Goals as goal

pub loop-seat-preserved : goal.loop-seat-preserved
loop-seat-preserved g c =
    let inv = c.loop-seat.invariant in
    let new = c.in_ok-open_pair.ensures in
    rw (c.push_reserved.ensures.items, c.push_reserved.ensures.len, c.push_reserved.ensures.capacity) (
      tt,
      tt,
      images_on seat_of _ _ _ _ inv.2 new.seat,
      each_on (λ k p. IsSilent p) _ _ inv.3 new.silent,
      each_on (λ k p. p.1.number ≡ k + 1) _ _ inv.4 (omega (arith, new.number, c.len-in-loop-seat.ensures, inv.5, ap length inv.2, length-map c.loop-seat.pairs.items seat_of)),
      (omega (arith, inv.5, length-append c.loop-seat.yielded (c.in-Some.seat ∷ []))),
      inv.6,
    )
