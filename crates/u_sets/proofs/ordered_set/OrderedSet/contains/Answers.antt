use Rattle.std.proofs.Common.{reverse, refl}
use Rattle.u_sets.proofs.Fronted.{front_rises, was_behind}
use Rattle.u_sets.proofs.Turned.{has_turned, in_front}
use Rattle.u_sets.proofs.ordered_set.OrderedSet.contains.Goals as goal

pub place_of-requires : goal.place_of-requires
place_of-requires g c = rw c.deref.ensures.value (front_rises g.K.Ord.cmp g.met.K.Ord.total (reverse c.self.inside.front.items) c.self.inside.others c.self.invariant.rises)

pub returns-in-Ok : goal.returns-in-Ok
returns-in-Ok g c =
    let at = rw c.deref.ensures.value at c.in-Ok.ensures.found in
    rw (← c.self.view_is) ((λ h. in_front g.K.Ord.cmp g.met.K.Ord.total c.self.inside.front.items c.self.inside.others c.in-Ok.field-0 c.args.key.now at), λ m. refl)

pub returns-in-Err : goal.returns-in-Err
returns-in-Err g c =
    let front = c.self.inside.front.items in
    let key = c.args.key.now in
    let absent = rw c.deref.ensures.value at c.in-Err.ensures.absent in
    rw (← c.self.view_is) (was_behind (reverse front) c.self.inside.others key c.contains.result (λ m. absent (has_turned front key m)) c.contains.ensures)
