use Rattle.std.proofs.Common.{reverse, refl}
use Rattle.u_sets.proofs.Fronted.{front_rises, rises_less, without_others, was_behind}
use Rattle.u_sets.proofs.Turned.{has_turned, in_front, out_of_turned, turned_shorter, turned_fewer}
use Rattle.u_sets.proofs.ordered_set.OrderedSet.remove.Goals as goal

pub place_of-requires : goal.place_of-requires
place_of-requires g c = rw c.deref.ensures.value (front_rises g.K.Ord.cmp g.met.K.Ord.total (reverse c.self.inside.front.items) c.self.inside.others c.self.invariant.rises)

pub invariant_of-self : goal.invariant_of-self
invariant_of-self g c = record {
  rises = rises_less g.K.Ord.cmp g.met.K.Ord.total (reverse c.self.inside.front.items) c.self.inside.others c.remove.new.self c.args.key.now c.self.invariant.rises c.remove.ensures.rises c.remove.ensures.without;
  few = c.self.invariant.few;
}

pub returns-in_default-clause-without : goal.returns-in_default-clause-without
returns-in_default-clause-without g c =
    let front = c.self.inside.front.items in
    let key = c.args.key.now in
    let absent = rw c.deref.ensures.value at c.in_default.ensures.absent in
    rw (← c.self.view_is) (without_others (reverse front) c.self.inside.others c.remove.new.self key (λ m. absent (has_turned front key m)) c.remove.ensures.without)

pub returns-in_default-clause-was : goal.returns-in_default-clause-was
returns-in_default-clause-was g c =
    let front = c.self.inside.front.items in
    let key = c.args.key.now in
    let absent = rw c.deref.ensures.value at c.in_default.ensures.absent in
    rw (← c.self.view_is) (was_behind (reverse front) c.self.inside.others key c.remove.result (λ m. absent (has_turned front key m)) c.remove.ensures.was)

pub returns-in_default-clause-rises : goal.returns-in_default-clause-rises
returns-in_default-clause-rises g c = rises_less g.K.Ord.cmp g.met.K.Ord.total (reverse c.self.inside.front.items) c.self.inside.others c.remove.new.self c.args.key.now c.self.invariant.rises c.remove.ensures.rises c.remove.ensures.without

pub invariant_of-self-2 : goal.invariant_of-self-2
invariant_of-self-2 g c =
    let front = c.self.inside.front.items in
    let place = c.in-Ok.place in
    let at = rw c.deref.ensures.value at c.in-Ok.ensures.found in
    let within = rw c.deref.ensures.value at c.in-Ok.ensures.within in
    rw c.remove-2.ensures.items (record {
      rises = turned_shorter g.K.Ord.cmp g.met.K.Ord.total front c.self.inside.others place c.args.key.now c.self.invariant.rises at;
      few = turned_fewer front place within c.self.invariant.few;
    })

pub returns-clause-without : goal.returns-clause-without
returns-clause-without g c =
    let at = rw c.deref.ensures.value at c.in-Ok.ensures.found in
    rw (← c.self.view_is, c.remove-2.ensures.items) (out_of_turned g.K.Ord.cmp g.met.K.Ord.total c.self.inside.front.items c.self.inside.others c.in-Ok.place c.args.key.now c.self.invariant.rises at)

pub returns-clause-was : goal.returns-clause-was
returns-clause-was g c =
    let at = rw c.deref.ensures.value at c.in-Ok.ensures.found in
    rw (← c.self.view_is) ((λ h. in_front g.K.Ord.cmp g.met.K.Ord.total c.self.inside.front.items c.self.inside.others c.in-Ok.place c.args.key.now at), λ m. refl)

pub returns-clause-rises : goal.returns-clause-rises
returns-clause-rises g c =
    let at = rw c.deref.ensures.value at c.in-Ok.ensures.found in
    rw c.remove-2.ensures.items (turned_shorter g.K.Ord.cmp g.met.K.Ord.total c.self.inside.front.items c.self.inside.others c.in-Ok.place c.args.key.now c.self.invariant.rises at)
