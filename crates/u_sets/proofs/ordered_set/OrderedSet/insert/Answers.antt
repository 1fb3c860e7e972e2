use Rattle.std.proofs.Common.{reverse}
use Rattle.u_sets.proofs.Fronted.{front_rises, others_rise, rises_behind, rises_before, with_others, with_front, new_behind, new_before, not_in_front, not_in_others}
use Rattle.u_sets.proofs.Turned.{with_turned, new_turned, turned_more}
use Rattle.u_sets.proofs.ordered_set.OrderedSet.insert.Goals as goal

pub goes_behind-requires : goal.goes_behind-requires
goes_behind-requires g c =
    let risen = rw (← c.make_room.ensures.same) at c.self.invariant.rises in
    others_rise g.K.Ord.cmp g.met.K.Ord.total (reverse c.make_room.new.front.items) c.make_room.new.others risen

pub invariant_of-self-then-goes_behind : goal.invariant_of-self-then-goes_behind
invariant_of-self-then-goes_behind g c =
    let risen = rw (← c.make_room.ensures.same) at c.self.invariant.rises in
    record {
      rises = rises_behind g.K.Ord.cmp g.met.K.Ord.total (reverse c.make_room.new.front.items) c.make_room.new.others c.insert.new.self c.args.key risen c.in_ok-added_behind.ensures.rises c.in_ok-added_behind.ensures.ok (c.goes_behind.ensures.behind c.if-goes_behind.true);
      few = c.make_room.ensures.fronted.few;
    }

pub returns-then-goes_behind-clause-ok : goal.returns-then-goes_behind-clause-ok
returns-then-goes_behind-clause-ok g c =
    let a = reverse c.make_room.new.front.items in
    rw (← c.self.view_is) (rw c.make_room.ensures.same at (with_others a c.make_room.new.others c.insert.new.self c.args.key c.in_ok-added_behind.ensures.ok))

pub returns-then-goes_behind-clause-new : goal.returns-then-goes_behind-clause-new
returns-then-goes_behind-clause-new g c =
    let a = reverse c.make_room.new.front.items in
    let b = c.make_room.new.others in
    let risen = rw (← c.make_room.ensures.same) at c.self.invariant.rises in
    let away = not_in_front g.K.Ord.cmp g.met.K.Ord.total a b c.args.key risen (c.goes_behind.ensures.behind c.if-goes_behind.true) in
    rw (← c.self.view_is) (rw c.make_room.ensures.same at (new_behind a b c.args.key c.in_ok-added_behind.added_behind away c.in_ok-added_behind.ensures.new))

pub returns-then-goes_behind-clause-rises : goal.returns-then-goes_behind-clause-rises
returns-then-goes_behind-clause-rises g c =
    let risen = rw (← c.make_room.ensures.same) at c.self.invariant.rises in
    rises_behind g.K.Ord.cmp g.met.K.Ord.total (reverse c.make_room.new.front.items) c.make_room.new.others c.insert.new.self c.args.key risen c.in_ok-added_behind.ensures.rises c.in_ok-added_behind.ensures.ok (c.goes_behind.ensures.behind c.if-goes_behind.true)

pub put_in_place-requires : goal.put_in_place-requires
put_in_place-requires g c =
    let risen = rw (← c.make_room.ensures.same) at c.self.invariant.rises in
    front_rises g.K.Ord.cmp g.met.K.Ord.total (reverse c.make_room.new.front.items) c.make_room.new.others risen

pub invariant_of-self-2 : goal.invariant_of-self-2
invariant_of-self-2 g c =
    let a = c.make_room.new.front.items in
    let new = c.put_in_place.new.list.items in
    let is_with = with_turned a new c.args.key c.in_ok-added_in_front.ensures.ok in
    let risen = rw (← c.make_room.ensures.same) at c.self.invariant.rises in
    record {
      rises = rises_before g.K.Ord.cmp g.met.K.Ord.total (reverse a) c.make_room.new.others (reverse new) c.args.key risen c.in_ok-added_in_front.ensures.rises is_with (c.goes_behind.ensures.before c.if-goes_behind.false);
      few = turned_more a new c.in_ok-added_in_front.added_in_front c.in_ok-added_in_front.ensures.count c.in_ok-added_in_front.ensures.still c.in-Ok.ensures.room;
    }

pub returns-clause-ok : goal.returns-clause-ok
returns-clause-ok g c =
    let a = c.make_room.new.front.items in
    let new = c.put_in_place.new.list.items in
    let is_with = with_turned a new c.args.key c.in_ok-added_in_front.ensures.ok in
    rw (← c.self.view_is) (rw c.make_room.ensures.same at (with_front (reverse a) c.make_room.new.others (reverse new) c.args.key is_with))

pub returns-clause-new : goal.returns-clause-new
returns-clause-new g c =
    let a = c.make_room.new.front.items in
    let b = c.make_room.new.others in
    let added = c.in_ok-added_in_front.added_in_front in
    let away = not_in_others g.K.Ord.cmp g.met.K.Ord.total b c.args.key (c.goes_behind.ensures.before c.if-goes_behind.false) in
    let was_new = new_turned a c.args.key added c.in_ok-added_in_front.ensures.new in
    rw (← c.self.view_is) (rw c.make_room.ensures.same at (new_before (reverse a) b c.args.key added away was_new))

pub returns-clause-rises : goal.returns-clause-rises
returns-clause-rises g c =
    let a = c.make_room.new.front.items in
    let new = c.put_in_place.new.list.items in
    let is_with = with_turned a new c.args.key c.in_ok-added_in_front.ensures.ok in
    let risen = rw (← c.make_room.ensures.same) at c.self.invariant.rises in
    rises_before g.K.Ord.cmp g.met.K.Ord.total (reverse a) c.make_room.new.others (reverse new) c.args.key risen c.in_ok-added_in_front.ensures.rises is_with (c.goes_behind.ensures.before c.if-goes_behind.false)
