use Rattle.std.proofs.Common.{◌≡◌, arith, ◌-◌, ◌+◌, ◌<◌, length}
use Rattle.u_sets.proofs.Turned.{all_below, is_less, found_at, put_at, put_first, not_there, none_there}
use Rattle.std.specs.declared.cmp.Ordering.TheVariants.{Less}
use Rattle.u_sets.proofs.falling.place_of.Goals as goal

pub returns-in-Greater-clause-rises : goal.returns-in-Greater-clause-rises
returns-in-Greater-clause-rises g c =
    let place = c.loop-place.place in
    let next : place ≡ place - 1 + 1 = omega arith in
    let within : place - 1 < length c.args.list.now = omega arith in
    put_at g.T.Ord.cmp g.met.T.Ord.total c.args.list.now (place - 1) place c.index-list-place.result c.args.item.now c.requires next within c.index-list-place.is (cc) c.loop-place.invariant.below

pub returns-in-Greater-clause-absent : goal.returns-in-Greater-clause-absent
returns-in-Greater-clause-absent g c =
    let place = c.loop-place.place in
    let next : place ≡ place - 1 + 1 = omega arith in
    let within : place - 1 < length c.args.list.now = omega arith in
    not_there g.T.Ord.cmp g.met.T.Ord.total c.args.list.now (place - 1) place c.index-list-place.result c.args.item.now c.requires next within c.index-list-place.is (cc) c.loop-place.invariant.below

pub returns-clause-rises : goal.returns-clause-rises
returns-clause-rises g c =
    let none : c.loop-place.place ≡ 0 = omega arith in
    rw none (put_first g.T.Ord.cmp g.met.T.Ord.total c.args.list.now c.args.item.now c.requires (rw none at c.loop-place.invariant.below))

pub returns-then-is_lt-clause-rises : goal.returns-then-is_lt-clause-rises
returns-then-is_lt-clause-rises g c =
    let xs = c.args.list.now in
    let x = c.args.item.now in
    let v = c.index-list-0.result in
    let less : g.T.Ord.cmp v x ≡ Less = is_less (g.T.Ord.cmp v x) (cc) in
    put_first g.T.Ord.cmp g.met.T.Ord.total xs x c.requires (all_below g.T.Ord.cmp g.met.T.Ord.total xs v x c.requires c.index-list-0.is less)

pub returns-then-is_lt-clause-absent : goal.returns-then-is_lt-clause-absent
returns-then-is_lt-clause-absent g c =
    let xs = c.args.list.now in
    let x = c.args.item.now in
    let v = c.index-list-0.result in
    let less : g.T.Ord.cmp v x ≡ Less = is_less (g.T.Ord.cmp v x) (cc) in
    none_there g.T.Ord.cmp g.met.T.Ord.total xs x (all_below g.T.Ord.cmp g.met.T.Ord.total xs v x c.requires c.index-list-0.is less)

pub returns-in-Equal-clause-found : goal.returns-in-Equal-clause-found
returns-in-Equal-clause-found g c =
    let place = c.loop-place.place in
    let within : place - 1 < length c.args.list.now = omega arith in
    found_at g.T.Ord.cmp g.met.T.Ord.total g.met.T.ExactOrd.exact c.args.list.now (place - 1) c.index-list-place.result c.args.item.now within c.index-list-place.is (cc)
