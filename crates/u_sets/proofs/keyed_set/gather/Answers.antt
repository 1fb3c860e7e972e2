use Rattle.std.proofs.Common.{arith, map, ◌<◌, length}
use Rattle.std.specs.Map.Iter.{deref_pair}
use Rattle.u_sets.proofs.Keyed.{many_more, apart_more}
use Rattle.u_sets.proofs.keyed_set.gather.Goals as goal

pub loop-place-preserved : goal.loop-place-preserved
loop-place-preserved g c =
    let below : c.loop-place.place < length c.args.groups.now.entries = omega arith in
    record {
      all = many_more c.args.least c.args.groups.now.entries c.loop-place.place (c.in-Some.key.now, c.in-Some.few.now) (map deref_pair c.loop-place.list.items) (map deref_pair c.push_pairs.new.list.items) below c.in-Some.ensures.entry c.loop-place.invariant.all c.in_ok-push_pairs.ensures.ok;
      apart = apart_more c.args.groups.now.entries c.loop-place.place (c.in-Some.key.now, c.in-Some.few.now) below c.in-Some.ensures.entry c.loop-place.invariant.apart c.in_ok-push_pairs.ensures.distinct;
    }
