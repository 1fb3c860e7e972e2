use Rattle.std.proofs.Common.{◌∙◌, ◌≤◌, ◌<◌, ap, sym, subst, refl, arith, map, length}
use Rattle.std.proofs.lemmas.List.{take_all}
use Rattle.u_sets.specs.Pairs.{pairs_of_many, GroupsAreDistinct}
use Rattle.u_sets.specs.Columns.{numbered_from, deref_value}
use Rattle.u_sets.proofs.Keyed.{many_more, apart_more}
use Rattle.u_sets.proofs.Columned.{numbered_length, numbered_at, read_at}
use Rattle.u_sets.proofs.column.gather.Goals as goal

pub loop-place-preserved : goal.loop-place-preserved
loop-place-preserved g c =
    let fs = c.args.places.now in
    let i = c.loop-place.place in
    let f = c.index-places-place.result in
    let l : i < length fs = omega arith in
    let there = numbered_at 0 i i fs f (omega arith) (read_at fs fs i f refl l c.index-places-place.is) in
    let below : i < length (numbered_from 0 fs) = omega (arith, l, numbered_length 0 fs) in
    record {
      all = many_more c.args.least (numbered_from 0 fs) i (i, f) (map deref_value c.loop-place.list.items) (map deref_value c.push_values.new.list.items) below (sym there) c.loop-place.invariant.all c.in_ok-push_values.ensures.ok;
      apart = apart_more (numbered_from 0 fs) i (i, f) below (sym there) c.loop-place.invariant.apart c.in_ok-push_values.ensures.distinct;
    }

pub returns-clause-all : goal.returns-clause-all
returns-clause-all g c =
    let fs = c.args.places.now in
    let end : length fs ≤ c.loop-place.place = omega arith in
    c.loop-place.invariant.all ∙ ap (pairs_of_many c.args.least) (take_all c.loop-place.place (numbered_from 0 fs) (omega (arith, end, numbered_length 0 fs)))

pub returns-clause-apart : goal.returns-clause-apart
returns-clause-apart g c =
    let fs = c.args.places.now in
    let end : length fs ≤ c.loop-place.place = omega arith in
    subst GroupsAreDistinct (take_all c.loop-place.place (numbered_from 0 fs) (omega (arith, end, numbered_length 0 fs))) c.loop-place.invariant.apart
