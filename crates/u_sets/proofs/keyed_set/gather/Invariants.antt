use Rattle.std.proofs.Common.{◌≡◌, map, take}
use Rattle.std.specs.Map.Iter.{deref_pair}
use Rattle.u_sets.specs.Pairs.{pairs_of_many, GroupsAreDistinct}
use Rattle.u_sets.proofs.keyed_set.gather.Given as goal

abbrev pub invariant-loop-place : goal.invariant-loop-place
invariant-loop-place g l = record {
  all : map deref_pair l.list.items ≡ pairs_of_many l.least (take l.place l.groups.entries);
  apart : GroupsAreDistinct (take l.place l.groups.entries);
}
