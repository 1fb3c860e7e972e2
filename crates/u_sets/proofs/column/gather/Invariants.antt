use Rattle.std.proofs.Common.{◌≡◌, map, take}
use Rattle.u_sets.specs.Pairs.{pairs_of_many, GroupsAreDistinct}
use Rattle.u_sets.specs.Columns.{numbered_from, deref_value}
use Rattle.u_sets.proofs.column.gather.Given as goal

abbrev pub invariant-loop-place : goal.invariant-loop-place
invariant-loop-place g l = record {
  all : map deref_value l.list.items ≡ pairs_of_many l.least (take l.place (numbered_from 0 l.places));
  apart : GroupsAreDistinct (take l.place (numbered_from 0 l.places));
}
