use Rattle.std.proofs.Common.{◌≡◌, ◌<◌, length, rules, arith}
use Rattle.std.proofs.lemmas.Bool.Decides.{nat_tests}
use Rattle.u_rule.proofs.FiringReadingLaws.{firing_whole, firing_left_over, firing_left_within}
use Rattle.u_rule.proofs.firing_reading.whole.Goals as goal

pub overflow_sub-result : goal.overflow_sub-result
overflow_sub-result c = firing_left_within c.args.bytes.now c.args.firing c.args.rest.now c.requires

pub returns-then-is_empty : goal.returns-then-is_empty
returns-then-is_empty c =
    let nothing_left : length c.args.rest.now ≡ 0 = search rules in
    firing_whole c.args.bytes.now c.args.firing c.args.rest.now c.requires nothing_left

pub returns-else-is_empty : goal.returns-else-is_empty
returns-else-is_empty c =
    let some_left : 0 < length c.args.rest.now = grind (arith, nat_tests, c.if-is_empty.ensures, c.if-is_empty.false) in
    firing_left_over c.args.bytes.now c.args.firing c.args.rest.now c.requires some_left
