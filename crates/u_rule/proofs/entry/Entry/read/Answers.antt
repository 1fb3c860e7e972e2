use Rattle.std.proofs.Common.{◌≡◌, ◌<◌, Ok, Err, length, rules, arith}
use Rattle.std.proofs.lemmas.Bool.Decides.{nat_tests}
use Rattle.u_rule.specs.EntryReading.{entry_at}
use Rattle.u_rule.proofs.EntryReadingLaws.{entry_whole, entry_left_over, entry_left_within, entry_refused_whole, entry_refused_within}
use Rattle.u_rule.proofs.entry.Entry.read.Goals as goal

pub overflow_sub-result : goal.overflow_sub-result
overflow_sub-result c =
    let h : entry_at c.args.bytes.now ≡ Ok (c.in-Ok.entry, c.in-Ok.rest.now) = search rules in
    entry_left_within c.args.bytes.now c.in-Ok.entry c.in-Ok.rest.now h

pub overflow_sub-result-in-Err : goal.overflow_sub-result-in-Err
overflow_sub-result-in-Err c =
    let h : entry_at c.args.bytes.now ≡ Err c.in-Err.rest.now = search rules in
    entry_refused_within c.args.bytes.now c.in-Err.rest.now h

pub returns-then-is_empty : goal.returns-then-is_empty
returns-then-is_empty c =
    let h : entry_at c.args.bytes.now ≡ Ok (c.in-Ok.entry, c.in-Ok.rest.now) = search rules in
    let nothing_left : length c.in-Ok.rest.now ≡ 0 = search rules in
    entry_whole c.args.bytes.now c.in-Ok.entry c.in-Ok.rest.now h nothing_left

pub returns-else-is_empty : goal.returns-else-is_empty
returns-else-is_empty c =
    let h : entry_at c.args.bytes.now ≡ Ok (c.in-Ok.entry, c.in-Ok.rest.now) = search rules in
    let some_left : 0 < length c.in-Ok.rest.now = grind (arith, nat_tests, c.is_empty.ensures, c.if-is_empty.false) in
    entry_left_over c.args.bytes.now c.in-Ok.entry c.in-Ok.rest.now h some_left

pub returns-in-Err : goal.returns-in-Err
returns-in-Err c =
    let h : entry_at c.args.bytes.now ≡ Err c.in-Err.rest.now = search rules in
    entry_refused_whole c.args.bytes.now c.in-Err.rest.now h
