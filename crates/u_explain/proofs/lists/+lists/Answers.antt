use Rattle.std.proofs.Common.{rules, ◌≡◌, ◌≤◌, ◌/◌, ◌%◌, arith, subst}
use Rattle.u_program.specs.Limits.{greatest_port}
use Rattle.u_name.specs.Context.{IsBetween}
use Rattle.u_explain.specs.Left.{IsLeft}
use Rattle.u_explain.specs.Lines.{port_text, ListOn}
use Rattle.u_explain.proofs.LeftLaws.{fixed_shorter}
use Rattle.u_explain.proofs.ListLaws.{IsPort, ports_to_five, left_full, left_destination, stuck_destination, so_far_next, left_list, second_for, stuck_for, not_slashed, SoFar}
use Rattle.u_explain.proofs.lists.+lists.Goals as goal

pub destination_left-list_left-requires : goal.destination_left-list_left-requires
destination_left-list_left-requires t c =
    let s = fixed_shorter 32 (port_text (c.args.rank / 8) (c.args.rank % 8)) c.args.bytes.now c.in-Ok.rest.now c.in-Ok.ensures in
    (omega (arith, s), c.requires.small)

pub destination_left-returns-in-Ok : goal.destination_left-returns-in-Ok
destination_left-returns-in-Ok t c =
    let small = c.requires.small in
    let a = c.if-statement-eq0.false in
    let b = c.if-port-eq0.false in
    let v : IsBetween 1 (c.args.rank / 8) 999 = (grind arith, omega arith) in
    let low : 1 ≤ c.args.rank % 8 = grind arith in
    let high : c.args.rank % 8 ≤ greatest_port c.args.version = search rules in
    let five = ports_to_five c.args.version in
    let w : IsPort c.args.version (c.args.rank % 8) = ((low, omega (arith, high, five)), high) in
    left_destination c.args.version c.args.slashed c.args.room c.args.rank (c.args.rank / 8) (c.args.rank % 8) v w (omega arith) c.args.bytes.now c.in-Ok.rest.now c.list_left.result.now c.in-Ok.ensures c.list_left.ensures

pub destination_left-returns-in-Err : goal.destination_left-returns-in-Err
destination_left-returns-in-Err t c =
    let small = c.requires.small in
    let a = c.if-statement-eq0.false in
    let b = c.if-port-eq0.false in
    let v : IsBetween 1 (c.args.rank / 8) 999 = (grind arith, omega arith) in
    let low : 1 ≤ c.args.rank % 8 = grind arith in
    let high : c.args.rank % 8 ≤ greatest_port c.args.version = search rules in
    let five = ports_to_five c.args.version in
    let w : IsPort c.args.version (c.args.rank % 8) = ((low, omega (arith, high, five)), high) in
    stuck_destination c.args.version c.args.slashed c.args.room c.args.rank (c.args.rank / 8) (c.args.rank % 8) v w (omega arith) c.args.bytes.now c.in-Err.rest.now c.in-Err.ensures

pub end_left-returns-then-not-slashed : goal.end_left-returns-then-not-slashed
end_left-returns-then-not-slashed t c = not_slashed c.args.version c.args.slashed c.args.bytes.now (search rules)

pub end_left-returns-in-Ok : goal.end_left-returns-in-Ok
end_left-returns-in-Ok t c = second_for c.args.version c.args.slashed (search rules) c.args.bytes.now c.in-Ok.rest.now c.list_left.result.now c.in-Ok.ensures c.list_left.ensures

pub end_left-returns-in-Err : goal.end_left-returns-in-Err
end_left-returns-in-Err t c = stuck_for c.args.version c.args.slashed (search rules) c.args.bytes.now c.in-Err.rest.now c.in-Err.ensures

pub list_left-loop-rank-preserved : goal.list_left-loop-rank-preserved
list_left-loop-rank-preserved t c =
    let low = c.loop-rank.auto.rank in
    so_far_next c.args.version c.args.slashed c.args.below c.args.room c.loop-rank.rank c.args.bytes.now c.loop-rank.best.now c.destination_left.result.now c.shorter-best.result.now (omega (arith, low)) c.loop-rank.invariant c.destination_left.ensures c.shorter-best.ensures.one c.shorter-best.ensures.first c.shorter-best.ensures.second

pub list_left-returns : goal.list_left-returns
list_left-returns t c =
    let high = c.loop-rank.auto.rank-end in
    let last = c.loop-rank-test.false in
    let full = c.if-room-eq0.false in
    let req = c.requires in
    let e : c.loop-rank.rank ≡ 8000 = omega (arith, high, last, req) in
    left_list c.args.version c.args.slashed c.args.below c.args.room c.args.bytes.now c.loop-rank.best.now (grind arith) (subst (λ n. IsLeft (SoFar c.args.version c.args.slashed c.args.below c.args.room n) c.args.bytes.now c.loop-rank.best.now) e c.loop-rank.invariant)

pub list_left-returns-then-room-eq0 : goal.list_left-returns-then-room-eq0
list_left-returns-then-room-eq0 t c =
    let e : 0 ≡ c.args.room = search rules in
    subst (λ n. IsLeft (ListOn c.args.version c.args.slashed c.args.below n) c.args.bytes.now c.end_left-best.result.now) e (left_full c.args.version c.args.slashed c.args.below c.args.bytes.now c.end_left-best.result.now c.end_left-best.ensures)
