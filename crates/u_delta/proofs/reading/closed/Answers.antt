use Rattle.std.proofs.Common.{rules, ◌≡◌}
use Rattle.u_delta.specs.MessageText.{last_line}
use Rattle.u_delta.proofs.ReadingLaws.{closed_no_line, closed_not_end, closed_more, closed_whole}
use Rattle.u_delta.proofs.reading.closed.Goals as goal

pub returns-in-Err : goal.returns-in-Err
returns-in-Err c =
    closed_no_line c.args.opening c.args.firings.items c.args.bytes.now c.len-number.result c.in-Err.error c.requires.begun (search rules) c.in-Err.ensures

pub returns-then-ne : goal.returns-then-ne
returns-then-ne c =
    let n : c.in-Ok.found.0.now ≡ last_line → ⊥ = search rules in
    closed_not_end c.args.opening c.args.firings.items c.args.bytes.now c.in-Ok.found.0.now c.in-Ok.found.1.now c.len-number.result c.requires.begun (search rules) c.requires.all c.in-Ok.ensures.0 n

pub returns-in-Ok-ends : goal.returns-in-Ok-ends
returns-in-Ok-ends c =
    let e : c.in-Ok.found.0.now ≡ last_line = search rules in
    rw c.new.ensures (closed_whole c.args.opening c.args.firings.items c.args.bytes.now c.in-Ok.found.0.now c.in-Ok.found.1.now c.requires.begun c.requires.all c.in-Ok.ensures.0 e (search rules))

pub returns-in-Err-ends : goal.returns-in-Err-ends
returns-in-Err-ends c =
    let e : c.in-Ok.found.0.now ≡ last_line = search rules in
    closed_more c.args.opening c.args.firings.items c.args.bytes.now c.in-Ok.found.0.now c.in-Ok.found.1.now c.len-number.result c.in-Err-ends.error c.requires.begun (search rules) c.requires.all c.in-Ok.ensures.0 e c.in-Err-ends.ensures
