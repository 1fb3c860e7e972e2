use Rattle.std.proofs.Common.{◌+◌, ◌++◌, rules, arith, length-append}
use Rattle.std.proofs.lemmas.List.{nil_from_length}
use Rattle.u_replica.proofs.CheckpointSteps.{closed_whole, closed_long, closed_other}
use Rattle.u_replica.proofs.checkpoint_reading.closed.Goals as goal

pub returns-then-is_empty : goal.returns-then-is_empty
returns-then-is_empty c = λ head fs counted read version may. rw c.new.ensures (closed_whole version head may (fs ++ c.args.firings.items) c.args.bytes.now read (nil_from_length c.args.bytes.now (search rules)))

pub returns-in-TooLong : goal.returns-in-TooLong
returns-in-TooLong c = λ head fs counted read version may.
    let l = length-append fs c.args.firings.items in
    closed_long version head may (fs ++ c.args.firings.items) c.args.bytes.now (c.args.before + c.len.result) read (omega (arith, l, counted, c.requires)) (omega (arith, l, counted, c.len.ensures)) c.in-TooLong.ensures

pub returns : goal.returns
returns c = λ head fs counted read version may.
    let l = length-append fs c.args.firings.items in
    closed_other version head may (fs ++ c.args.firings.items) c.args.bytes.now (c.args.before + c.len.result) c.look_ahead.result read (omega (arith, l, counted, c.requires)) (omega (arith, l, counted, c.len.ensures)) (search rules) c.look_ahead.ensures (search rules)
