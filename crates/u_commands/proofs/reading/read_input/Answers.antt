use Rattle.std.proofs.Common.{arith, rules, length, ◌<◌}
use Rattle.u_commands.specs.Reading.{input_limit}
use Rattle.u_commands.proofs.Known.{read_long, read_short}
use Rattle.u_commands.proofs.reading.read_input.Goals as goal

pub returns-in-Ok : goal.returns-in-Ok
unfolding input_limit
returns-in-Ok g c =
    let bytes = rw (c.take.ensures.limit, c.take.ensures.inner, c.new-all.ensures.items) at c.in-Ok.ensures.bytes in
    let many : 67108864 < length c.read_to_end.new.buf.items = search rules in
    read_long (g.R.Read.remaining c.args.reader) 67108865 c.read_to_end.new.buf.items 67108864 bytes many

pub returns-in-Ok-2 : goal.returns-in-Ok-2
unfolding input_limit
returns-in-Ok-2 g c =
    let bytes = rw (c.take.ensures.limit, c.take.ensures.inner, c.new-all.ensures.items) at c.in-Ok-2.ensures.bytes in
    let few : length c.read_to_end.new.buf.items < 67108865 = search rules in
    (read_short (g.R.Read.remaining c.args.reader) 67108865 c.read_to_end.new.buf.items bytes few, omega (arith, few))
