use Rattle.std.proofs.Common.{◌≡◌, Ok, rules}
use Rattle.u_rule.specs.EntryReading.{spaced_cell, writer_and_value}
use Rattle.u_rule.proofs.EntryPartLaws.{write_read}
use Rattle.u_rule.proofs.reading.front_write.Goals as goal

pub returns-in-Ok-2 : goal.returns-in-Ok-2
returns-in-Ok-2 c =
    let cell = c.in-Ok.found.0 in
    let others = c.in-Ok.found.1.now in
    let write = c.in-Ok-2.write in
    let h : spaced_cell c.args.bytes.now ≡ Ok (cell, others) = search rules in
    let e : write.cell ≡ cell = search rules in
    let k : writer_and_value others ≡ Ok ((write.writer, write.value), c.in-Ok-2.rest.now) = search rules in
    write_read cell write c.args.bytes.now others c.in-Ok-2.rest.now h e k
