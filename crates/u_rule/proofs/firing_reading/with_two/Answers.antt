use Rattle.std.proofs.Common.{◌≡◌, Err, rules}
use Rattle.u_rule.specs.FiringReading.{next_at}
use Rattle.u_rule.proofs.FiringPartLaws.{second_refused}
use Rattle.u_rule.proofs.firing_reading.with_two.Goals as goal

pub returns-in-Err : goal.returns-in-Err
returns-in-Err c =
    let e : next_at c.args.bytes.now ≡ Err c.in-Err.rest.now = search rules in
    second_refused c.args.activity c.args.first c.args.second c.args.bytes.now c.in-Err.rest.now e
