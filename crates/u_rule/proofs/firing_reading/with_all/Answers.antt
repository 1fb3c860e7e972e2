use Rattle.std.proofs.Common.{◌≡◌, Err, rules}
use Rattle.u_rule.specs.FiringReading.{end_at}
use Rattle.u_rule.proofs.FiringPartLaws.{last_refused}
use Rattle.u_rule.proofs.firing_reading.with_all.Goals as goal

pub returns-in-Err : goal.returns-in-Err
returns-in-Err c =
    let h : end_at c.args.bytes.now ≡ Err c.in-Err.rest.now = search rules in
    last_refused c.args.activity c.args.values.now c.args.bytes.now c.in-Err.rest.now c.requires h
