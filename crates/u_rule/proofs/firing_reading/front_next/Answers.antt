use Rattle.std.proofs.Common.{◌≡◌, ◌∷◌, rules}
use Rattle.u_rule.proofs.FiringPartLaws.{next_end}
use Rattle.u_rule.proofs.firing_reading.front_next.Goals as goal

pub returns-in-10 : goal.returns-in-10
returns-in-10 c =
    let e : c.args.bytes.now ≡ 10 ∷ c.in-Some.rest.now = search rules in
    next_end c.args.bytes.now c.in-Some.rest.now e
