use Rattle.u_trace.proofs.BlameLaws.{front_two}
use Rattle.u_trace.proofs.blaming.first_tokens.Goals as goal

pub returns-in_ok-other-in-len2-up : goal.returns-in_ok-other-in-len2-up
returns-in_ok-other-in-len2-up c =
    let front = front_two c.args.values.now c.one-item.result c.other-item.result c.in-len2-up.len_at_least c.one-item.is c.other-item.is in
    (c.one-item.result, c.other-item.result, front.0, front.1, (c.in_ok-one-in-len2-up.ensures, c.in_ok-other-in-len2-up.ensures))
