use Rattle.std.proofs.Common.{sym, ◌∙◌}
use Rattle.u_machine.proofs.States.{ready_after, nothing_after}
use Rattle.u_share.proofs.bursting.fire_next.Goals as goal

pub returns-in-Ok-Quiet : goal.returns-in-Ok-Quiet
returns-in-Ok-Quiet c =
    let a = rw c.in-Ok-Quiet.field-0-is at c.in-Ok-Quiet.ensures in
    (a.1.applies, ((a.1.settled, nothing_after c.args.machine.now c.fire.new.self a.1.applies a.0), a.2))

pub returns-in-Err-Full : goal.returns-in-Err-Full
returns-in-Err-Full c =
    let a = rw c.in-Err-Full.field-0-is at c.in-Err-Full.ensures in
    let p = a.2.applies in
    let r = ready_after c.args.machine.now c.fire.new.self p a.0.0 a.0.1 in
    (p, (a.0.0, r, record { full = p.count ∙ a.1 ∙ sym p.grows.limit; new = r.1 }))
