use Rattle.std.proofs.Common.{◌≡◌, ◌+◌, ◌∙◌, length, ap, arith}
use Rattle.u_rule.specs.EntryOrder.{FiringList}
use Rattle.u_replica.proofs.ListedLaws.{read_listed, unread_listed}
use Rattle.u_replica.proofs.checkpoint_reading.read_fired.Goals as goal

pub read_firings-requires : goal.read_firings-requires
read_firings-requires g c = omega (arith, c.applied-fired.type_inv, c.in-Ok-fire_listed.ensures.few)

pub returns-in-Ok-read_firings : goal.returns-in-Ok-read_firings
returns-in-Ok-read_firings g c = λ version head text may e.
    let mid = c.fire_lines.new.machine in
    let more = c.in-Ok-fire_listed.more in
    let n : length c.applied-fired.result.now + more ≡ length mid.log + more = ap (λ (fs : FiringList). length fs + more) c.applied-fired.ensures in
    read_listed c.args.machine.now mid c.fire_listed.new.machine c.args.bytes.now c.in-Ok.rest.now c.in-Ok-fire_listed.others.now more
    c.requires.fresh c.in-Ok.ensures.runs c.in-Ok.ensures.lines c.in-Ok-fire_listed.ensures c.holds.ensures.is head text e version may
    (record { fired = length c.applied-fired.result.now + more; checkpoint = c.in-Ok-read_firings.checkpoint }) n (omega (arith, c.applied-fired.type_inv, c.in-Ok-fire_listed.ensures.few))
    (λ h fs k read. c.in-Ok-read_firings.ensures h fs (n ∙ k) read)

pub returns-in-Err : goal.returns-in-Err
returns-in-Err g c = λ version head text may e.
    let mid = c.fire_lines.new.machine in
    let more = c.in-Ok-fire_listed.more in
    let n : length c.applied-fired.result.now + more ≡ length mid.log + more = ap (λ (fs : FiringList). length fs + more) c.applied-fired.ensures in
    unread_listed c.args.machine.now mid c.fire_listed.new.machine c.args.bytes.now c.in-Ok.rest.now c.in-Ok-fire_listed.others.now more
    c.requires.fresh c.in-Ok.ensures.runs c.in-Ok.ensures.lines c.in-Ok-fire_listed.ensures c.holds.ensures.is head text e version may
    c.in-Err.error (λ h fs k read. c.in-Err.ensures h fs (n ∙ k) read)
