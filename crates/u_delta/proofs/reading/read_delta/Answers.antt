use Rattle.std.proofs.Common.{rules, ◌<◌, length, subst, sym}
use Rattle.u_delta.specs.Messages.{IsErrorIn}
use Rattle.u_delta.proofs.ReadingLaws.{closed_no_line, not_read}
use Rattle.u_delta.proofs.reading.read_delta.Goals as goal

pub returns-in-Err : goal.returns-in-Err
returns-in-Err c =
    let i = c.loop-alloc.invariant in
    subst (λ t. IsErrorIn t c.in-Err.error) (sym i.1)
    (closed_no_line c.args.opening c.loop-alloc.firings.items c.loop-alloc.rest.now c.len-number.result c.in-Err.error i.0 (search rules) c.in-Err.ensures)

pub returns-in-Err-firing_in : goal.returns-in-Err-firing_in
returns-in-Err-firing_in c =
    let i = c.loop-alloc.invariant in
    let l : length c.loop-alloc.firings.items < c.args.opening.count = search rules in
    subst (λ t. IsErrorIn t c.in-Err-firing_in.error) (sym i.1)
    (not_read c.args.opening c.loop-alloc.firings.items c.loop-alloc.rest.now c.in-Ok.found.0.now c.in-Ok.found.1.now c.len-number.result c.in-Err-firing_in.error i.0 (search rules) l c.in-Ok.ensures.0 c.in-Err-firing_in.ensures)
