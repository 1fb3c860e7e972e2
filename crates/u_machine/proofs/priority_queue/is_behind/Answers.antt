use Rattle.std.proofs.Common.{◌-◌, ◌∙◌, arith, refl, sym}
use Rattle.u_sets.proofs.Turned.{is_less}
use Rattle.u_machine.proofs.Queued.{above_last}
use Rattle.u_machine.proofs.priority_queue.is_behind.Goals as goal

pub returns-in-Some-clause-above : goal.returns-in-Some-clause-above
returns-in-Some-clause-above g c t =
    let run = c.args.run.now in
    let some = c.in-Some.ensures.variant.0 refl in
    above_last g.K.Ord.cmp g.met.K.Ord.total run.items (run.len - 1) c.in-Some.last.now c.args.item.now (let n = run.ok in omega (arith, some, n.0)) c.in-Some.ensures.lookup c.requires
    (sym c.cmp.ensures ∙ is_less c.cmp.result (rw c.is_lt.ensures at t))
