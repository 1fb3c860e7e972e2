use Rattle.std.proofs.Common.{◌≡◌, ◌∙◌, ◌+◌, sym, arith, length, length-append, [], ◌∷◌, ◌++◌, take, ap}
use Rattle.std.proofs.lemmas.List.{take_more}
use Rattle.u_machine.specs.declared.commands.Command.{Command}
use Rattle.u_machine.proofs.Obeying.{obeys_push, extends_trans, does_extends, does_settled, met_last, keeps_its_promise}
use Rattle.u_machine.proofs.machine.Machine.obey_all.Goals as goal

pub returns-in_err-reserve-clause-promise : goal.returns-in_err-reserve-clause-promise
returns-in_err-reserve-clause-promise c = c.holds.ensures.promise

pub loop-command-preserved : goal.loop-command-preserved
loop-command-preserved c =
    let i = c.loop-command.invariant in
    let cs = c.args.commands.now in
    let rs = c.loop-command.replies.items in
    let d = c.obey-reply.ensures in
    let new = c.obey-reply.new.self in
    let items = c.push_into_room.ensures.items in
    let e : take (c.loop-command.command-index + 1) cs ≡ take c.loop-command.command-index cs ++ c.command-item.result ∷ [] = take_more cs c.loop-command.command-index c.command-item.result c.loop-command-test.true ∙ ap (λ (x : Command). take c.loop-command.command-index cs ++ x ∷ []) (sym c.command-item.is) in
    record {
      obeys = rw (e, items) (obeys_push c.args.self.now c.loop-command.self new (take c.loop-command.command-index cs) rs c.command-item.result c.obey-reply.result i.obeys d c.holds-in-loop-command.ensures.is);
      machine = c.holds-in-loop-command.ensures.is;
      extends = extends_trans c.args.self.now c.loop-command.self new i.extends (does_extends c.loop-command.self new c.command-item.result c.obey-reply.result d);
      settled = λ s m. does_settled c.loop-command.self new c.command-item.result c.obey-reply.result d (met_last rs c.obey-reply.result (rw items at m));
      count = let n = length-append rs (c.obey-reply.result ∷ []) in let k = i.count in let w = ap length items in omega (arith, n, k, w);
      room = let k = c.push_into_room.ensures.capacity in let r = i.room in omega (arith, k, r);
    }

pub returns-clause-promise : goal.returns-clause-promise
returns-clause-promise c = keeps_its_promise c.loop-command.self c.loop-command.invariant.machine
