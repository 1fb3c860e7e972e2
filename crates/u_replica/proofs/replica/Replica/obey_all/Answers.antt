use Rattle.std.proofs.Common.{◌≡◌, ◌∙◌, ◌+◌, sym, arith, length, length-append, [], ◌∷◌, ◌++◌, take, ap}
use Rattle.std.proofs.lemmas.List.{take_more}
use Rattle.u_replica.specs.declared.calls.Call.{Call}
use Rattle.u_replica.proofs.ReplicaLaws.{obeys_one_more, extends_on, does_extends_all, does_settled_all, met_before, met_last}
use Rattle.u_replica.proofs.replica.Replica.obey_all.Goals as goal

pub loop-call-preserved : goal.loop-call-preserved
loop-call-preserved c =
    let i = c.loop-call.invariant in
    let cs = c.args.calls.now in
    let rs = c.loop-call.answers.items in
    let d = c.obey-answer.ensures in
    let new = c.obey-answer.new.self in
    let items = c.push_into_room.ensures.items in
    let e : take (c.loop-call.call-index + 1) cs ≡ take c.loop-call.call-index cs ++ c.call-item.result ∷ [] = take_more cs c.loop-call.call-index c.call-item.result c.loop-call-test.true ∙ ap (λ (x : Call). take c.loop-call.call-index cs ++ x ∷ []) (sym c.call-item.is) in
    record {
      obeys = rw (e, items) (obeys_one_more c.args.self.now c.loop-call.self new (take c.loop-call.call-index cs) rs c.call-item.result c.obey-answer.result i.obeys d c.holds-in-loop-call.ensures.is);
      holds = c.holds-in-loop-call.ensures;
      extends = extends_on c.args.self.now c.loop-call.self new i.extends (does_extends_all c.loop-call.self new i.holds.is c.call-item.result c.obey-answer.result d);
      settled = λ s m. does_settled_all c.loop-call.self new i.holds.is c.call-item.result c.obey-answer.result d (i.settled s (met_before rs c.obey-answer.result (rw items at m))) (met_last rs c.obey-answer.result (rw items at m));
      count = let n = length-append rs (c.obey-answer.result ∷ []) in let k = i.count in let w = ap length items in omega (arith, n, k, w);
      room = let k = c.push_into_room.ensures.capacity in let r = i.room in omega (arith, k, r);
    }
