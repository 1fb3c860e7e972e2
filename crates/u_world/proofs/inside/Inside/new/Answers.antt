use Rattle.std.proofs.Common.{◌≡◌, ◌∙◌, sym, ap, subst, arith, List, [], ◌∷◌, ◌++◌, ℕ}
use Rattle.u_delta.specs.declared.message.Message.{Message}
use Rattle.u_replica.specs.ReplicaState.{ReplicaState}
use Rattle.u_world.specs.Inside.{AllHold}
use Rattle.u_world.specs.WorldState.{world, fresh_replicas, no_saves}
use Rattle.u_world.proofs.Fresh.{hold_nothing, hold_more, saves_more, fresh_more}
use Rattle.u_world.proofs.inside.Inside.new.Goals as goal

pub loop-place-init : goal.loop-place-init
loop-place-init c = record {
  replicas = c.new-replicas.ensures.items;
  saves = c.new-saves.ensures.items;
  hold = subst AllHold (sym c.new-replicas.ensures.items) hold_nothing;
}

pub loop-place-preserved : goal.loop-place-preserved
loop-place-preserved c =
    let i = c.loop-place.invariant in
    let rs = c.loop-place.replicas.items in
    let r = c.in_ok-replica.replica in
    let pushed = c.in_ok-push.ensures.items in
    record {
      replicas = pushed ∙ ap (λ (x : List ReplicaState). x ++ (r ∷ [])) i.replicas ∙ ap (λ (x : ReplicaState). fresh_replicas c.args.job.now c.args.limit c.loop-place.place ++ (x ∷ [])) c.in_ok-replica.ensures ∙ sym (fresh_more c.args.job.now c.args.limit c.loop-place.place);
      saves = c.in_ok-push-2.ensures.items ∙ ap (λ (x : List (List ℕ)). x ++ (c.nothing.result ∷ [])) i.saves ∙ ap (λ (x : List ℕ). no_saves c.loop-place.place ++ (x ∷ [])) c.nothing.ensures ∙ sym (saves_more c.loop-place.place);
      hold = subst AllHold (sym pushed) (hold_more rs r i.hold c.holds.ensures);
    }

pub returns-clause-state : goal.returns-clause-state
returns-clause-state c =
    let i = c.loop-place.invariant in
    let n : c.loop-place.place ≡ c.args.count = omega (arith, c.loop-place-test.false, c.loop-place.auto.place-end) in
    let job = c.args.job.now in
    let limit = c.args.limit in
    ap (λ (rs : List ReplicaState). world job limit rs c.new-2.result.items c.loop-place.saves.items) (i.replicas ∙ ap (fresh_replicas job limit) n)
    ∙ ap (λ (ms : List Message). world job limit (fresh_replicas job limit c.args.count) ms c.loop-place.saves.items) c.new-2.ensures.items
    ∙ ap (λ (ss : List (List ℕ)). world job limit (fresh_replicas job limit c.args.count) [] ss) (i.saves ∙ ap no_saves n)

pub returns-clause-hold : goal.returns-clause-hold
returns-clause-hold c = c.loop-place.invariant.hold
