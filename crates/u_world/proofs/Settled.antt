-- Where no event is refused for want of memory, each replica has applied all that it can.
use Rattle.std.specs.Prelude.{◌≡◌, ℕ, zero, suc, ◌-◌, List, [], ◌∷◌, take, Contains, Result, Ok, Err, refl}
use Rattle.std.proofs.Common.{sym, ap, subst, arith, inl, inr, ◌∙◌}
use Rattle.u_base.proofs.Member.{Contains-nil}
use Rattle.u_check.specs.Jobs.{JobParts}
use Rattle.u_rule.specs.declared.entry.Entry.{Entry}
use Rattle.u_rule.specs.Rule.{own_of}
use Rattle.u_delta.specs.declared.message.Message.{Message}
use Rattle.u_delta.specs.declared.message.Message.TheVariants as messages
use Rattle.u_rule.specs.declared.firing.Firing.{Firing}
use Rattle.u_machine.specs.State.{State, IsSettled}
use Rattle.u_machine.specs.Calls.{FireAnswer, TakeAnswer}
use Rattle.u_machine.specs.Taking.{TakeAllAnswer}
use Rattle.u_machine.specs.declared.answer.Refusal.{Refusal}
use Rattle.u_machine.specs.declared.answer.Refusal.TheVariants as unfired
use Rattle.u_machine.specs.declared.answer.TakeRefusal.{TakeRefusal}
use Rattle.u_machine.specs.declared.answer.TakeRefusal.TheVariants as untaken
use Rattle.u_machine.specs.declared.answer.ListRefusal.{ListRefusal}
use Rattle.u_machine.specs.declared.answer.ListRefusal.TheVariants as unlisted
use Rattle.u_machine.specs.declared.commands.Command.TheVariants as calls
use Rattle.u_machine.specs.declared.commands.Reply.TheVariants as replies
use Rattle.u_machine.proofs.Obeying.{does_settled}
use Rattle.u_replica.specs.ReplicaState.{ReplicaState}
use Rattle.u_replica.specs.Merging.{MergeAnswer}
use Rattle.u_replica.specs.declared.answer.MergeRefusal.{MergeRefusal}
use Rattle.u_replica.specs.declared.answer.MergeRefusal.TheVariants as unmerged
use Rattle.u_replica.specs.Restoring.{blank}
use Rattle.u_world.specs.declared.event.Event.{Event}
use Rattle.u_world.specs.declared.event.Event.TheVariants as events
use Rattle.u_world.specs.WorldState.{WorldState, At, Changes, fresh_world}
use Rattle.u_world.specs.declared.refused.Refused.{Refused}
use Rattle.u_world.specs.declared.refused.Refused.TheVariants.{BadEvent, Full, NoMemory}
use Rattle.u_world.specs.declared.refused.WorldError.{WorldError}
use Rattle.u_world.specs.declared.refused.WorldError.TheVariants as errors
use Rattle.u_world.specs.Refusals.{of_fire, of_take, of_list, of_merge}
use Rattle.u_world.specs.Happenings.{Delivers, Arrives, Happens, EventAnswer}
use Rattle.u_world.specs.Runs.{EventSteps, StopsAt, EventsAnswer}
use Rattle.u_world.specs.Headline.{AllSettled, StaySettled}
use Rattle.u_world.proofs.Places.{at_set_cases}
use Rattle.u_world.proofs.Fresh.{fresh_at}

module _ (old new : WorldState) (all : AllSettled old) where
  one_settled : (k : ℕ) (R : ReplicaState → ReplicaState → Type 0) (c : Changes k R old new) → IsSettled c.replicas.after.machine → AllSettled new
  one_settled k R c is j r a =
      elim (at_set_cases old.replicas k j c.replicas.after r c.replicas.at.0 (subst (λ (rs : List ReplicaState). At rs j r) c.replicas.list a)) [
        | inl s ↦ subst (λ (r : ReplicaState). IsSettled r.machine) (sym s.1) is
        | inr o ↦ all j r o.1
      ]

  same_settled : new.replicas ≡ old.replicas → AllSettled new
  same_settled e j r a = all j r (subst (λ (rs : List ReplicaState). At rs j r) e a)

  delivered_settled : (m : Message) → Delivers m (Ok tt) old new → AllSettled new
  delivered_settled (messages.Ask a) (r, at, d, is, s) = same_settled (ap (λ (w : WorldState). w.replicas) s)
  delivered_settled (messages.Delta d) c = one_settled d.receiver _ c c.replicas.how.0.3

  arrived_settled : (k : ℕ) (bytes : List ℕ) → Arrives k bytes (Ok tt) old new → AllSettled new
  arrived_settled k bytes (inl a) = same_settled (ap (λ (w : WorldState). w.replicas) a.1)
  arrived_settled k bytes (inr (d, m, c)) = one_settled k _ c (elim c.replicas.how.0 [ inl t ↦ t.3 | inr t ↦ t.1.1.settled ])

  happens_settled : (e : Event) → Happens e (Ok tt) old new → AllSettled new
  happens_settled (events.Fire k pick) c =
      let h = c.replicas.how in
      one_settled k _ c (does_settled c.replicas.before.machine c.replicas.after.machine (calls.Fire pick) (replies.Fire (Ok h.0)) (Ok h.0, refl, h.1) tt)
  happens_settled (events.Take k f) c =
      let h = c.replicas.how in
      one_settled k _ c (does_settled c.replicas.before.machine c.replicas.after.machine (calls.Take f) (replies.Take (Ok h.0)) (Ok h.0, refl, h.1) tt)
  happens_settled (events.Ask k j) (r, at, s) = same_settled (ap (λ (w : WorldState). w.replicas) s)
  happens_settled (events.Deliver i) (m, at, d) = delivered_settled m d
  happens_settled (events.Merge k j) (o, at, c) = one_settled k _ c c.replicas.how.1.2
  happens_settled (events.Save k) (r, at, valid, s) = same_settled (ap (λ (w : WorldState). w.replicas) s)
  happens_settled (events.Restart k keep) (saved, at, c) = one_settled k _ c c.replicas.how.1.settled
  happens_settled (events.Bytes k bytes) a = arrived_settled k bytes.items a

pub steps_settled : (old : WorldState) (es : List Event) (new : WorldState) → AllSettled old → EventSteps old es new → AllSettled new
steps_settled old [] new all s = subst AllSettled (sym s) all
steps_settled old (e ∷ es) new all (mid, s, rest) = steps_settled mid es new (happens_settled old mid all e s.1) rest

-- refusals for another reason than want of memory

module _ (old new : State) where
  fire_stays : (pick : ℕ) (x : Refusal) → (of_fire x ≡ NoMemory → ⊥) → FireAnswer old pick (Err x) new → IsSettled new
  fire_stays pick unfired.Full met a = a.2.settled
  fire_stays pick unfired.NoMemory met a = absurd (met refl)

  take_stays : (f : Firing) (x : TakeRefusal) → (of_take x ≡ NoMemory → ⊥) → TakeAnswer old f (Err x) new → IsSettled new
  take_stays f untaken.NotAFiring met a = a.1.settled
  take_stays f untaken.Full met a = a.3.settled
  take_stays f untaken.NoMemory met a = absurd (met refl)

  list_stays : (fs : List Firing) (x : ListRefusal) → (of_list x ≡ NoMemory → ⊥) → TakeAllAnswer old fs (Err x) new → IsSettled new
  list_stays fs (unlisted.NotAFiring place) met a = a.1.settled
  list_stays fs unlisted.Full met a = a.2.settled
  list_stays fs unlisted.NoMemory met a = absurd (met refl)

  merge_stays : (other : State) (x : MergeRefusal) → (of_merge x ≡ NoMemory → ⊥) → IsSettled old → MergeAnswer old other (Err x) new → IsSettled new
  merge_stays other unmerged.OtherJob met is a = subst IsSettled (sym a.1) is
  merge_stays other unmerged.Full met is a = a.2.settled
  merge_stays other unmerged.NoMemory met is a = absurd (met refl)

module _ (old new : WorldState) (all : AllSettled old) (x : Refused) (met : x ≡ NoMemory → ⊥) where
  refused_delivery : (m : Message) → Delivers m (Err x) old new → AllSettled new
  refused_delivery (messages.Ask a) u = absurd (met u.0)
  refused_delivery (messages.Delta d) c =
      let h = c.replicas.how in
      one_settled old new all d.receiver _ c (list_stays c.replicas.before.machine c.replicas.after.machine d.firings h.0 (λ q. met (h.1 ∙ q)) h.2.0)

  refused_arrival : (k : ℕ) (bytes : List ℕ) → Arrives k bytes (Err x) old new → AllSettled new
  refused_arrival k bytes (inl u) = absurd (met u.0)
  refused_arrival k bytes (inr (d, m, c)) =
      let h = c.replicas.how in
      one_settled old new all k _ c (list_stays c.replicas.before.machine c.replicas.after.machine d.firings h.0 (λ q. met (h.1 ∙ q)) h.3)

  refused_happening : (e : Event) → Happens e (Err x) old new → AllSettled new
  refused_happening (events.Fire k pick) c =
      let h = c.replicas.how in
      one_settled old new all k _ c (fire_stays c.replicas.before.machine c.replicas.after.machine pick h.0 (λ q. met (h.1 ∙ q)) h.2)
  refused_happening (events.Take k f) c =
      let h = c.replicas.how in
      one_settled old new all k _ c (take_stays c.replicas.before.machine c.replicas.after.machine f h.0 (λ q. met (h.1 ∙ q)) h.2)
  refused_happening (events.Ask k j) u = absurd (met u.0)
  refused_happening (events.Deliver i) (m, at, d) = refused_delivery m d
  refused_happening (events.Merge k j) (o, at, c) =
      let h = c.replicas.how in
      one_settled old new all k _ c
      (merge_stays c.replicas.before.machine c.replicas.after.machine o.machine h.0 (λ q. met (h.1 ∙ q)) (all k c.replicas.before c.replicas.at) h.2)
  refused_happening (events.Save k) u = absurd (met u.0)
  refused_happening (events.Restart k keep) u = absurd (met u.0)
  refused_happening (events.Bytes k bytes) a = refused_arrival k bytes.items a

  refused_settled : (e : Event) → EventAnswer old e (Err x) new → AllSettled new
  refused_settled e (inl u) = subst AllSettled (sym u.2) all
  refused_settled e (inr h) = refused_happening e h.1

stopped_settled : (old : WorldState) (es : List Event) (place : ℕ) (x : Refused) (new : WorldState) → (x ≡ NoMemory → ⊥) → StopsAt old es place x new → AllSettled old → AllSettled new
stopped_settled old es place x new met s all =
    refused_settled s.mid new (steps_settled old (take place es) s.mid all s.before) x met s.event s.last

pub stay_settled : (old : WorldState) (es : List Event) (result : Result (Unit {0}) WorldError) (new : WorldState) → EventsAnswer old es result new → StaySettled old result new
stay_settled old es (Ok u) new s = λ all. steps_settled old es new all s
stay_settled old es (Err (errors.BadEvent place)) new s = stopped_settled old es place BadEvent new (λ q. cc) s
stay_settled old es (Err (errors.Full place)) new s = stopped_settled old es place Full new (λ q. cc) s
stay_settled old es (Err (errors.NoMemory place)) new s = tt

-- a machine that has taken nothing

blank_settled : (job : JobParts) (limit : ℕ) → IsSettled (blank job limit)
blank_settled job limit = record { held = λ e c. inl (only e c); none = λ f c. absurd (Contains-nil f c) }
  where
    only : (e : Entry) → Contains ((own_of job).start ∷ []) e → e ≡ (own_of job).start
    only e (zero, l, p) = sym p
    only e (suc k, l, p) = absurd (omega (arith, l))

pub fresh_settled : (job : JobParts) (limit n : ℕ) → AllSettled (fresh_world job limit n)
fresh_settled job limit n k r a = subst (λ (r : ReplicaState). IsSettled r.machine) (sym (fresh_at job limit n (k - 1) r a.1)) (blank_settled job limit)
