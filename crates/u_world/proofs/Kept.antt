-- Each event leaves a world.
use Rattle.std.specs.Prelude.{◌≡◌, ℕ, ◌-◌, ◌⊎◌, List, [], ◌∷◌, ◌++◌, take, drop, Contains, IsTrue, Result, Ok, Err, slice_set, refl}
use Rattle.std.proofs.Common.{sym, ◌∙◌, ap, subst, arith, inl, inr}
use Rattle.std.proofs.lemmas.List.{length-set}
use Rattle.u_name.specs.Context.{IsBetween}
use Rattle.u_check.specs.Jobs.{JobParts}
use Rattle.u_rule.specs.declared.firing.Firing.{Firing}
use Rattle.u_rule.specs.Rule.{own_of}
use Rattle.u_delta.specs.declared.message.Ask.{Ask}
use Rattle.u_delta.specs.declared.message.Delta.{Delta}
use Rattle.u_delta.specs.declared.message.Message.{Message}
use Rattle.u_delta.specs.declared.message.Message.TheVariants as messages
use Rattle.u_delta.specs.Marks.{most_firings, part_from, starts_at}
use Rattle.u_machine.specs.State.{State, Taken}
use Rattle.u_machine.specs.Calls.{Applies, FireAnswer, TakeAnswer}
use Rattle.u_machine.specs.Taking.{AreFirings, TakesAll, TakeAllAnswer}
use Rattle.u_machine.specs.Obeying as machines
use Rattle.u_machine.specs.declared.commands.Command.TheVariants as calls
use Rattle.u_machine.specs.declared.commands.Reply.TheVariants as replies
use Rattle.u_machine.specs.declared.answer.Step.{Step as Fired}
use Rattle.u_machine.specs.declared.answer.Refusal.{Refusal}
use Rattle.u_machine.specs.declared.answer.Took.{Took}
use Rattle.u_machine.specs.declared.answer.TakeRefusal.{TakeRefusal}
use Rattle.u_machine.specs.declared.answer.ListRefusal.{ListRefusal}
use Rattle.u_machine.specs.declared.answer.ListRefusal.TheVariants as unlisted
use Rattle.u_machine.proofs.Obeying.{extends_refl, does_extends}
use Rattle.std.proofs.lemmas.List.Elements.{Contains-append_left}
use Rattle.u_machine.proofs.Lists.{slice_get_Contains, Contains-taken, Contains-dropped}
use Rattle.u_replica.specs.declared.answer.MergeRefusal.{MergeRefusal}
use Rattle.u_replica.specs.declared.answer.MergeRefusal.TheVariants as unmerged
use Rattle.u_replica.specs.Marking.{mark, mark_of, marks_after, fresh_marks}
use Rattle.u_replica.specs.Merging.{all_of, MergeAnswer}
use Rattle.u_replica.specs.ReplicaState.{ReplicaState, HoldsAlways, ChangesMachine, ask_of}
use Rattle.u_replica.specs.CheckpointText.{checkpoint_text}
use Rattle.u_world.specs.declared.event.Event.{Event}
use Rattle.u_world.specs.declared.event.Event.TheVariants as events
use Rattle.u_world.specs.declared.refused.Refused.{Refused}
use Rattle.u_world.specs.Refusals.{of_fire, of_take, of_merge}
use Rattle.u_world.specs.Acts.{Answers, Receives, TakesList}
use Rattle.u_world.specs.WorldState.{WorldState, world, At, Has, Changes, Sends}
use Rattle.u_world.specs.Worlds.{IsTrueMark, IsHonest, StandsAt, IsTrueDelta, IsSent, IsSentAsk, IsSentDelta, IsSaved, IsWorld}
use Rattle.u_world.specs.Happenings.{Asks, Replies, Delivers, Saves, StartsAgain, Restarts, Arrives, Happens, EventAnswer, IsDoable, EventStep}
use Rattle.u_world.proofs.Places.{at_one, at_between, at_set_cases, pushed_cases}
use Rattle.u_world.proofs.Honesty.{honest_moved, mark_moves, part_stands, fresh_true}
use Rattle.u_world.proofs.Moves.{changed, Moves, put_keeps, still_honest, machine_moves}

-- no call of a machine loses anything

module _ (old new : State) where
  applies_extends : Applies old new → machines.Extends old new
  applies_extends p = record { grows = p.grows; taken = λ f t. (p.taken f).0 t }

  takes_extends : (fs : List Firing) → TakesAll old fs new → machines.Extends old new
  takes_extends fs p = record { grows = p.grows; taken = λ g t. (p.taken g).1 (inl t) }

  pub fire_extends : (pick : ℕ) (r : Result Fired Refusal) → FireAnswer old pick r new → machines.Extends old new
  fire_extends pick r a = does_extends old new (calls.Fire pick) (replies.Fire r) (r, refl, a)

  pub take_extends : (f : Firing) (r : Result Took TakeRefusal) → TakeAnswer old f r new → machines.Extends old new
  take_extends f r a = does_extends old new (calls.Take f) (replies.Take r) (r, refl, a)

  refused_extends : (fs : List Firing) (x : ListRefusal) → TakeAllAnswer old fs (Err x) new → machines.Extends old new
  refused_extends fs (unlisted.NotAFiring place) a = applies_extends a.1.applies
  refused_extends fs unlisted.Full a = applies_extends a.2.applies
  refused_extends fs unlisted.NoMemory (inl u) = applies_extends u.applies
  refused_extends fs unlisted.NoMemory (inr (all, fit, (k, l, t))) = takes_extends (take k fs) t

  pub list_extends : (fs : List Firing) (r : Result (Unit {0}) ListRefusal) → TakeAllAnswer old fs r new → machines.Extends old new
  list_extends fs (Ok u) a = takes_extends fs a.2
  list_extends fs (Err x) a = refused_extends fs x a

  pub merge_extends : (other : State) (r : Result (Unit {0}) MergeRefusal) → MergeAnswer old other r new → machines.Extends old new
  merge_extends other (Ok u) a = takes_extends (all_of other) a.1
  merge_extends other (Err unmerged.OtherJob) a = subst (λ m. machines.Extends old m) (sym a.1) (extends_refl old)
  merge_extends other (Err unmerged.Full) a = applies_extends a.2.applies
  merge_extends other (Err unmerged.NoMemory) a = refused_extends (all_of other) unlisted.NoMemory a.1

-- one replica changes

module _ (old : WorldState) (is : IsWorld old) (k : ℕ) (new : WorldState) where
  moves_keep : (R : ReplicaState → ReplicaState → Type 0) (c : Changes k R old new) → Moves old k c.replicas.before c.replicas.after → IsWorld new
  moves_keep R c m =
      let l = c.replicas in
      subst IsWorld (sym (changed k R old new c)) (put_keeps old is k l.before l.after l.at l.holds m)

  grows_keep : (R : ReplicaState → ReplicaState → Type 0) (c : Changes k R old new) → machines.Extends c.replicas.before.machine c.replicas.after.machine → ChangesMachine c.replicas.before c.replicas.after → IsWorld new
  grows_keep R c grows alone =
      let l = c.replicas in
      moves_keep R c (machine_moves old is k l.before l.after l.at grows alone)

  fire_keeps : (pick : ℕ) (result : Result (Unit {0}) Refused) → Changes k (Answers of_fire (λ r m n. FireAnswer m pick r n) result) old new → IsWorld new
  fire_keeps pick (Ok u) c =
      let h = c.replicas.how in
      grows_keep (Answers of_fire (λ r m n. FireAnswer m pick r n) (Ok u)) c (fire_extends c.replicas.before.machine c.replicas.after.machine pick (Ok h.0) h.1) h.2
  fire_keeps pick (Err e) c =
      let h = c.replicas.how in
      grows_keep (Answers of_fire (λ r m n. FireAnswer m pick r n) (Err e)) c (fire_extends c.replicas.before.machine c.replicas.after.machine pick (Err h.0) h.2) h.3

  take_keeps : (f : Firing) (result : Result (Unit {0}) Refused) → Changes k (Answers of_take (λ r m n. TakeAnswer m f r n) result) old new → IsWorld new
  take_keeps f (Ok u) c =
      let h = c.replicas.how in
      grows_keep (Answers of_take (λ r m n. TakeAnswer m f r n) (Ok u)) c (take_extends c.replicas.before.machine c.replicas.after.machine f (Ok h.0) h.1) h.2
  take_keeps f (Err e) c =
      let h = c.replicas.how in
      grows_keep (Answers of_take (λ r m n. TakeAnswer m f r n) (Err e)) c (take_extends c.replicas.before.machine c.replicas.after.machine f (Err h.0) h.2) h.3

  merge_keeps : (o : ReplicaState) (result : Result (Unit {0}) Refused) → Changes k (Answers of_merge (λ r m n. MergeAnswer m o.machine r n) result) old new → IsWorld new
  merge_keeps o (Ok u) c =
      let h = c.replicas.how in
      grows_keep (Answers of_merge (λ r m n. MergeAnswer m o.machine r n) (Ok u)) c (merge_extends c.replicas.before.machine c.replicas.after.machine o.machine (Ok h.0) h.1) h.2
  merge_keeps o (Err e) c =
      let h = c.replicas.how in
      grows_keep (Answers of_merge (λ r m n. MergeAnswer m o.machine r n) (Err e)) c (merge_extends c.replicas.before.machine c.replicas.after.machine o.machine (Err h.0) h.2) h.3

  list_keeps : (fs : List Firing) (result : Result (Unit {0}) Refused) → Changes k (TakesList fs result) old new → IsWorld new
  list_keeps fs (Ok u) c =
      let b = c.replicas.before.machine in
      let a = c.replicas.after.machine in
      grows_keep (TakesList fs (Ok u)) c (elim c.replicas.how.0 [ inl t ↦ list_extends b a fs (Ok u) t | inr t ↦ list_extends b a fs (Err (unlisted.NotAFiring t.0)) t.1 ]) c.replicas.how.1
  list_keeps fs (Err e) c =
      let h = c.replicas.how in
      grows_keep (TakesList fs (Err e)) c (refused_extends c.replicas.before.machine c.replicas.after.machine fs h.0 h.3) h.4

  -- a delta is received

  module _ (d : Delta) (sent : IsSentDelta old d) where
    moved_honest : (before after : ReplicaState) → At old.replicas k before → HoldsAlways after → TakesAll before.machine d.firings after.machine → machines.Extends before.machine after.machine → (j : ℕ) (p : ReplicaState) → (k ≡ j → ⊥) → At old.replicas j p → IsTrueMark (mark_of (marks_after before.number d before.marks) p.number) after p
    moved_honest before after at holds takes grows j p apart b =
        let n = (is.members j p b).number in
        let peer : IsBetween 1 p.number 8 = subst (λ n. IsBetween 1 n 8) (sym n) (b.0, (let l = at_between old.replicas j p b in let c = is.count in omega (arith, l.1, c.1))) in
        let eight = (is.members k before at).is.marks.eight in
        elim (mark_moves before.number d before.marks eight p.number peer) [
          | inl s ↦ subst (λ m. IsTrueMark m after p) (sym s) (still_honest old is k before after at grows j p apart b)
          | inr g ↦ subst (λ m. IsTrueMark m after p) (sym g.1)
              (honest_moved (mark_of before.marks p.number) d before after p grows.taken (λ f c. (takes.taken f).1 (inr c)) (is.honest k j before p apart at b) (sent.part p (subst (λ i. At old.replicas i p) (sym (g.0 ∙ n)) b)))
        ]

    receive_keeps : (result : Result (Unit {0}) Refused) → Changes k (Receives d result) old new → IsWorld new
    receive_keeps (Ok u) c =
        let l = c.replicas in
        let t = l.how.0 in
        let e = l.how.1 in
        let goes = list_extends l.before.machine l.after.machine d.firings (Ok u) t in
        moves_keep (Receives d (Ok u)) c (record {
          number = ap (λ (r : ReplicaState). r.number) e;
          job = goes.grows.job;
          limit = goes.grows.limit;
          later = inr (ap (λ (r : ReplicaState). r.life) e, goes.grows.log);
          honest = λ j p apart b. subst (λ marks. IsTrueMark (mark_of marks p.number) l.after p) (sym (ap (λ (r : ReplicaState). r.marks) e)) (moved_honest l.before l.after l.at l.holds t.2 goes j p apart b);
        })
    receive_keeps (Err x) c =
        let h = c.replicas.how in
        grows_keep (Receives d (Err x)) c (refused_extends c.replicas.before.machine c.replicas.after.machine d.firings h.0 h.2.0) h.2.1

  -- a replica starts again

  again_honest : (before after : ReplicaState) → after.marks ≡ fresh_marks → (j : ℕ) (p : ReplicaState) → At old.replicas j p → IsHonest after p
  again_honest before after e j p b =
      let m = is.members j p b in
      let l = at_between old.replicas j p b in
      let c = is.count in
      subst (λ marks. IsTrueMark (mark_of marks p.number) after p) (sym e) (fresh_true after p p.number (subst (λ n. IsBetween 1 n 8) (sym m.number) (l.0, omega (arith, l.1, c.1))) m.is.born)

  restart_keeps : (bytes : List ℕ) → Changes k (StartsAgain old bytes) old new → IsWorld new
  restart_keeps bytes c =
      let l = c.replicas in
      let r = l.how.1 in
      let b = is.members k l.before l.at in
      moves_keep (StartsAgain old bytes) c (record {
        number = ap (λ (r : ReplicaState). r.number) r.beside;
        job = r.takes.grows.job ∙ sym b.job;
        limit = r.takes.grows.limit ∙ sym b.limit;
        later = inl (omega (arith, ap (λ (r : ReplicaState). r.life) r.beside));
        honest = λ j p apart b. again_honest l.before l.after (ap (λ (r : ReplicaState). r.marks) r.beside) j p b;
      })

-- a message is sent

module _ (old : WorldState) (is : IsWorld old) where
  sends_keep : (m : Message) (new : WorldState) → IsSent old m → Sends m old new → IsWorld new
  sends_keep m new good e = subst IsWorld (sym e) sends
    where
      with_it : WorldState
      with_it = world old.job old.limit old.replicas (old.messages ++ (m ∷ [])) old.saves

      sent : (x : Message) → IsSent old x → IsSent (world old.job old.limit old.replicas (old.messages ++ (m ∷ [])) old.saves) x
      sent (messages.Ask a) s = record { asker = s.asker; asked = s.asked; apart = s.apart }
      sent (messages.Delta d) s = record { sender = s.sender; receiver = s.receiver; apart = s.apart; firings = s.firings; part = s.part }

      either : (x : Message) → Contains old.messages x ⊎ (x ≡ m) → IsSent old x
      either x (inl c) = is.sent x c
      either x (inr q) = subst (λ x. IsSent old x) (sym q) good

      sends : IsWorld (world old.job old.limit old.replicas (old.messages ++ (m ∷ [])) old.saves)
      sends = record {
        count = is.count;
        save_count = is.save_count;
        members = λ j r a. let i = is.members j r a in record { is = i.is; number = i.number; job = i.job; limit = i.limit };
        honest = is.honest;
        sent = λ x c. sent x (either x (pushed_cases old.messages m x c));
        saved = λ j bytes a. let s = is.saved j bytes a in record { saver = s.saver; may = s.may; limit = s.limit; text = s.text };
      }

  asks_keep : (k j : ℕ) (result : Result (Unit {0}) Refused) (new : WorldState) → Has old j → (k ≡ j → ⊥) → Asks k j result old new → IsWorld new
  asks_keep k j (Ok u) new has apart (r, at, s) =
      let n = (is.members k r at).number in
      sends_keep (messages.Ask (ask_of r j)) new (record { asker = subst (λ i. Has old i) (sym n) (at_between old.replicas k r at); asked = has; apart = λ e. apart (sym n ∙ e) }) s
  asks_keep k j (Err e) new has apart s = subst IsWorld (sym s.1) is

  -- each firing of a part of the log is one of the job
  part_firings : (k : ℕ) (r : ReplicaState) (fs : List Firing) (place : ℕ) → At old.replicas k r → fs ≡ part_from r.machine.log place → AreFirings old.job fs
  part_firings k r fs place at e f c =
      let i = is.members k r at in
      let own : IsTrue ((own_of r.machine.job).is_firing f) = i.is.machine.sound.firings f (in_log f (subst (λ (fs : List Firing). Contains fs f) e c)) in
      subst (λ j. IsTrue ((own_of j).is_firing f)) i.job own
    where
      in_log : (f : Firing) → Contains (part_from r.machine.log place) f → Taken r.machine f
      in_log f c = Contains-append_left r.machine.log r.machine.parked f (Contains-dropped place r.machine.log f (Contains-taken most_firings (drop place r.machine.log) f c))

  replies_keep : (a : Ask) (result : Result (Unit {0}) Refused) (new : WorldState) → IsSentAsk old a → Replies a result old new → IsWorld new
  replies_keep a (Ok u) new s (r, at, d, is_d, e) =
      let n = (is.members a.asked r at).number in
      let from : d.sender ≡ a.asked = is_d.sender_is ∙ n in
      sends_keep (messages.Delta d) new (record {
        sender = subst (λ i. Has old i) (sym from) s.asked;
        receiver = subst (λ i. Has old i) (sym is_d.receiver_is) s.asker;
        apart = λ q. s.apart (sym is_d.receiver_is ∙ sym q ∙ from);
        firings = part_firings a.asked r d.firings (starts_at r.machine.log r.life (mark a.life a.count)) at is_d.firings_are;
        part = λ p b. true_of p (at_one old.replicas a.asked r p at (subst (λ i. At old.replicas i p) from b));
      }) e
    where
      true_of : (p : ReplicaState) → p ≡ r → IsTrueDelta d p
      true_of p q = subst (λ (p : ReplicaState). IsTrueDelta d p) (sym q) (record {
        life = omega (arith, is_d.life_is);
        part = λ l. subst (λ k. StandsAt k d.firings r.machine.log) (sym is_d.start_is) (subst (λ (fs : List Firing). StandsAt (starts_at r.machine.log r.life (mark a.life a.count)) fs r.machine.log) (sym is_d.firings_are) (part_stands r.machine.log r.life (mark a.life a.count)));
      })
  replies_keep a (Err e) new s u = subst IsWorld (sym u.1) is

  delivers_keep : (m : Message) (result : Result (Unit {0}) Refused) (new : WorldState) → IsSent old m → Delivers m result old new → IsWorld new
  delivers_keep (messages.Ask a) result new s r = replies_keep a result new s r
  delivers_keep (messages.Delta d) result new s c = receive_keeps old is d.receiver new d s result c

  -- a checkpoint is kept

  saves_keep : (k : ℕ) (result : Result (Unit {0}) Refused) (new : WorldState) → Saves k result old new → IsWorld new
  saves_keep k (Ok u) new (r, at, valid, e) = subst IsWorld (sym e) saves
    where
      member : IsSaved old (checkpoint_text r.machine.job.program.version (all_of r.machine))
      member = let i = is.members k r at in record { saver = r.machine; may = (i.is.machine, i.job, valid); limit = i.limit; text = inr (ap (λ (j : JobParts). checkpoint_text j.program.version (all_of r.machine)) i.job) }

      either : (j : ℕ) (bytes : List ℕ) → ((k ≡ j) × (bytes ≡ checkpoint_text r.machine.job.program.version (all_of r.machine))) ⊎ ((k ≡ j → ⊥) × At old.saves j bytes) → IsSaved old bytes
      either j bytes (inl a) = subst (λ b. IsSaved old b) (sym a.1) member
      either j bytes (inr b) = is.saved j bytes b.1

      saves : IsWorld (world old.job old.limit old.replicas old.messages (slice_set old.saves (k - 1) (checkpoint_text r.machine.job.program.version (all_of r.machine))))
      saves = record {
        count = is.count;
        save_count = length-set old.saves (k - 1) (checkpoint_text r.machine.job.program.version (all_of r.machine)) ∙ is.save_count;
        members = λ j r a. let i = is.members j r a in record { is = i.is; number = i.number; job = i.job; limit = i.limit };
        honest = is.honest;
        sent = λ x c. sent x (is.sent x c);
        saved = λ j bytes a. let s = either j bytes (at_set_cases old.saves k j (checkpoint_text r.machine.job.program.version (all_of r.machine)) bytes at.0 a) in record { saver = s.saver; may = s.may; limit = s.limit; text = s.text };
      }
        where
          sent : (x : Message) → IsSent old x → IsSent (world old.job old.limit old.replicas old.messages (slice_set old.saves (k - 1) (checkpoint_text r.machine.job.program.version (all_of r.machine)))) x
          sent (messages.Ask a) s = record { asker = s.asker; asked = s.asked; apart = s.apart }
          sent (messages.Delta d) s = record { sender = s.sender; receiver = s.receiver; apart = s.apart; firings = s.firings; part = s.part }
  saves_keep k (Err e) new s = subst IsWorld (sym s.1) is

  arrives_keep : (k : ℕ) (bytes : List ℕ) (result : Result (Unit {0}) Refused) (new : WorldState) → Arrives k bytes result old new → IsWorld new
  arrives_keep k bytes (Ok u) new (inl a) = subst IsWorld (sym a.1) is
  arrives_keep k bytes (Ok u) new (inr (d, m, c)) = list_keeps old is k new d.firings (Ok u) c
  arrives_keep k bytes (Err e) new (inl a) = subst IsWorld (sym a.1) is
  arrives_keep k bytes (Err e) new (inr (d, m, c)) = list_keeps old is k new d.firings (Err e) c

  restarts_keep : (k keep : ℕ) (result : Result (Unit {0}) Refused) (new : WorldState) → Restarts k keep result old new → IsWorld new
  restarts_keep k keep (Ok u) new (saved, at, c) = restart_keeps old is k new (take keep saved) c
  restarts_keep k keep (Err e) new s = subst IsWorld (sym s.1) is

  -- what an event does, or leaves where it is refused, is a world
  happens_keeps : (e : Event) (result : Result (Unit {0}) Refused) (new : WorldState) → IsDoable old e → Happens e result old new → IsWorld new
  happens_keeps (events.Fire k pick) result new may h = fire_keeps old is k new pick result h
  happens_keeps (events.Take k f) result new may h = take_keeps old is k new f result h
  happens_keeps (events.Ask k j) result new may h = asks_keep k j result new may.1 may.2 h
  happens_keeps (events.Deliver i) result new may (m, at, h) = delivers_keep m result new (is.sent m (slice_get_Contains old.messages i m at)) h
  happens_keeps (events.Merge k j) result new may (o, at, h) = merge_keeps old is k new o result h
  happens_keeps (events.Save k) result new may h = saves_keep k result new h
  happens_keeps (events.Restart k keep) result new may h = restarts_keep k keep result new h
  happens_keeps (events.Bytes k bytes) result new may h = arrives_keep k bytes.items result new h

  pub event_keeps : (e : Event) (result : Result (Unit {0}) Refused) (new : WorldState) → EventAnswer old e result new → IsWorld new
  event_keeps e result new (inl a) = subst IsWorld (sym a.2) is
  event_keeps e result new (inr h) = happens_keeps e result new h.0 h.1

-- each event that happens leaves a world
pub step_keeps : (old : WorldState) (e : Event) (new : WorldState) → IsWorld old → EventStep old e new → IsWorld new
step_keeps old e new is s = event_keeps old is e (Ok tt) new (inr s)
