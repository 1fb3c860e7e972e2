-- What a replica goes on to be over a list of calls.
use Rattle.std.proofs.Common.{arith, inl, inr, refl, sym, ◌∙◌, ap, subst, ◌≡◌, List, [], ◌∷◌, ◌++◌, Ok, Err, take, ℕ}
use Rattle.std.specs.Prelude.{Result}
use Rattle.std.proofs.lemmas.List.Elements.{Contains-append_left, Contains-push}
use Rattle.u_name.specs.Context.{IsBetween}
use Rattle.u_rule.specs.declared.firing.Firing.{Firing}
use Rattle.u_delta.specs.declared.message.Mark.{Mark}
use Rattle.u_delta.specs.declared.message.Delta.{Delta}
use Rattle.u_machine.specs.State.{State, IsSettled}
use Rattle.u_machine.specs.Calls.{Applies}
use Rattle.u_machine.specs.Taking.{TakesAll, TakeAllAnswer}
use Rattle.u_machine.specs.Obeying as machines
use Rattle.u_machine.specs.declared.answer.ListRefusal.{ListRefusal}
use Rattle.u_machine.specs.declared.answer.ListRefusal.TheVariants as unlisted
use Rattle.u_machine.proofs.Obeying.{extends_refl, extends_trans, does_extends, does_settled}
use Rattle.u_replica.specs.declared.answer.MergeRefusal.{MergeRefusal}
use Rattle.u_replica.specs.declared.answer.MergeRefusal.TheVariants as unmerged
use Rattle.u_replica.specs.declared.calls.Call.{Call}
use Rattle.u_replica.specs.declared.calls.Call.TheVariants as calls
use Rattle.u_replica.specs.declared.calls.Answer.{Answer}
use Rattle.u_replica.specs.declared.calls.Answer.TheVariants as answers
use Rattle.u_replica.specs.Marking.{mark_of, IsNoLess}
use Rattle.u_replica.specs.ReplicaState.{ReplicaState, replica, IsReplica, ChangesMachine}
use Rattle.u_replica.specs.Receiving.{ReceiveAnswer}
use Rattle.u_replica.specs.Merging.{all_of, MergeAnswer}
use Rattle.u_replica.specs.Obeying.{Does, Obeys, IsMet, AreMet, Extends}
use Rattle.u_replica.proofs.MarkLaws.{marks_no_less}

-- a machine that takes a list, or a part of it

module _ (old new : State) where
  applies_extends : Applies old new → machines.Extends old new
  applies_extends p = record { grows = p.grows; taken = λ f t. (p.taken f).0 t }

  takes_extends : (fs : List Firing) → TakesAll old fs new → machines.Extends old new
  takes_extends fs p = record { grows = p.grows; taken = λ g t. (p.taken g).1 (inl t) }

  take_all_extends : (fs : List Firing) (r : Result (Unit {0}) ListRefusal) → TakeAllAnswer old fs r new → machines.Extends old new
  take_all_extends fs (Ok u) a = takes_extends fs a.2
  take_all_extends fs (Err (unlisted.NotAFiring place)) a = applies_extends a.1.applies
  take_all_extends fs (Err unlisted.Full) a = applies_extends a.2.applies
  take_all_extends fs (Err unlisted.NoMemory) (inl u) = applies_extends u.applies
  take_all_extends fs (Err unlisted.NoMemory) (inr (all, fit, (k, l, t))) = takes_extends (take k fs) t

  merge_extends : (other : State) (r : Result (Unit {0}) MergeRefusal) → MergeAnswer old other r new → machines.Extends old new
  merge_extends other (Ok u) a = takes_extends (all_of other) a.1
  merge_extends other (Err unmerged.OtherJob) a = subst (λ m. machines.Extends old m) (sym a.1) (extends_refl old)
  merge_extends other (Err unmerged.Full) a = applies_extends a.2.applies
  merge_extends other (Err unmerged.NoMemory) a = take_all_extends (all_of other) (Err unlisted.NoMemory) a.1

  take_all_settled : (fs : List Firing) (r : Result (Unit {0}) ListRefusal) → TakeAllAnswer old fs r new → IsMet (answers.Receive r) → IsSettled new
  take_all_settled fs (Ok u) a m = a.3
  take_all_settled fs (Err (unlisted.NotAFiring place)) a m = a.1.settled
  take_all_settled fs (Err unlisted.Full) a m = a.2.settled
  take_all_settled fs (Err unlisted.NoMemory) a m = absurd m

  merge_settled : (other : State) (r : Result (Unit {0}) MergeRefusal) → MergeAnswer old other r new → IsSettled old → IsMet (answers.Merge r) → IsSettled new
  merge_settled other (Ok u) a s m = a.2
  merge_settled other (Err unmerged.OtherJob) a s m = subst IsSettled (sym a.1) s
  merge_settled other (Err unmerged.Full) a s m = a.2.settled
  merge_settled other (Err unmerged.NoMemory) a s m = absurd m

-- marks count no less than before

no_less_refl : (m : Mark) → IsNoLess m m
no_less_refl m = inr (refl, omega arith)

no_less_trans : (a b c : Mark) → IsNoLess a b → IsNoLess b c → IsNoLess a c
no_less_trans a b c (inl p) (inl q) = inl (omega (arith, p, q))
no_less_trans a b c (inl p) (inr q) = inl (omega (arith, p, q.0))
no_less_trans a b c (inr p) (inl q) = inl (omega (arith, p.0, q))
no_less_trans a b c (inr p) (inr q) = inr (p.0 ∙ q.0, omega (arith, p.1, q.1))

abbrev Grow : List Mark → List Mark → Type 0
Grow old new = (peer : ℕ) → IsBetween 1 peer 8 → IsNoLess (mark_of old peer) (mark_of new peer)

extends_of : (old new : ReplicaState) (marks : List Mark) → machines.Extends old.machine new.machine → new ≡ replica new.machine old.number old.life marks → Grow old.marks marks → Extends old new
extends_of old new marks m e g = record {
  machine = m;
  number = ap (λ (r : ReplicaState). r.number) e;
  life = ap (λ (r : ReplicaState). r.life) e;
  marks = subst (Grow old.marks) (sym (ap (λ (r : ReplicaState). r.marks) e)) g;
}

module _ (old new : ReplicaState) (is : IsReplica old) where
  alone_extends : machines.Extends old.machine new.machine → ChangesMachine old new → Extends old new
  alone_extends m e = extends_of old new old.marks m e (λ peer b. no_less_refl (mark_of old.marks peer))

  receive_extends : (d : Delta) (r : Result (Unit {0}) ListRefusal) → ReceiveAnswer old d r new → Extends old new
  receive_extends d (Ok u) a = extends_of old new _ (take_all_extends old.machine new.machine d.firings (Ok u) a.0) a.1 (marks_no_less old.number d old.marks is.marks.eight)
  receive_extends d (Err e) a = alone_extends (take_all_extends old.machine new.machine d.firings (Err e) a.0) a.1

  receive_settled : (d : Delta) (r : Result (Unit {0}) ListRefusal) → ReceiveAnswer old d r new → IsMet (answers.Receive r) → IsSettled new.machine
  receive_settled d (Ok u) a m = take_all_settled old.machine new.machine d.firings (Ok u) a.0 m
  receive_settled d (Err e) a m = take_all_settled old.machine new.machine d.firings (Err e) a.0 m

  -- no call loses anything
  pub does_extends_all : (c : Call) (answer : Answer) → Does old c answer new → Extends old new
  does_extends_all (calls.Machine c) answer (r, e, d, alone) = alone_extends (does_extends old.machine new.machine c r d) alone
  does_extends_all (calls.Receive d) answer (r, e, a) = receive_extends d r a
  does_extends_all (calls.Merge other) answer (r, e, a, alone) = alone_extends (merge_extends old.machine new.machine other.now.machine r a) alone

  -- a call that has its memory leaves a settled machine settled
  pub does_settled_all : (c : Call) (answer : Answer) → Does old c answer new → IsSettled old.machine → IsMet answer → IsSettled new.machine
  does_settled_all (calls.Machine c) answer (r, e, d, alone) s m = does_settled old.machine new.machine c r d (subst IsMet e m)
  does_settled_all (calls.Receive d) answer (r, e, a) s m = receive_settled d r a (subst IsMet e m)
  does_settled_all (calls.Merge other) answer (r, e, a, alone) s m = merge_settled old.machine new.machine other.now.machine r a s (subst IsMet e m)

pub extends_self : (r : ReplicaState) → Extends r r
extends_self r = record { machine = extends_refl r.machine; number = refl; life = refl; marks = λ peer b. no_less_refl (mark_of r.marks peer) }

pub extends_on : (a b c : ReplicaState) → Extends a b → Extends b c → Extends a c
extends_on a b c p q = record {
  machine = extends_trans a.machine b.machine c.machine p.machine q.machine;
  number = q.number ∙ p.number;
  life = q.life ∙ p.life;
  marks = λ peer is. no_less_trans (mark_of a.marks peer) (mark_of b.marks peer) (mark_of c.marks peer) (p.marks peer is) (q.marks peer is);
}

-- one more call
pub obeys_one_more : (old mid new : ReplicaState) (cs : List Call) (rs : List Answer) (c : Call) (r : Answer) → Obeys old cs rs mid → Does mid c r new → IsReplica new → Obeys old (cs ++ c ∷ []) (rs ++ r ∷ []) new
obeys_one_more old mid new [] rs c r (none, same) d is = (r, [], new, ap (λ (xs : List Answer). xs ++ r ∷ []) none, subst (λ (m : ReplicaState). Does m c r new) same d, is, (refl, refl))
obeys_one_more old mid new (b ∷ cs) rs c r (q, more, next, e, first, is_next, rest) d is =
    (q, more ++ r ∷ [], next, ap (λ (xs : List Answer). xs ++ r ∷ []) e, first, is_next, obeys_one_more next mid new cs more c r rest d is)

pub met_before : (rs : List Answer) (r : Answer) → AreMet (rs ++ r ∷ []) → AreMet rs
met_before rs r all x m = all x (Contains-append_left rs (r ∷ []) x m)

pub met_last : (rs : List Answer) (r : Answer) → AreMet (rs ++ r ∷ []) → IsMet r
met_last rs r all = all r (Contains-push rs r)
