-- How a machine goes on over a list of calls.
use Rattle.std.proofs.Common.{inl, inr, refl, subst, List, [], ◌∷◌, ◌++◌, Ok, Err, ap, take, ℕ}
use Rattle.std.specs.Prelude.{Contains, Result, OnOk}
use Rattle.std.proofs.lemmas.List.Elements.{Contains-append_left, Contains-push}
use Rattle.std.specs.declared.alloc.AllocError.{AllocError}
use Rattle.u_rule.specs.declared.firing.Firing.{Firing}
use Rattle.u_rule.specs.EntryOrder.{entry_cmp}
use Rattle.u_rule.specs.ExactOrders.{entry_cmp_total}
use Rattle.u_rule.specs.Rule.{own_of}
use Rattle.u_base.specs.Firing.{Same, Cl}
use Rattle.u_sets.proofs.Places.{one_list}
use Rattle.u_base.proofs.Closure.{Cl-mono, Cl-whole}
use Rattle.u_machine.specs.declared.commands.Command.{Command}
use Rattle.u_machine.specs.declared.commands.Command.TheVariants as calls
use Rattle.u_machine.specs.declared.commands.Reply.{Reply}
use Rattle.u_machine.specs.declared.commands.Reply.TheVariants as replies
use Rattle.u_machine.specs.declared.answer.Step.{Step}
use Rattle.u_machine.specs.declared.answer.Step.TheVariants as step
use Rattle.u_machine.specs.declared.answer.StepIn.{StepIn}
use Rattle.u_machine.specs.declared.answer.StepIn.TheVariants as within
use Rattle.u_machine.specs.declared.answer.Ran.{Ran}
use Rattle.u_machine.specs.declared.answer.Ran.TheVariants as ran
use Rattle.u_machine.specs.declared.answer.Took.{Took}
use Rattle.u_machine.specs.declared.answer.Took.TheVariants as took
use Rattle.u_machine.specs.declared.answer.Refusal.{Refusal}
use Rattle.u_machine.specs.declared.answer.Refusal.TheVariants as refusals
use Rattle.u_machine.specs.declared.answer.TakeRefusal.{TakeRefusal}
use Rattle.u_machine.specs.declared.answer.TakeRefusal.TheVariants as untaken
use Rattle.u_machine.specs.declared.answer.ListRefusal.{ListRefusal}
use Rattle.u_machine.specs.declared.answer.ListRefusal.TheVariants as unlisted
use Rattle.u_machine.specs.State.{State, Taken, IsSound, IsMachine, IsSettled}
use Rattle.u_machine.specs.Headline.{IsClosure, KeepsItsPromise, Agree}
use Rattle.u_machine.specs.Calls.{Applies, Takes, TakesOrNot, Fires, FireAnswer, FireInAnswer, TakeAnswer, RunAnswer}
use Rattle.u_machine.specs.Taking.{TakesAll, TakeAllAnswer}
use Rattle.u_machine.specs.Obeying.{SettleAnswer, Does, Obeys, IsMet, AreMet, Extends}
use Rattle.u_machine.proofs.States.{grows_refl, grows_trans, settled_is_Cl, quiet_whole}

pub extends_refl : (m : State) → Extends m m
extends_refl m = record { grows = grows_refl m; taken = λ f t. t }

pub extends_trans : (a b c : State) → Extends a b → Extends b c → Extends a c
extends_trans a b c p q = record { grows = grows_trans a b c p.grows q.grows; taken = λ f t. q.taken f (p.taken f t) }

module _ (old new : State) where
  applies_extends : Applies old new → Extends old new
  applies_extends p = record { grows = p.grows; taken = λ f t. (p.taken f).0 t }

  takes_extends : (f : Firing) → Takes old f new → Extends old new
  takes_extends f p = record { grows = p.grows; taken = λ g t. (p.taken g).1 (inl t) }

  takes_or_not_extends : (f : Firing) → TakesOrNot old f new → Extends old new
  takes_or_not_extends f (inl p) = applies_extends p
  takes_or_not_extends f (inr t) = takes_extends f t

  takes_all_extends : (fs : List Firing) → TakesAll old fs new → Extends old new
  takes_all_extends fs p = record { grows = p.grows; taken = λ g t. (p.taken g).1 (inl t) }

  fires_extends : (gs : List Firing) → Fires old gs new → Extends old new
  fires_extends gs p = record { grows = p.grows; taken = λ g t. (p.taken g).1 (inl t) }

  fire_extends : (pick : ℕ) (r : Result Step Refusal) → FireAnswer old pick r new → Extends old new
  fire_extends pick (Ok step.Quiet) a = applies_extends a.1.applies
  fire_extends pick (Ok (step.Fired place)) (f, may, t, st, at) = takes_extends f t
  fire_extends pick (Err refusals.Full) a = applies_extends a.2.applies
  fire_extends pick (Err refusals.NoMemory) (inl u) = applies_extends u.applies
  fire_extends pick (Err refusals.NoMemory) (inr (f, may, t)) = takes_or_not_extends f t

  fire_in_extends : (buckets pick : ℕ) (r : Result StepIn Refusal) → FireInAnswer old buckets pick r new → Extends old new
  fire_in_extends buckets pick (Ok within.Quiet) a = applies_extends a.1.applies
  fire_in_extends buckets pick (Ok within.Elsewhere) a = applies_extends a.1.applies
  fire_in_extends buckets pick (Ok (within.Fired place)) (f, may, t, st, at) = takes_extends f t
  fire_in_extends buckets pick (Err refusals.Full) a = applies_extends a.2.applies
  fire_in_extends buckets pick (Err refusals.NoMemory) (inl u) = applies_extends u.applies
  fire_in_extends buckets pick (Err refusals.NoMemory) (inr (f, may, t)) = takes_or_not_extends f t

  take_extends : (f : Firing) (r : Result Took TakeRefusal) → TakeAnswer old f r new → Extends old new
  take_extends f (Ok took.Known) a = applies_extends a.1.applies
  take_extends f (Ok took.Taken) a = takes_extends f a.1
  take_extends f (Ok took.Parked) a = takes_extends f a.1
  take_extends f (Err untaken.NotAFiring) a = applies_extends a.1.applies
  take_extends f (Err untaken.Full) a = applies_extends a.3.applies
  take_extends f (Err untaken.NoMemory) (inl u) = applies_extends u.applies
  take_extends f (Err untaken.NoMemory) (inr (new, t)) = takes_or_not_extends f t

  take_all_extends : (fs : List Firing) (r : Result (Unit {0}) ListRefusal) → TakeAllAnswer old fs r new → Extends old new
  take_all_extends fs (Ok u) a = takes_all_extends fs a.2
  take_all_extends fs (Err (unlisted.NotAFiring place)) a = applies_extends a.1.applies
  take_all_extends fs (Err unlisted.Full) a = applies_extends a.2.applies
  take_all_extends fs (Err unlisted.NoMemory) (inl u) = applies_extends u.applies
  take_all_extends fs (Err unlisted.NoMemory) (inr (all, fit, (k, l, t))) = takes_all_extends (take k fs) t

  settle_extends : (r : Result (Unit {0}) AllocError) → SettleAnswer old r new → Extends old new
  settle_extends (Ok u) a = applies_extends a.0
  settle_extends (Err e) a = applies_extends a

  run_extends : (budget : ℕ) (r : Result Ran Refusal) → RunAnswer old budget r new → Extends old new
  run_extends budget (Ok ran.Quiet) (gs, r, few, st, none, whole) = fires_extends gs r.fires
  run_extends budget (Ok ran.Paused) (gs, r, few, st, some) = fires_extends gs r.fires
  run_extends budget (Err refusals.Full) (gs, r, few, st, some, full) = fires_extends gs r.fires
  run_extends budget (Err refusals.NoMemory) (gs, r, few) = fires_extends gs r

  -- no call loses anything
  pub does_extends : (c : Command) (reply : Reply) → Does old c reply new → Extends old new
  does_extends (calls.Fire pick) reply (r, e, a) = fire_extends pick r a
  does_extends (calls.FireIn buckets pick) reply (r, e, a) = fire_in_extends buckets pick r a
  does_extends (calls.Take f) reply (r, e, a) = take_extends f r a
  does_extends (calls.TakeAll fs) reply (r, e, a) = take_all_extends fs.items r a
  does_extends calls.Settle reply (r, e, a) = settle_extends r a
  does_extends (calls.Run budget) reply (r, e, a) = run_extends budget r a

  fire_settled : (pick : ℕ) (r : Result Step Refusal) → FireAnswer old pick r new → IsMet (replies.Fire r) → IsSettled new
  fire_settled pick (Ok step.Quiet) a m = a.1.settled
  fire_settled pick (Ok (step.Fired place)) (f, may, t, st, at) m = st
  fire_settled pick (Err refusals.Full) a m = a.2.settled
  fire_settled pick (Err refusals.NoMemory) a m = absurd m

  fire_in_settled : (buckets pick : ℕ) (r : Result StepIn Refusal) → FireInAnswer old buckets pick r new → IsMet (replies.FireIn r) → IsSettled new
  fire_in_settled buckets pick (Ok within.Quiet) a m = a.1.settled
  fire_in_settled buckets pick (Ok within.Elsewhere) a m = a.1.settled
  fire_in_settled buckets pick (Ok (within.Fired place)) (f, may, t, st, at) m = st
  fire_in_settled buckets pick (Err refusals.Full) a m = a.2.settled
  fire_in_settled buckets pick (Err refusals.NoMemory) a m = absurd m

  take_settled : (f : Firing) (r : Result Took TakeRefusal) → TakeAnswer old f r new → IsMet (replies.Take r) → IsSettled new
  take_settled f (Ok took.Known) a m = a.1.settled
  take_settled f (Ok took.Taken) a m = a.3
  take_settled f (Ok took.Parked) a m = a.3
  take_settled f (Err untaken.NotAFiring) a m = a.1.settled
  take_settled f (Err untaken.Full) a m = a.3.settled
  take_settled f (Err untaken.NoMemory) a m = absurd m

  take_all_settled : (fs : List Firing) (r : Result (Unit {0}) ListRefusal) → TakeAllAnswer old fs r new → IsMet (replies.TakeAll r) → IsSettled new
  take_all_settled fs (Ok u) a m = a.3
  take_all_settled fs (Err (unlisted.NotAFiring place)) a m = a.1.settled
  take_all_settled fs (Err unlisted.Full) a m = a.2.settled
  take_all_settled fs (Err unlisted.NoMemory) a m = absurd m

  settle_settled : (r : Result (Unit {0}) AllocError) → SettleAnswer old r new → IsMet (replies.Settle r) → IsSettled new
  settle_settled (Ok u) a m = a.1
  settle_settled (Err e) a m = absurd m

  run_settled : (budget : ℕ) (r : Result Ran Refusal) → RunAnswer old budget r new → IsMet (replies.Run r) → IsSettled new
  run_settled budget (Ok ran.Quiet) (gs, r, few, st, none, whole) m = st
  run_settled budget (Ok ran.Paused) (gs, r, few, st, some) m = st
  run_settled budget (Err refusals.Full) (gs, r, few, st, some, full) m = st
  run_settled budget (Err refusals.NoMemory) a m = absurd m

  -- a call that has its memory leaves a settled machine
  pub does_settled : (c : Command) (reply : Reply) → Does old c reply new → IsMet reply → IsSettled new
  does_settled (calls.Fire pick) reply (r, e, a) m = fire_settled pick r a (subst IsMet e m)
  does_settled (calls.FireIn buckets pick) reply (r, e, a) m = fire_in_settled buckets pick r a (subst IsMet e m)
  does_settled (calls.Take f) reply (r, e, a) m = take_settled f r a (subst IsMet e m)
  does_settled (calls.TakeAll fs) reply (r, e, a) m = take_all_settled fs.items r a (subst IsMet e m)
  does_settled calls.Settle reply (r, e, a) m = settle_settled r a (subst IsMet e m)
  does_settled (calls.Run budget) reply (r, e, a) m = run_settled budget r a (subst IsMet e m)

pub settle_answer : (old new : State) (r : Result (Unit {0}) AllocError) → Applies old new → OnOk r (IsSettled new) → SettleAnswer old r new
settle_answer old new (Ok u) p s = (p, s)
settle_answer old new (Err e) p s = p

-- one more call
pub obeys_push : (old mid new : State) (cs : List Command) (rs : List Reply) (c : Command) (r : Reply) → Obeys old cs rs mid → Does mid c r new → IsMachine new → Obeys old (cs ++ c ∷ []) (rs ++ r ∷ []) new
obeys_push old mid new [] rs c r (none, same) d is = (r, [], new, ap (λ (xs : List Reply). xs ++ r ∷ []) none, subst (λ (m : State). Does m c r new) same d, is, (refl, refl))
obeys_push old mid new (b ∷ cs) rs c r (q, more, next, e, first, is_next, rest) d is =
    (q, more ++ r ∷ [], next, ap (λ (xs : List Reply). xs ++ r ∷ []) e, first, is_next, obeys_push next mid new cs more c r rest d is)

pub met_before : (rs : List Reply) (r : Reply) → AreMet (rs ++ r ∷ []) → AreMet rs
met_before rs r all x m = all x (Contains-append_left rs (r ∷ []) x m)

pub met_last : (rs : List Reply) (r : Reply) → AreMet (rs ++ r ∷ []) → IsMet r
met_last rs r all = all r (Contains-push rs r)

pub is_closure : (m : State) → IsSound m → IsSettled m → IsClosure m
is_closure m is st = (settled_is_Cl m is st).0

-- the promise of one machine
pub keeps_its_promise : (m : State) → IsMachine m → KeepsItsPromise m
keeps_its_promise m is = record { run = is.sound.derivation; reached = λ e k. Cl-whole (own_of m.job) (Taken m) e (is.sound.lies e k); closure = is_closure m is.sound; whole = quiet_whole m is.sound }

-- two settled machines of one job that took the same have the same history
pub agree : (a b : State) → IsMachine a → IsMachine b → Agree a b
agree a b is_a is_b st_a st_b job same = one_list entry_cmp entry_cmp_total b.history a.history is_b.history_rises is_a.history_rises (λ e. ((λ k. (ca e).1 (Cl-mono (own_of a.job) (Taken b) (Taken a) (λ f. (same f).0) e ((cb e).0 k))), λ k. (cb e).1 (Cl-mono (own_of a.job) (Taken a) (Taken b) (λ f. (same f).1) e ((ca e).0 k))))
  where
    ca : IsClosure a
    ca = is_closure a is_a.sound st_a

    cb : Same (Contains b.history) (Cl (own_of a.job) (Taken b))
    cb = rw job at (is_closure b is_b.sound st_b)
