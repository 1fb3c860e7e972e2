-- What the calls of a machine answer, from what they do to its parts.
use Rattle.std.proofs.Common.{◌≡◌, inl, inr, sym, ◌∙◌, arith, subst, length, Some, Ok, Err, ℕ, take, ◌++◌, ◌∷◌, [], false}
use Rattle.std.specs.Prelude.{slice_get, IsTrue, Contains, Result, IfOk, IfErr}
use Rattle.std.specs.Result.{IsErrAnd}
use Rattle.std.proofs.lemmas.List.{take_all}
use Rattle.std.proofs.lemmas.List.Elements.{Contains-append_right}
use Rattle.u_rule.specs.declared.firing.Firing.{Firing}
use Rattle.u_rule.specs.Rule.{own_of}
use Rattle.u_rule.specs.EntryOrder.{FiringList}
use Rattle.u_check.specs.Jobs.{JobParts}
use Rattle.u_machine.specs.declared.answer.StepIn.{StepIn}
use Rattle.u_machine.specs.declared.answer.Refusal.{Refusal}
use Rattle.u_machine.specs.declared.answer.Refusal.TheVariants as refusals
use Rattle.u_machine.specs.declared.answer.Took.{Took}
use Rattle.u_machine.specs.declared.answer.TakeRefusal.{TakeRefusal}
use Rattle.u_machine.specs.declared.answer.TakeRefusal.TheVariants.{NoMemory}
use Rattle.u_machine.specs.declared.answer.TakeRefusal.TheVariants as untaken
use Rattle.u_machine.specs.declared.answer.Took.TheVariants as took
use Rattle.u_machine.specs.declared.answer.ListRefusal.{ListRefusal}
use Rattle.u_machine.specs.declared.answer.ListRefusal.TheVariants as unlisted
use Rattle.u_machine.specs.State.{State}
use Rattle.u_machine.specs.Calls.{Settles, Takes, IsNew, FireInAnswer, TakeAnswer}
use Rattle.u_machine.specs.Taking.{AreFirings, IsFirstOther, AreNew, Fits, IsTooLong, TakeAllAnswer}
use Rattle.u_machine.specs.Invariant.{Lengthens}
use Rattle.u_machine.proofs.TakenLists.{takes_none, takes_after, new_before as list_before}
use Rattle.u_machine.proofs.States.{room_before, applies_trans, takes_between, Applies-refl}
use Rattle.u_machine.proofs.Lists.{slice_get_mid, slice_get_Contains}

-- where it stands among the applied ones
pub fired_at : (log : FiringList) (f : Firing) (mid : FiringList) (applied_count : ℕ) (new : FiringList) → mid ≡ log ++ f ∷ [] → Lengthens mid new → applied_count ≡ length new → slice_get (take applied_count new) (length log) ≡ Some f
fired_at log f mid applied_count new e (rest, w) d = rw (take_all applied_count new (omega (arith, d)), w, e) (slice_get_mid log rest f)

-- the applied ones have it
pub applied_has : (log : FiringList) (f : Firing) (mid : FiringList) (applied_count : ℕ) (new : FiringList) → mid ≡ log ++ f ∷ [] → Lengthens mid new → applied_count ≡ length new → Contains (take applied_count new) f
applied_has log f mid applied_count new e l d = slice_get_Contains (take applied_count new) (length log) f (fired_at log f mid applied_count new e l d)

pub fire_in_no_memory : (old new : State) (buckets pick : ℕ) (r : Result StepIn Refusal) → IsErrAnd r (λ e. e ≡ refusals.NoMemory) → FireInAnswer old buckets pick (Err refusals.NoMemory) new → FireInAnswer old buckets pick r new
fire_in_no_memory old new buckets pick (Ok t) h w = absurd h
fire_in_no_memory old new buckets pick (Err e) h w = subst (λ (x : Refusal). FireInAnswer old buckets pick (Err x) new) (sym h) w

pub take_no_memory : (old new : State) (f : Firing) (r : Result Took TakeRefusal) → IsErrAnd r (λ e. e ≡ NoMemory) → TakeAnswer old f (Err NoMemory) new → TakeAnswer old f r new
take_no_memory old new f (Ok t) h w = absurd h
take_no_memory old new f (Err e) h w = subst (λ (x : TakeRefusal). TakeAnswer old f (Err x) new) (sym h) w

-- what is answered for a firing that is refused unless it is parked
pub known_or : (m : State) (f : Firing) (refusal : TakeRefusal) (r : Result Took TakeRefusal) → IfOk r (λ t. (t ≡ took.Known) × Contains m.parked f) → IfErr r (λ e. (e ≡ refusal) × (Contains m.parked f → ⊥)) → Settles m m → ((Contains m.parked f → ⊥) → TakeAnswer m f (Err refusal) m) → TakeAnswer m f r m
known_or m f refusal (Ok t) (e, p) _ s _ = subst (λ (x : Took). TakeAnswer m f (Ok x) m) (sym e) (Contains-append_right m.log m.parked f p, s)
known_or m f refusal (Err t) _ (e, unparked) s refused = subst (λ (x : TakeRefusal). TakeAnswer m f (Err x) m) (sym e) (refused unparked)

pub settles_trans : (a b c : State) → Settles a b → Settles b c → Settles a c
settles_trans a b c p q = record { applies = applies_trans a b c p.applies q.applies; settled = q.settled; still = λ st. q.still p.settled ∙ p.still st }

-- what a call answers that began with settling
module _ (a b c : State) (f : Firing) (s : Settles a b) where
  new_before : IsNew b f → IsNew a f
  new_before n = record {
    firing = subst (λ (job : JobParts). IsTrue ((own_of job).is_firing f)) s.applies.grows.job n.firing;
    new = λ t. n.new ((s.applies.taken f).0 t);
    room = room_before a b f s.applies n.new n.room;
  }

  takes_before : Takes b f c → Takes a f c
  takes_before t = takes_between a b c c f s.applies t (Applies-refl c)

  pub take_after : (r : Result Took TakeRefusal) → TakeAnswer b f r c → TakeAnswer a f r c
  take_after (Ok took.Known) (t, q) = ((s.applies.taken f).1 t, settles_trans a b c s q)
  take_after (Ok took.Taken) (n, t, l, st) = (new_before n, takes_before t, l, st)
  take_after (Ok took.Parked) (n, t, l, st) = (new_before n, takes_before t, l, st)
  take_after (Err untaken.NotAFiring) (e, q) = (subst (λ (job : JobParts). (own_of job).is_firing f ≡ false) s.applies.grows.job e, settles_trans a b c s q)
  take_after (Err untaken.Full) (i, n, e, q) = (
    subst (λ (job : JobParts). IsTrue ((own_of job).is_firing f)) s.applies.grows.job i,
    (λ t. n ((s.applies.taken f).0 t)),
    sym s.applies.count ∙ e ∙ s.applies.grows.limit,
    settles_trans a b c s q,
  )
  take_after (Err untaken.NoMemory) (inl u) = absurd (u.unsettled s.settled)
  take_after (Err untaken.NoMemory) (inr (n, inl p)) = inr (new_before n, inl (applies_trans a b c s.applies p))
  take_after (Err untaken.NoMemory) (inr (n, inr t)) = inr (new_before n, inr (takes_before t))

-- and what one answers that takes a list, and began with settling
module _ (a b c : State) (fs : FiringList) (s : Settles a b) where
  from_before : (P : JobParts → Type 0) → P b.job → P a.job
  from_before P p = subst P s.applies.grows.job p

  new_ones_before : (news : FiringList) → AreNew b fs news → AreNew a fs news
  new_ones_before news are = list_before a b fs news s.applies are

  fits_before : Fits b fs → Fits a fs
  fits_before (news, are, room) =
      let w = s.applies.count in
      let v = s.applies.grows.limit in
      (news, new_ones_before news are, omega (arith, room, w, v))

  too_long_before : IsTooLong b fs → IsTooLong a fs
  too_long_before (news, are, room) =
      let w = s.applies.count in
      let v = s.applies.grows.limit in
      (news, new_ones_before news are, omega (arith, room, w, v))

  pub take_all_after : (r : Result (Unit {0}) ListRefusal) → TakeAllAnswer b fs r c → TakeAllAnswer a fs r c
  take_all_after (Ok u) (all, fit, t, is) = (from_before (λ j. AreFirings j fs) all, fits_before fit, takes_after a b c fs s.applies t, is)
  take_all_after (Err (unlisted.NotAFiring place)) (other, q) = (from_before (λ j. IsFirstOther j fs place) other, settles_trans a b c s q)
  take_all_after (Err unlisted.Full) (all, long, q) = (from_before (λ j. AreFirings j fs) all, too_long_before long, settles_trans a b c s q)
  take_all_after (Err unlisted.NoMemory) (inl u) = absurd (u.unsettled s.settled)
  take_all_after (Err unlisted.NoMemory) (inr (all, fit, (k, l, t))) =
      inr (from_before (λ j. AreFirings j fs) all, fits_before fit, (k, l, takes_after a b c (take k fs) s.applies t))

  -- where nothing of the list is taken
  pub nothing_taken : AreFirings b.job fs → Fits b fs → TakeAllAnswer a fs (Err unlisted.NoMemory) b
  nothing_taken all fit =
      inr (from_before (λ j. AreFirings j fs) all, fits_before fit, (0, omega arith, takes_after a b b [] s.applies (takes_none b b (Applies-refl b))))
