-- Taking all that another machine took makes the least upper bound of the two.
use Rattle.std.proofs.Common.{inl, inr, subst, sym, ◌∙◌, ℕ, append-nil, List, [], ◌++◌, ◌⊎◌, ◌≡◌}
use Rattle.std.specs.Prelude.{Contains, Result, Ok, Err, IsTrue, true, false}
use Rattle.u_rule.specs.declared.entry.Entry.{Entry}
use Rattle.u_rule.specs.declared.firing.Firing.{Firing}
use Rattle.u_rule.specs.Rule.{own_of}
use Rattle.u_base.specs.Firing.{Same, Cl, Held, Derivation}
use Rattle.u_base.proofs.Held.{Held-start, Enabled-mono}
use Rattle.u_base.proofs.Closure.{Cl-mono, Cl-closed, Cl-least, Merge-union}
use Rattle.u_machine.specs.State.{State, Taken, IsSound, IsMachine}
use Rattle.u_machine.specs.Headline.{IsClosure, KeepsItsPromise}
use Rattle.u_machine.specs.Taking.{AreFirings, TakesAll, TakeAllAnswer, IsFirstOther}
use Rattle.u_machine.specs.declared.answer.ListRefusal.TheVariants as lists
use Rattle.u_machine.proofs.Lists.{slice_get_Contains}
use Rattle.u_replica.specs.declared.answer.MergeRefusal.TheVariants as merges
use Rattle.u_replica.specs.declared.answer.MergeRefusal.{MergeRefusal}
use Rattle.std.specs.Result.{IsErrAnd}
use Rattle.u_replica.specs.Merging.{all_of, IsTakenWithin, IsClosedUnder, LiesIn, IsAbove, IsLeastAbove, MergeAnswer}

-- where nothing is parked, the taken set is the log
taken_log : (m : State) → m.parked ≡ [] → Same (Taken m) (Contains m.log)
taken_log m none f = (
  λ t. subst (λ (fs : List Firing). Contains fs f) (append-nil m.log) (subst (λ (fs : List Firing). Contains (m.log ++ fs) f) none t),
  λ t. subst (λ (fs : List Firing). Contains (m.log ++ fs) f) (sym none) (subst (λ (fs : List Firing). Contains fs f) (sym (append-nil m.log)) t),
)

module _ (a b new : State) (p : IsSound a) (q : IsSound b) (c : IsClosure new) (same : b.job ≡ a.job) (t : TakesAll a (all_of b) new) where
  abbrev Has : Entry → Type 0
  Has e = Cl (own_of a.job) (Taken new) e

  history_is : Same (Contains new.history) Has
  history_is = rw t.grows.job at c

  right_lies : (e : Entry) → Contains b.history e → Cl (own_of a.job) (Taken b) e
  right_lies = rw same at q.lies

  right_run : Derivation (own_of a.job) b.log
  right_run = rw same at q.derivation

  right_has : (e : Entry) → Held (own_of a.job) b.log e → Contains b.history e
  right_has = rw same at q.has

  from_right : (f : Firing) → Taken b f → Taken new f
  from_right f k = (t.taken f).1 (inr k)

  left_in : LiesIn a.history new.history
  left_in = t.grows.history

  right_in : LiesIn b.history new.history
  right_in e k = (history_is e).1 (Cl-mono (own_of a.job) (Taken b) (Taken new) from_right e (right_lies e k))

  closed_in : IsClosedUnder a.job (Taken new) new.history
  closed_in f m en e g = (history_is e).1 (Cl-closed (own_of a.job) (Taken new) f m (Enabled-mono (own_of a.job) (Contains new.history) Has (λ e. (history_is e).0) f en) e g)

  least_in : (h : List Entry) → IsAbove a b (Taken new) h → LiesIn new.history h
  least_in h x e k = Cl-least (own_of a.job) (Taken new) (Contains h) (x.left (own_of a.job).start (p.has (own_of a.job).start (Held-start (own_of a.job) a.log))) x.closed e ((history_is e).0 k)

  together_in : a.parked ≡ [] → b.parked ≡ [] → Same (Contains new.history) (λ e. Contains a.history e ⊎ Contains b.history e)
  together_in x y e = (there, elim [ inl k ↦ left_in e k | inr k ↦ right_in e k ])
    where
      union : Cl (own_of a.job) (λ f. Taken a f ⊎ Taken b f) e → Held (own_of a.job) a.log e ⊎ Held (own_of a.job) b.log e
      union = (Merge-union (own_of a.job) (Taken a) (Taken b) a.log b.log p.derivation right_run (taken_log a x) (taken_log b y) e).0

      there : Contains new.history e → Contains a.history e ⊎ Contains b.history e
      there k =
          elim (union (Cl-mono (own_of a.job) (Taken new) (λ f. Taken a f ⊎ Taken b f) (λ f. (t.taken f).0) e ((history_is e).0 k)))
          [ inl h ↦ inl (p.has e h) | inr h ↦ inr (right_has e h) ]

  least_taken : (m : State) → IsTakenWithin a m → IsTakenWithin b m → IsTakenWithin new m
  least_taken m x y f k = elim ((t.taken f).0 k) [ inl u ↦ x f u | inr u ↦ y f u ]

  pub least_above : IsLeastAbove a b new
  least_above = record {
    union = t.taken;
    least = least_taken;
    above = record { left = left_in; right = right_in; closed = closed_in };
    history = least_in;
    together = together_in;
  }

-- what taking the list of the other's firings answers, as the answer of a merge

module _ (a b new : State) (p : IsMachine a) (q : IsMachine b) (same : b.job ≡ a.job) where
  pub merged : (fs : List Firing) (u : Unit {0}) → fs ≡ all_of b → IsMachine new → KeepsItsPromise new → TakeAllAnswer a fs (Ok u) new → MergeAnswer a b (Ok u) new
  merged fs u e r k t =
      let taken = subst (λ (fs : List Firing). TakeAllAnswer a fs (Ok u) new) e t in
      (same, taken.2, taken.3, least_above a b new p.sound q.sound (k.closure taken.3) same taken.2)

  -- each firing that the other took is one of the job
  pub none_other : (fs : List Firing) (place : ℕ) → fs ≡ all_of b → TakeAllAnswer a fs (Err (lists.NotAFiring place)) new → ⊥
  none_other fs place e t =
      let f : IsFirstOther a.job (all_of b) place = subst (λ (fs : List Firing). IsFirstOther a.job fs place) e t.0 in
      let is : IsTrue ((own_of a.job).is_firing f.other) = rw same at (q.sound.firings f.other (slice_get_Contains (all_of b) place f.other f.at)) in
      (let n : true ≡ false = sym is ∙ f.none in cc)

  pub merged_full : (fs : List Firing) → fs ≡ all_of b → TakeAllAnswer a fs (Err lists.Full) new → MergeAnswer a b (Err merges.Full) new
  merged_full fs e t =
      let taken = subst (λ (fs : List Firing). TakeAllAnswer a fs (Err lists.Full) new) e t in
      (same, taken.1, taken.2)

  pub merged_no_memory : (fs : List Firing) → fs ≡ all_of b → TakeAllAnswer a fs (Err lists.NoMemory) new → MergeAnswer a b (Err merges.NoMemory) new
  merged_no_memory fs e t = (same, subst (λ (fs : List Firing). TakeAllAnswer a fs (Err lists.NoMemory) new) e t)

  -- so where what an earlier call began could not be applied, or the other's firings could not be copied
  pub merge_refused : (r : Result (Unit {0}) MergeRefusal) → IsErrAnd r (λ e. e ≡ merges.NoMemory) → TakeAllAnswer a (all_of b) (Err lists.NoMemory) new → MergeAnswer a b r new
  merge_refused (Ok u) h t = absurd h
  merge_refused (Err e) h t = subst (λ e. MergeAnswer a b (Err e) new) (sym h) (same, t)

  -- what the other took are firings of the job
  pub are_firings : new.job ≡ a.job → AreFirings new.job (all_of b)
  are_firings e f k = rw (e ∙ sym same) (q.sound.firings f k)
