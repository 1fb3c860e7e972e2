-- How a state goes on.
use Rattle.std.proofs.Common.{◌≡◌, ℕ, ◌<◌, List, [], ◌++◌, ◌⊎◌, inl, inr, subst, sym, refl, length, arith, append-nil, append_assoc, ◌∙◌}
use Rattle.std.specs.Prelude.{Contains, Result, Ok, Err}
use Rattle.std.proofs.lemmas.List.Elements.{Contains-append_left, Contains-append_cases}
use Rattle.u_base.specs.Firing.{Held, Enabled, Cl, Whole, Same, Closed}
use Rattle.u_base.proofs.Held.{Enabled-mono}
use Rattle.u_base.proofs.Closure.{Cl-mono, Settled-is_Cl, Quiet-whole}
use Rattle.u_rule.specs.declared.entry.Entry.{Entry}
use Rattle.u_rule.specs.declared.firing.Firing.{Firing}
use Rattle.std.specs.Result.{IsErrAnd}
use Rattle.u_machine.specs.declared.answer.Refusal.{Refusal}
use Rattle.u_machine.specs.declared.answer.Refusal.TheVariants.{NoMemory}
use Rattle.u_machine.specs.declared.answer.Step.{Step}
use Rattle.u_rule.specs.Rule.{own_of}
use Rattle.u_machine.specs.State.{NothingReady, IsReady, AreReady, count_of, State, state, Taken, IsSound, IsSettled}
use Rattle.u_machine.specs.Headline.{IsWhole}
use Rattle.u_machine.specs.Calls.{FireAnswer, Grows, Takes, Applies}

pub grows_refl : (m : State) → Grows m m
grows_refl m = record { job = refl; limit = refl; log = ([], sym (append-nil m.log)); history = λ e k. k }

pub grows_trans : (a b c : State) → Grows a b → Grows b c → Grows a c
grows_trans a b c p q = record {
  job = q.job ∙ p.job;
  limit = q.limit ∙ p.limit;
  log = (p.log.0 ++ q.log.0, rw (q.log.1, p.log.1) (append_assoc a.log p.log.0 q.log.0));
  history = λ e k. q.history e (p.history e k);
}

-- the history gains entries, and nothing else changes
pub Applies-history : (m : State) (h : List Entry) → ((x : Entry) → Contains m.history x → Contains h x) → Applies m (state m.job m.limit m.log m.parked h)
Applies-history m h kept = record {
  grows = record { job = refl; limit = refl; log = ([], sym (append-nil m.log)); history = kept };
  taken = λ f. ((λ t. t), (λ t. t));
  count = refl;
}

pub applies_trans : (a b c : State) → Applies a b → Applies b c → Applies a c
applies_trans a b c p q = record {
  grows = grows_trans a b c p.grows q.grows;
  taken = λ f. ((λ t. (q.taken f).0 ((p.taken f).0 t)), (λ t. (p.taken f).1 ((q.taken f).1 t)));
  count = q.count ∙ p.count;
}

-- a settled machine holds the closure of its taken set
pub settled_is_Cl : (m : State) → IsSound m → IsSettled m → Same (Contains m.history) (Cl (own_of m.job) (Taken m)) × Same (Contains m.history) (Held (own_of m.job) m.log)
settled_is_Cl m is st = ((λ e. ((λ k. (held e).0 (st.held e k)), (λ k. is.has e ((held e).1 k)))), (λ e. (st.held e, is.has e)))
  where
    all : (f : Firing) → Taken m f → Enabled (own_of m.job) (Held (own_of m.job) m.log) f → Contains m.log f
    all f t en = elim (Contains-append_cases m.log m.parked f t) [ inl a ↦ a | inr b ↦ absurd (st.none f b (Enabled-mono (own_of m.job) (Held (own_of m.job) m.log) (Contains m.history) is.has f en)) ]

    held : Same (Held (own_of m.job) m.log) (Cl (own_of m.job) (Taken m))
    held = Settled-is_Cl (own_of m.job) (Taken m) m.log is.derivation (λ f a. Contains-append_left m.log m.parked f a) all

-- a taken firing stays the only new one where taken firings are applied before and after
pub takes_between : (a b c d : State) (f : Firing) → Applies a b → Takes b f c → Applies c d → Takes a f d
takes_between a b c d f p q r = record {
  grows = grows_trans a c d (grows_trans a b c p.grows q.grows) r.grows;
  taken = λ g. ((λ t. back g ((q.taken g).0 ((r.taken g).1 t))), (λ t. (r.taken g).0 ((q.taken g).1 (there g t))));
  count = let x = p.count in let y = q.count in let z = r.count in omega arith;
}
  where
    back : (g : Firing) → Taken b g ⊎ (f ≡ g) → Taken a g ⊎ (f ≡ g)
    back g (inl t) = inl ((p.taken g).1 t)
    back g (inr e) = inr e

    there : (g : Firing) → Taken a g ⊎ (f ≡ g) → Taken b g ⊎ (f ≡ g)
    there g (inl t) = inl ((p.taken g).0 t)
    there g (inr e) = inr e

pub Applies-refl : (m : State) → Applies m m
Applies-refl m = record { grows = grows_refl m; taken = λ f. ((λ t. t), (λ t. t)); count = refl }

module _ (a b : State) (f : Firing) (p : Applies a b) (new : Taken b f → ⊥) where
  pub not_taken : Taken a f → ⊥
  not_taken t = new ((p.taken f).0 t)

  pub room_before : count_of b < b.limit → count_of a < a.limit
  room_before h = let x = p.count in let y = p.grows.limit in omega arith

-- what is ready on a settled machine
module _ (m : State) (is : IsSound m) (st : IsSettled m) where
  pub over_history : (f : Firing) → Enabled (own_of m.job) (Cl (own_of m.job) (Taken m)) f → Enabled (own_of m.job) (Contains m.history) f
  over_history f = Enabled-mono (own_of m.job) (Cl (own_of m.job) (Taken m)) (Contains m.history) (λ e. ((settled_is_Cl m is st).0 e).1) f

  pub quiet_whole : NothingReady m → IsWhole m
  quiet_whole none = (closed, λ e. ((λ k. (whole e).0 (((settled_is_Cl m is st).1 e).0 k)), (λ w. ((settled_is_Cl m is st).1 e).1 ((whole e).1 w))))
    where
      held_in : (e : Entry) → Held (own_of m.job) m.log e → Contains m.history e
      held_in e = ((settled_is_Cl m is st).1 e).1

      all : (f : Firing) → Enabled (own_of m.job) (Contains m.history) f → Contains m.log f
      all f en =
          elim (Contains-append_cases m.log m.parked f (none f (Enabled-mono (own_of m.job) (Contains m.history) (Cl (own_of m.job) (Taken m)) (λ e. ((settled_is_Cl m is st).0 e).0) f en)))
          [ inl a ↦ a | inr b ↦ absurd (st.none f b en) ]

      whole : Same (Held (own_of m.job) m.log) (Whole (own_of m.job))
      whole = Quiet-whole (own_of m.job) m.log is.derivation (λ f en. all f (Enabled-mono (own_of m.job) (Held (own_of m.job) m.log) (Contains m.history) held_in f en))

      closed : Closed (own_of m.job) (Contains m.history)
      closed f en e g = held_in e (inr (f, all f en, g))

module _ (a b : State) (p : Applies a b) where
  enabled_before : (f : Firing) → Enabled (own_of b.job) (Cl (own_of b.job) (Taken b)) f → Enabled (own_of a.job) (Cl (own_of a.job) (Taken a)) f
  enabled_before f en =
      rw (← p.grows.job) (Enabled-mono (own_of b.job) (Cl (own_of b.job) (Taken b)) (Cl (own_of b.job) (Taken a)) (Cl-mono (own_of b.job) (Taken b) (Taken a) (λ g. (p.taken g).1)) f en)

  enabled_after : (f : Firing) → Enabled (own_of a.job) (Cl (own_of a.job) (Taken a)) f → Enabled (own_of b.job) (Cl (own_of b.job) (Taken b)) f
  enabled_after f en =
      rw p.grows.job (Enabled-mono (own_of a.job) (Cl (own_of a.job) (Taken a)) (Cl (own_of a.job) (Taken b)) (Cl-mono (own_of a.job) (Taken a) (Taken b) (λ g. (p.taken g).0)) f en)

  pub ready_before : (f : Firing) → IsReady b f → IsReady a f
  ready_before f r = (enabled_before f r.0, λ t. r.1 ((p.taken f).0 t))

  pub are_ready_before : (fs : List Firing) → AreReady b fs → AreReady a fs
  are_ready_before fs r =
      ((λ f k. ready_before f (r.0 f k)), (λ f en. elim (r.1 f (enabled_after f en)) [ inl k ↦ inl k | inr t ↦ inr ((p.taken f).1 t) ]), r.2)

  pub ready_after : (f : Firing) → IsReady a f → IsReady b f
  ready_after f r = (enabled_after f r.0, λ t. r.1 ((p.taken f).1 t))

  pub nothing_after : NothingReady a → NothingReady b
  nothing_after n f en = (p.taken f).0 (n f (enabled_before f en))

  pub nothing_before : NothingReady b → NothingReady a
  nothing_before n f en = (p.taken f).1 (n f (enabled_after f en))

pub nothing_ready : (m : State) (fs : List Firing) → AreReady m fs → length fs ≡ 0 → NothingReady m
nothing_ready m fs r e f en = elim (r.1 f en) [ inl k ↦ absurd (let l = k.1 in omega arith) | inr t ↦ t ]

pub fire_no_memory : (old new : State) (pick : ℕ) (r : Result Step Refusal) → IsErrAnd r (λ e. e ≡ NoMemory) → FireAnswer old pick (Err NoMemory) new → FireAnswer old pick r new
fire_no_memory old new pick (Ok t) h w = absurd h
fire_no_memory old new pick (Err e) h w = subst (λ (x : Refusal). FireAnswer old pick (Err x) new) (sym h) w
