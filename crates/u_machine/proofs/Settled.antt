-- When a machine is settled, and what is ready then.
use Rattle.std.proofs.Common.{◌≡◌, ◌<◌, ◌≤◌, ◌+◌, ◌-◌, ◌⊎◌, inl, inr, refl, length, take, drop, subst, arith, [], ℕ, get_or, ap, ◌∷◌, length-take, Bool, true, false}
use Rattle.std.specs.Prelude.{Contains, ◌↔◌}
use Rattle.std.proofs.lemmas.List.{take_all, drop_more, length-drop, take-append-drop}
use Rattle.std.proofs.lemmas.List.Elements.{Contains-get_or, Contains-append_left, Contains-append_right, Contains-append_cases}
use Rattle.u_base.specs.Firing.{Distinct, Held, Enabled, Cl, Same}
use Rattle.u_sets.specs.Rising.{Rises, in_order}
use Rattle.u_sets.proofs.Listed.{members, rises}
use Rattle.u_base.proofs.Apart.{Distinct-apart}
use Rattle.u_base.proofs.Held.{Enabled-mono}
use Rattle.u_base.proofs.Member.{Contains-nil, Contains-head, Contains-cons_cases}
use Rattle.u_rule.specs.declared.entry.Entry.{Entry}
use Rattle.u_rule.specs.declared.firing.Firing.{Firing}
use Rattle.u_rule.specs.Rule.{own_of}
use Rattle.u_rule.specs.EntryOrder.{firing_cmp, FiringList, EntryList}
use Rattle.u_machine.proofs.Lists.{Contains-taken, Contains-dropped, le_split, place_behind}
use Rattle.u_machine.proofs.Counting.{no_more, Distinct-right}
use Rattle.u_machine.specs.declared.parts.Parts.{Parts}
use Rattle.u_machine.specs.State.{IsSettled, IsReady, AreReady, Taken}
use Rattle.u_machine.specs.Calls.{Applies, Settles, StaysUnsettled}
use Rattle.u_machine.specs.Invariant.{Invariant, IsPartitioned, EnteredBefore, NeedsNoLate, state_of, woken_of, parked_of}
use Rattle.u_check.specs.Jobs.{JobParts}
use Rattle.u_machine.proofs.Blank.{blank_firing}
use Rattle.u_machine.proofs.States.{settled_is_Cl, over_history, Applies-refl}
use Rattle.u_machine.proofs.Steps.{log_taken}
use Rattle.u_machine.proofs.LateTokens.{made_is_ready, ready_is_made}
use Rattle.u_rule.specs.ExactOrders.{firing_cmp_total, firing_cmp_ties}

module _ (p : Parts) (k : Invariant p) where
  module _ (st : p.applied_count ≡ length p.log.items) where
    whole : take p.applied_count p.log.items ≡ p.log.items
    whole = take_all p.applied_count p.log.items (omega (arith, st))

    -- each firing that is enabled over the history is ready or applied
    pub each_enabled : (f : Firing) → Enabled (own_of p.job.now) (Contains p.matcher) f → Contains k.all_ready f ⊎ Contains (take p.applied_count p.log.items) f
    each_enabled f en = over (k.partitioned.all f en)
      where
        over : Contains k.all_ready f ⊎ Contains p.log.items f ⊎ Contains (woken_of p) f → Contains k.all_ready f ⊎ Contains (take p.applied_count p.log.items) f
        over (inl a) = inl a
        over (inr (inl b)) = inr (rw whole b)
        over (inr (inr c)) = absurd (Contains-nil f (rw (k.idle st) at c))

    not_taken : (f : Firing) → Contains k.all_ready f → Taken (state_of p) f → ⊥
    not_taken f m = (k.partitioned.fit f m).1

    pub settled_there : IsSettled (state_of p)
    settled_there = record {
      held = λ e h. rw whole (k.logged.lies e h);
      none = λ f m en. elim (each_enabled f en) [ inl a ↦ not_taken f a (Contains-append_right (take p.applied_count p.log.items) (parked_of p) f m) | inr b ↦ Distinct-apart (take p.applied_count p.log.items) (parked_of p) f k.logged.is.distinct b m ];
    }

    -- all that is ready, made or not, is ready
    pub is_ready_there : (f : Firing) → Contains k.all_ready f → IsReady (state_of p) f
    is_ready_there f m = (Enabled-mono (own_of p.job.now) (Contains p.matcher) (Cl (own_of p.job.now) (Taken (state_of p))) (λ e. ((settled_is_Cl (state_of p) k.logged.is settled_there).0 e).0) f (k.partitioned.fit f m).0, not_taken f m)

    pub ready_is_there : (f : Firing) → Enabled (own_of p.job.now) (Cl (own_of p.job.now) (Taken (state_of p))) f → Contains k.all_ready f ⊎ Taken (state_of p) f
    ready_is_there f en = elim (each_enabled f (over_history (state_of p) k.logged.is settled_there f en)) [ inl a ↦ inl a | inr b ↦ inr (Contains-append_left (take p.applied_count p.log.items) (parked_of p) f b) ]

    -- a list of them in order
    kept_list : (rs : FiringList) → Same (Contains rs) (Contains k.all_ready) → Rises firing_cmp rs → AreReady (state_of p) rs
    kept_list rs same r = (
      (λ f m. is_ready_there f ((same f).0 m)),
      (λ f en. elim (ready_is_there f en) [ inl a ↦ inl ((same f).1 a) | inr t ↦ inr t ]),
      r,
    )

    -- all that is ready, in order
    pub kept_in_order : AreReady (state_of p) (in_order firing_cmp k.all_ready)
    kept_in_order = kept_list (in_order firing_cmp k.all_ready) (members firing_cmp firing_cmp_total firing_cmp_ties k.all_ready) (rises firing_cmp firing_cmp_total firing_cmp_ties k.all_ready)

    -- where no token is late, the ready firings that were made
    pub kept_ready : p.late ≡ [] → Rises firing_cmp p.ready → AreReady (state_of p) p.ready
    kept_ready made r = kept_list p.ready (ready_is_made _ _ _ _ _ _ _ k.late (k.idle st) made) r

  -- a firing that is being applied keeps the machine from being settled
  pub settled_back : IsSettled (state_of p) → p.applied_count ≡ length p.log.items
  settled_back st = elim (le_split p.applied_count (length p.log.items) k.logged.place) [ inl e ↦ e | inr l ↦ absurd (at l) ]
    where
      at : p.applied_count < length p.log.items → ⊥
      at l =
          let f = get_or p.log.items p.applied_count blank_firing in
          st.none f (k.logged.begun f (rw (drop_more p.log.items p.applied_count blank_firing l) (Contains-head f _)))
          (k.partitioned.logged f (Contains-get_or p.log.items p.applied_count blank_firing l))

-- what `settle` leaves
module _ (p q : Parts) (kp : Invariant p) (ap_pq : Applies (state_of p) (state_of q)) where
  pub settles : {X : Type 0} → Invariant q → q.applied_count ≡ length q.log.items → (p.applied_count ≡ length p.log.items → X × (q ≡ p)) → Settles (state_of p) (state_of q)
  settles kq applied still = record {
    applies = ap_pq;
    settled = settled_there q kq applied;
    still = λ st. ap state_of (still (settled_back p kp st)).1;
  }

  pub stays_unsettled : (IsSettled (state_of p) → ⊥) → StaysUnsettled (state_of p) (state_of q)
  stays_unsettled un = record { applies = ap_pq; unsettled = un }

-- the next firing that is sorted out isn't in the log, so it is parked where it was taken
module _ (p : Parts) (k : Invariant p) (f : Firing) (rest : FiringList) (next : woken_of p ≡ f ∷ rest) where
  pub woken_first : Contains (woken_of p) f
  woken_first = rw next (Contains-head f rest)

  pub not_logged : Contains p.log.items f → ⊥
  not_logged = (k.partitioned.neither f woken_first).2

  pub parked_first : Taken (state_of p) f → Contains (parked_of p) f
  parked_first t =
      elim (Contains-append_cases (take p.applied_count p.log.items) (parked_of p) f t)
      [ inl a ↦ absurd (not_logged (Contains-taken p.applied_count p.log.items f a)) | inr b ↦ b ]

  pub enabled_first : Enabled (own_of p.job.now) (Contains p.matcher) f
  enabled_first = (k.partitioned.neither f woken_first).0

  pub not_idle : woken_of p ≡ [] → ⊥
  not_idle e = Contains-nil f (rw e at woken_first)

-- what has all that it needs, and is not ready and not to be sorted out, is in the log, and the log has nothing else
pub begun_if : (p : Parts) → Invariant p → (f : Firing) → Contains p.log.items f ↔ (Enabled (own_of p.job.now) (Contains p.matcher) f × (Contains p.ready f → ⊥) × (Contains (woken_of p) f → ⊥) × NeedsNoLate p f)
begun_if p k f = (to, back)
  where
    to : Contains p.log.items f → Enabled (own_of p.job.now) (Contains p.matcher) f × (Contains p.ready f → ⊥) × (Contains (woken_of p) f → ⊥) × NeedsNoLate p f
    to m =
        let en = k.partitioned.logged f m in
        let t = log_taken _ _ _ _ _ _ k.logged f m in
        (en, (λ r. (k.partitioned.fit f (made_is_ready _ _ _ _ _ _ _ k.late f r)).1 t), (λ w. (k.partitioned.neither f w).2 m), λ e i n. k.late.untaken f (e, i, (n, en)) t)

    back : Enabled (own_of p.job.now) (Contains p.matcher) f × (Contains p.ready f → ⊥) × (Contains (woken_of p) f → ⊥) × NeedsNoLate p f → Contains p.log.items f
    back (en, unready, unwoken, free) = elim (k.partitioned.all f en) [
      | inl r ↦ elim ((k.late.whole f).0 r).0 [ inl m ↦ absurd (unready m) | inr (e, i, w) ↦ absurd (free e i w.0) ]
      | inr s ↦ elim s [ inl m ↦ m | inr w ↦ absurd (unwoken w) ]
    ]

-- the set of taken firings in another order of changes
pub same_taken : (job : JobParts) (log taken more ready woken : FiringList) (history : EntryList) → Same (Contains more) (Contains taken) → IsPartitioned job log taken ready woken history → IsPartitioned job log more ready woken history
same_taken job log taken more ready woken history e s = record { logged = s.logged; fit = λ f m. ((s.fit f m).0, λ t. (s.fit f m).1 ((e f).0 t)); neither = s.neither; once = s.once; all = s.all }

pub not_both : (b : Bool) → b ≡ true → b ≡ false → ⊥
not_both true p q = cc
not_both false p q = cc

-- where no more are parked than are being applied, no firing that was woken is parked
pub no_woken_parked : (p : Parts) → Invariant p → (f : Firing) → Contains (woken_of p) f → length (parked_of p) ≤ length p.log.items - p.applied_count → Contains (parked_of p) f → ⊥
no_woken_parked p k f woken few m = absurd (omega (arith, more, few, length-drop p.applied_count p.log.items))
  where
    begun : FiringList
    begun = drop p.applied_count p.log.items

    apart : Distinct begun
    apart = Distinct-right (take p.applied_count p.log.items) begun (rw take-append-drop k.logged.apart)

    other : Contains begun f → ⊥
    other b = (k.partitioned.neither f woken).2 (Contains-dropped p.applied_count p.log.items f b)

    all : (g : Firing) → Contains (f ∷ begun) g → Contains (parked_of p) g
    all g h = elim (Contains-cons_cases f g begun h) [ inl e ↦ subst (λ (x : Firing). Contains (parked_of p) x) e m | inr b ↦ k.logged.begun g b ]

    more : length (f ∷ begun) ≤ length (parked_of p)
    more = no_more (f ∷ begun) (parked_of p) (other, apart) all

-- the firing that is being applied is parked
pub parked_next : (p : Parts) → Invariant p → (f : Firing) → p.applied_count < length p.log.items → f ≡ get_or p.log.items p.applied_count f → Contains (parked_of p) f
parked_next p k f below at =
    k.logged.begun f (rw (drop_more p.log.items p.applied_count f below) (subst (λ (g : Firing). Contains (g ∷ drop (p.applied_count + 1) p.log.items) f) at (Contains-head f (drop (p.applied_count + 1) p.log.items))))

-- a settled machine is what settling makes of it
pub settles_itself : (p : Parts) → Invariant p → p.applied_count ≡ length p.log.items → Settles (state_of p) (state_of p)
settles_itself p k st = record { applies = Applies-refl (state_of p); settled = settled_there p k st; still = λ _. refl }

-- where all has entered that the begun firings give, the history has all that the log holds
pub all_held : (p : Parts) → Invariant p → EnteredBefore p (length p.log.items) → (e : Entry) → Held (own_of p.job.now) p.log.items e → Contains p.matcher e
all_held p k all e (inl s) = k.logged.is.has e (inl s)
all_held p k all e (inr (f, m, g)) = at (Contains-append_cases (take p.applied_count p.log.items) (drop p.applied_count p.log.items) f (rw take-append-drop m))
  where
    at : Contains (take p.applied_count p.log.items) f ⊎ Contains (drop p.applied_count p.log.items) f → Contains p.matcher e
    at (inl a) = k.logged.is.has e (inr (f, a, g))
    at (inr b) = let (i, from, below, there) = place_behind p.log.items p.applied_count f b in all i from below f there e g

-- the firings that are being applied are parked, so that there are at least as many parked
pub begun_parked : (p : Parts) → Invariant p → length p.log.items ≤ p.applied_count + length (parked_of p)
begun_parked p k =
    let behind = drop p.applied_count p.log.items in
    let n = no_more behind (parked_of p) (Distinct-right (take p.applied_count p.log.items) behind (rw take-append-drop k.logged.apart)) k.logged.begun in
    let e = length-drop p.applied_count p.log.items in
    omega (arith, n)

-- where no more are parked than stand there before a place of the log, it is the end of the log
pub ends_there : (p : Parts) → Invariant p → (place : ℕ) → p.applied_count ≤ place → place ≤ length p.log.items → length (parked_of p) ≡ place - p.applied_count → place ≡ length p.log.items
ends_there p k place from to few = let b = begun_parked p k in omega (arith, b, from, to, few)

-- the log has no more than may be taken
pub log_within : (p : Parts) → Invariant p → length p.log.items ≤ p.limit
log_within p k =
    let b = begun_parked p k in
    let t = length-take p.applied_count p.log.items in
    let w = k.logged.is.within in
    let d = k.logged.place in
    omega (arith, b)
