-- The steps by which a machine goes on, on its log.
use Rattle.std.proofs.Common.{◌≡◌, ℕ, ◌+◌, ◌<◌, [], ◌∷◌, ◌++◌, ◌⊎◌, inl, inr, subst, sym, refl, length, take, drop, get_or, arith, append-nil, ap, ◌∙◌, length-append}
use Rattle.std.specs.Prelude.{Contains, ◌↔◌, IsTrue}
use Rattle.std.proofs.lemmas.List.{take_more, drop_more, take-append-le, take-append-drop, drop-append-le, take_all, drop_all, length-take, length-drop}
use Rattle.std.proofs.lemmas.List.Elements.{Contains-append_left, Contains-append_right, Contains-append_cases, Contains-push, Contains-push_cases}
use Rattle.u_base.proofs.Apart.{Distinct-push, Distinct-left, Distinct-apart}
use Rattle.u_base.proofs.Member.{Contains-nil, Contains-head, Contains-tail}
use Rattle.u_base.specs.Firing.{Held, Enabled, Cl, Distinct}
use Rattle.u_sets.specs.Rising.{Rises}
use Rattle.u_sets.specs.Members.{IsWith, IsWithout}
use Rattle.u_base.proofs.Held.{Held-push, Held-append_left, Enabled-mono}
use Rattle.u_base.proofs.Closure.{Cl-held, Cl-mono, Derivation-push}
use Rattle.u_check.specs.Jobs.{JobParts}
use Rattle.u_rule.specs.declared.entry.Entry.{Entry}
use Rattle.u_rule.specs.declared.firing.Firing.{Firing}
use Rattle.u_rule.specs.Rule.{own_of}
use Rattle.u_rule.specs.EntryOrder.{FiringList, EntryList, firing_cmp}
use Rattle.u_rule.specs.ExactOrders.{firing_cmp_total}
use Rattle.u_machine.specs.State.{state}
use Rattle.u_machine.specs.Calls.{Applies, Takes}
use Rattle.u_machine.specs.Invariant.{IsLogged}
use Rattle.u_machine.proofs.Counting.{all_there}
use Rattle.u_machine.proofs.Lists.{Contains-taken, Contains-dropped, slice_get_at}
use Rattle.u_machine.proofs.Once.{Distinct-join, Distinct-right, Distinct-from_Rises}

module _ (job : JobParts) (limit : ℕ) (log : FiringList) (applied_count : ℕ) (parked : FiringList) (history : EntryList) (l : IsLogged job limit log applied_count parked history) where
  -- the firings of the log were taken
  pub log_taken : (f : Firing) → Contains log f → Contains (take applied_count log ++ parked) f
  log_taken f m =
      elim (Contains-append_cases (take applied_count log) (drop applied_count log) f (rw take-append-drop m))
      [ inl a ↦ Contains-append_left (take applied_count log) parked f a | inr b ↦ Contains-append_right (take applied_count log) parked f (l.begun f b) ]

  pub held_in : (e : Entry) → Held (own_of job) log e → Cl (own_of job) (Contains (take applied_count log ++ parked)) e
  held_in e h = Cl-held (own_of job) (Contains (take applied_count log ++ parked)) log l.derivation log_taken e h

  -- an entry enters that a firing of the log gives
  pub entered : (f : Firing) (e : Entry) (new : EntryList) → Contains log f → Contains ((own_of job).gives f) e → IsWith history e new → IsLogged job limit log applied_count parked new
  entered f e new m g w = record {
    is = record {
      firings = l.is.firings;
      derivation = l.is.derivation;
      distinct = l.is.distinct;
      within = l.is.within;
      has = λ x h. (w x).1 (inl (l.is.has x h));
      lies = λ x k. held_in x (lies x ((w x).0 k));
    };
    place = l.place;
    derivation = l.derivation;
    apart = l.apart;
    begun = l.begun;
    lies = λ x k. lies x ((w x).0 k);
  }
    where
      lies : (x : Entry) → Contains history x ⊎ (e ≡ x) → Held (own_of job) log x
      lies x (inl k) = l.lies x k
      lies x (inr p) = subst (Held (own_of job) log) p (inr (f, m, g))

  -- a parked firing that is enabled goes to the end of the log
  pub begins : (f : Firing) → Contains parked f → (Contains log f → ⊥) → Enabled (own_of job) (Contains history) f → IsLogged job limit (log ++ f ∷ []) applied_count parked history
  begins f k new en = record {
    is = rw shorter l.is;
    place = let a = length-append log (f ∷ []) in let b = l.place in omega arith;
    derivation = Derivation-push (own_of job) log f l.derivation (Enabled-mono (own_of job) (Contains history) (Held (own_of job) log) l.lies f en);
    apart = Distinct-push log f new l.apart;
    begun = λ g m. elim (Contains-push_cases (drop applied_count log) f g (rw (drop-append-le applied_count log (f ∷ []) l.place) at m)) [ inl a ↦ l.begun g a | inr p ↦ subst (λ (h : Firing). Contains parked h) p k ];
    lies = λ e h. Held-append_left (own_of job) log (f ∷ []) e (l.lies e h);
  }
    where
      shorter : take applied_count (log ++ f ∷ []) ≡ take applied_count log
      shorter = take-append-le applied_count log (f ∷ []) l.place

  -- the taken firings have one more
  pub taken_more : (f : Firing) (parked_new : FiringList) → IsWith parked f parked_new → IsWith (take applied_count log ++ parked) f (take applied_count log ++ parked_new)
  taken_more f parked_new p g = (to, back)
    where
      to : Contains (take applied_count log ++ parked_new) g → Contains (take applied_count log ++ parked) g ⊎ (f ≡ g)
      to m =
          elim (Contains-append_cases (take applied_count log) parked_new g m) [
            | inl a ↦ inl (Contains-append_left (take applied_count log) parked g a)
            | inr b ↦ elim ((p g).0 b) [ inl k ↦ inl (Contains-append_right (take applied_count log) parked g k) | inr e ↦ inr e ]
          ]

      back : Contains (take applied_count log ++ parked) g ⊎ (f ≡ g) → Contains (take applied_count log ++ parked_new) g
      back (inl m) =
          elim (Contains-append_cases (take applied_count log) parked g m)
          [ inl a ↦ Contains-append_left (take applied_count log) parked_new g a | inr b ↦ Contains-append_right (take applied_count log) parked_new g ((p g).1 (inl b)) ]
      back (inr e) = Contains-append_right (take applied_count log) parked_new g ((p g).1 (inr e))

  -- a firing is taken and parked
  pub parks : (f : Firing) (parked_new : FiringList) → (Contains (take applied_count log ++ parked) f → ⊥) → IsTrue ((own_of job).is_firing f) → length (take applied_count log) + length parked < limit → IsWith parked f parked_new → Rises firing_cmp parked_new → length parked_new ≡ length parked + 1 → IsLogged job limit log applied_count parked_new history
  parks f parked_new new is room p r count = record {
    is = record {
      firings = λ g m. firing g ((taken_more f parked_new p g).0 m);
      derivation = l.is.derivation;
      distinct = Distinct-join (take applied_count log) parked_new (Distinct-left (take applied_count log) parked l.is.distinct) (Distinct-from_Rises firing_cmp firing_cmp_total parked_new r) apart;
      within = omega (arith, room, count);
      has = l.is.has;
      lies = λ e k. Cl-mono (own_of job) (Contains (take applied_count log ++ parked)) (Contains (take applied_count log ++ parked_new)) (λ g m. (taken_more f parked_new p g).1 (inl m)) e (l.is.lies e k);
    };
    place = l.place;
    derivation = l.derivation;
    apart = l.apart;
    begun = λ g m. (p g).1 (inl (l.begun g m));
    lies = l.lies;
  }
    where
      firing : (g : Firing) → Contains (take applied_count log ++ parked) g ⊎ (f ≡ g) → IsTrue ((own_of job).is_firing g)
      firing g (inl m) = l.is.firings g m
      firing g (inr e) = subst (λ (h : Firing). IsTrue ((own_of job).is_firing h)) e is

      apart : (g : Firing) → Contains (take applied_count log) g → Contains parked_new g → ⊥
      apart g a b =
          elim ((p g).0 b)
          [ inl k ↦ Distinct-apart (take applied_count log) parked g l.is.distinct a k | inr e ↦ new (subst (λ (h : Firing). Contains (take applied_count log ++ parked) h) (sym e) (Contains-append_left (take applied_count log) parked g a)) ]

  pub parks_takes : (f : Firing) (parked_new : FiringList) → IsWith parked f parked_new → length parked_new ≡ length parked + 1 → Takes (state job limit (take applied_count log) parked history) f (state job limit (take applied_count log) parked_new history)
  parks_takes f parked_new p count = record {
    grows = record { job = refl; limit = refl; log = ([], sym (append-nil (take applied_count log))); history = λ e k. k };
    taken = taken_more f parked_new p;
    count = omega (arith, count);
  }

  -- the firing that was being applied is applied
  module _ (f : Firing) (less : FiringList) (below : applied_count < length log) (at : f ≡ get_or log applied_count f) (w : IsWithout parked f less) where
    longer : take (applied_count + 1) log ≡ take applied_count log ++ f ∷ []
    longer = take_more log applied_count f below ∙ ap (λ (g : Firing). take applied_count log ++ g ∷ []) (sym at)

    rest : drop applied_count log ≡ f ∷ drop (applied_count + 1) log
    rest = drop_more log applied_count f below ∙ ap (λ (g : Firing). g ∷ drop (applied_count + 1) log) (sym at)

    pub was_parked : Contains parked f
    was_parked = l.begun f (rw rest (Contains-head f (drop (applied_count + 1) log)))

    pub taken_still : (g : Firing) → Contains (take applied_count log ++ parked) g ↔ Contains (take (applied_count + 1) log ++ less) g
    taken_still g = (to, back)
      where
        first : Contains (take applied_count log) g → Contains (take (applied_count + 1) log ++ less) g
        first a = rw longer (Contains-append_left (take applied_count log ++ f ∷ []) less g (Contains-append_left (take applied_count log) (f ∷ []) g a))

        to : Contains (take applied_count log ++ parked) g → Contains (take (applied_count + 1) log ++ less) g
        to m =
            elim (Contains-append_cases (take applied_count log) parked g m) [
              | inl a ↦ first a
              | inr b ↦ elim (w.rest g b) [
                | inl e ↦ rw longer (Contains-append_left (take applied_count log ++ f ∷ []) less g (subst (λ (h : Firing). Contains (take applied_count log ++ f ∷ []) h) e (Contains-push (take applied_count log) f)))
                | inr k ↦ Contains-append_right (take (applied_count + 1) log) less g k
              ]
            ]

        back : Contains (take (applied_count + 1) log ++ less) g → Contains (take applied_count log ++ parked) g
        back m =
            elim (Contains-append_cases (take (applied_count + 1) log) less g m) [
              | inl a ↦ elim (Contains-push_cases (take applied_count log) f g (rw longer at a)) [
                | inl k ↦ Contains-append_left (take applied_count log) parked g k
                | inr e ↦ Contains-append_right (take applied_count log) parked g (subst (λ (h : Firing). Contains parked h) e was_parked)
              ]
              | inr b ↦ Contains-append_right (take applied_count log) parked g (w.less g b)
            ]

    pub applied_more : length parked ≡ length less + 1 → Applies (state job limit (take applied_count log) parked history) (state job limit (take (applied_count + 1) log) less history)
    applied_more count = record {
      grows = record { job = refl; limit = refl; log = (f ∷ [], longer); history = λ e k. k };
      taken = taken_still;
      count = let a = length-append (take applied_count log) (f ∷ []) in let b = ap length longer in omega (arith, count);
    }

    pub applied : Rises firing_cmp less → length parked ≡ length less + 1 → ((e : Entry) → Contains ((own_of job).gives f) e → Contains history e) → IsLogged job limit log (applied_count + 1) less history
    applied r count all = record {
      is = record {
        firings = λ g m. l.is.firings g ((taken_still g).1 m);
        derivation = rw longer (Derivation-push (own_of job) (take applied_count log) f l.is.derivation (l.derivation.each applied_count f (slice_get_at log applied_count f below at)));
        distinct = Distinct-join (take (applied_count + 1) log) less (Distinct-left (take (applied_count + 1) log) (drop (applied_count + 1) log) (rw take-append-drop l.apart)) (Distinct-from_Rises firing_cmp firing_cmp_total less r) apart;
        within = let a = length-append (take applied_count log) (f ∷ []) in let b = ap length longer in let c = l.is.within in omega (arith, count);
        has = λ e h. has e ((Held-push (own_of job) (take applied_count log) f e).0 (rw longer at h));
        lies = λ e k. Cl-mono (own_of job) (Contains (take applied_count log ++ parked)) (Contains (take (applied_count + 1) log ++ less)) (λ g. (taken_still g).0) e (l.is.lies e k);
      };
      place = omega (arith, below);
      derivation = l.derivation;
      apart = l.apart;
      begun = λ g m. elim (w.rest g (l.begun g (rw rest (Contains-tail f g (drop (applied_count + 1) log) m)))) [ inl e ↦ absurd (later g e m) | inr k ↦ k ];
      lies = l.lies;
    }
      where
        has : (e : Entry) → Held (own_of job) (take applied_count log) e ⊎ Contains ((own_of job).gives f) e → Contains history e
        has e (inl h) = l.is.has e h
        has e (inr g) = all e g

        apart : (g : Firing) → Contains (take (applied_count + 1) log) g → Contains less g → ⊥
        apart g a b =
            elim (Contains-push_cases (take applied_count log) f g (rw longer at a))
            [ inl k ↦ Distinct-apart (take applied_count log) parked g l.is.distinct k (w.less g b) | inr e ↦ w.gone (subst (λ (h : Firing). Contains less h) (sym e) b) ]

        behind : Distinct (f ∷ drop (applied_count + 1) log)
        behind = rw rest at (Distinct-right (take applied_count log) (drop applied_count log) (rw take-append-drop l.apart))

        later : (g : Firing) → f ≡ g → Contains (drop (applied_count + 1) log) g → ⊥
        later g e m = behind.0 (subst (λ (h : Firing). Contains (drop (applied_count + 1) log) h) (sym e) m)

  -- all firings of the log were being applied, and are applied; no others were parked
  module _ (none : applied_count + length parked ≡ length log) where
    behind_apart : Distinct (drop applied_count log)
    behind_apart = Distinct-right (take applied_count log) (drop applied_count log) (rw take-append-drop l.apart)

    logged : (g : Firing) → Contains (take applied_count log ++ parked) g → Contains log g
    logged g m =
        elim (Contains-append_cases (take applied_count log) parked g m) [
          | inl a ↦ Contains-taken applied_count log g a
          | inr b ↦ Contains-dropped applied_count log g (let e = length-drop applied_count log in all_there (drop applied_count log) parked behind_apart l.begun (omega (arith, none)) g b)
        ]

    all_of : take (length log) log ++ [] ≡ log
    all_of = append-nil (take (length log) log) ∙ take_all (length log) log (omega arith)

    pub all_taken_still : (g : Firing) → Contains (take applied_count log ++ parked) g ↔ Contains (take (length log) log ++ []) g
    all_taken_still g = ((λ m. rw all_of (logged g m)), λ m. log_taken g (rw all_of at m))

    pub all_applied_more : Applies (state job limit (take applied_count log) parked history) (state job limit (take (length log) log) [] history)
    all_applied_more = record {
      grows = record { job = refl; limit = refl; log = (drop applied_count log, take_all (length log) log (omega arith) ∙ sym (take-append-drop applied_count log)); history = λ e k. k };
      taken = all_taken_still;
      count = let a = length-take (length log) log in let b = length-take applied_count log in let c = l.place in omega (arith, none);
    }

    pub all_applied : ((e : Entry) → Held (own_of job) log e → Contains history e) → IsLogged job limit log (length log) [] history
    all_applied all = record {
      is = record {
        firings = λ g m. l.is.firings g ((all_taken_still g).1 m);
        derivation = rw (take_all (length log) log (omega arith)) l.derivation;
        distinct = rw all_of l.apart;
        within = let a = length-take (length log) log in let b = length-take applied_count log in let c = l.place in let w = l.is.within in omega (arith, none);
        has = λ e h. all e (rw (take_all (length log) log (omega arith)) at h);
        lies = λ e k. Cl-mono (own_of job) (Contains (take applied_count log ++ parked)) (Contains (take (length log) log ++ [])) (λ g. (all_taken_still g).0) e (l.is.lies e k);
      };
      place = omega arith;
      derivation = l.derivation;
      apart = l.apart;
      begun = λ g m. absurd (Contains-nil g (rw (drop_all (length log) log (omega arith)) at m));
      lies = l.lies;
    }
