-- A new machine.
use Rattle.std.proofs.Common.{◌≡◌, ◌↔◌, inl, inr, sym, subst, arith, ℕ, [], ◌∷◌}
use Rattle.std.specs.Prelude.{Contains}
use Rattle.u_check.specs.Jobs.{JobParts}
use Rattle.u_rule.specs.Rule.{own_of}
use Rattle.u_rule.specs.EntryOrder.{entry_cmp, EntryList, FiringList}
use Rattle.u_rule.specs.ExactOrders.{entry_cmp_total}
use Rattle.u_rule.specs.declared.entry.Entry.{Entry}
use Rattle.u_rule.specs.declared.firing.Firing.{Firing}
use Rattle.u_sets.specs.Rising.{Rises}
use Rattle.u_sets.specs.Members.{IsWith}
use Rattle.u_base.specs.Firing.{Same, Held, Enabled, Cl}
use Rattle.u_base.proofs.Member.{Contains-nil, Contains-head, Contains-cons_cases}
use Rattle.u_sets.proofs.Places.{one_list}
use Rattle.u_base.proofs.Held.{Held-start, Held-nil}
use Rattle.u_base.proofs.Closure.{Derivation-nil, Cl-start}
use Rattle.u_machine.specs.State.{state, IsSound}
use Rattle.u_machine.specs.Invariant.{IsLogged, IsPartitioned}
use Rattle.u_machine.proofs.Once.{enabled_with}
use Rattle.u_machine.proofs.Needed.{needs_some}

-- a list that rises and has one member is that one
pub only_one : (h : EntryList) (e : Entry) → Rises entry_cmp h → IsWith [] e h → h ≡ e ∷ []
only_one h e r w = one_list entry_cmp entry_cmp_total h (e ∷ []) r ((λ y m. absurd (Contains-nil y m)), tt) (λ x. (to x, back x))
  where
    to : (x : Entry) → Contains h x → Contains (e ∷ []) x
    to x m = elim ((w x).0 m) [ inl n ↦ absurd (Contains-nil x n) | inr p ↦ subst (λ (z : Entry). Contains (e ∷ []) z) p (Contains-head e []) ]

    back : (x : Entry) → Contains (e ∷ []) x → Contains h x
    back x m = elim (Contains-cons_cases e x [] m) [ inl p ↦ (w x).1 (inr p) | inr n ↦ absurd (Contains-nil x n) ]

module _ (job : JobParts) (limit : ℕ) where
  fresh : IsSound (state job limit [] [] ((own_of job).start ∷ []))
  fresh = record {
    firings = λ f t. absurd (Contains-nil f t);
    derivation = Derivation-nil (own_of job);
    distinct = tt;
    within = omega arith;
    has = λ e k. subst (λ (x : Entry). Contains ((own_of job).start ∷ []) x) (sym (Held-nil (own_of job) e k)) (Contains-head (own_of job).start []);
    lies = λ e m. elim (Contains-cons_cases (own_of job).start e [] m) [ inl p ↦ subst (Cl (own_of job) (Contains [])) p (Cl-start (own_of job) (Contains [])) | inr n ↦ absurd (Contains-nil e n) ];
  }

  pub fresh_log : IsLogged job limit [] 0 [] ((own_of job).start ∷ [])
  fresh_log = record {
    is = fresh;
    place = omega arith;
    derivation = Derivation-nil (own_of job);
    apart = tt;
    begun = λ f m. absurd (Contains-nil f m);
    lies = λ e m. elim (Contains-cons_cases (own_of job).start e [] m) [ inl p ↦ subst (Held (own_of job) []) p (Held-start (own_of job) []) | inr n ↦ absurd (Contains-nil e n) ];
  }

  pub fresh_partitioned : (history : EntryList) (woken ready : FiringList) → IsWith [] (own_of job).start history → ((f : Firing) → Contains woken f ↔ (Contains ((own_of job).needs f) (own_of job).start × Enabled (own_of job) (Contains history) f)) → Same (Contains ready) (Contains woken) → IsPartitioned job [] [] ready [] history
  fresh_partitioned history woken ready w exact same = record {
    logged = λ f m. absurd (Contains-nil f m);
    fit = λ f m. (((exact f).0 ((same f).0 m)).1, λ t. Contains-nil f t);
    neither = λ f m. absurd (Contains-nil f m);
    once = tt;
    all = λ f en. inl ((same f).1 ((exact f).1 (first f en, en)));
  }
    where
      first : (f : Firing) → Enabled (own_of job) (Contains history) f → Contains ((own_of job).needs f) (own_of job).start
      first f en =
          elim (enabled_with (own_of job) (Contains []) (Contains history) (own_of job).start f (λ x. (w x).0) en)
          [ inl n ↦ n | inr k ↦ (let s = needs_some job f en.0 in absurd (Contains-nil s.0 (k.1 s.0 s.1))) ]
