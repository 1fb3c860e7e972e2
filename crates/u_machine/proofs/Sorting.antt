-- The steps by which a machine goes on, on its history and on what is ready.
use Rattle.std.proofs.Common.{◌≡◌, ◌++◌, [], ◌∷◌, ◌⊎◌, inl, inr, subst, sym}
use Rattle.std.specs.Prelude.{Contains, ◌↔◌}
use Rattle.std.proofs.lemmas.List.Elements.{Contains-append_left, Contains-push, Contains-push_cases}
use Rattle.u_base.proofs.Member.{Contains-nil, Contains-head, Contains-cons_cases, Contains-tail}
use Rattle.u_base.specs.Firing.{Enabled}
use Rattle.u_sets.specs.Rising.{Rises}
use Rattle.u_sets.specs.Members.{IsWith, IsWithout}
use Rattle.u_base.proofs.Held.{Enabled-mono}
use Rattle.u_check.specs.Jobs.{JobParts}
use Rattle.u_rule.specs.declared.entry.Entry.{Entry}
use Rattle.u_rule.specs.declared.firing.Firing.{Firing}
use Rattle.u_rule.specs.Rule.{own_of}
use Rattle.u_rule.specs.EntryOrder.{FiringList, EntryList, firing_cmp}
use Rattle.u_rule.specs.ExactOrders.{firing_cmp_total}
use Rattle.u_machine.specs.Invariant.{IsPartitioned}
use Rattle.u_machine.proofs.Once.{enabled_with, Distinct-from_Rises}

module _ (job : JobParts) (log taken ready woken : FiringList) (history : EntryList) (s : IsPartitioned job log taken ready woken history) where
  -- the history gained an entry, and these are the firings that it enables
  pub woken_more : (e : Entry) (more : EntryList) (woken_now : FiringList) → woken ≡ [] → (Contains history e → ⊥) → IsWith history e more → ((f : Firing) → Contains woken_now f ↔ (Contains ((own_of job).needs f) e × Enabled (own_of job) (Contains more) f)) → Rises firing_cmp woken_now → IsPartitioned job log taken ready woken_now more
  woken_more e more woken_now none fresh w exact r = record {
    logged = λ f m. grows f (s.logged f m);
    fit = λ f m. (grows f (s.fit f m).0, (s.fit f m).1);
    neither = λ f m. let p = (exact f).0 m in (p.1, (λ k. fresh ((s.fit f k).0.1 e p.0)), λ k. fresh ((s.logged f k).1 e p.0));
    once = Distinct-from_Rises firing_cmp firing_cmp_total woken_now r;
    all = λ f en. elim (enabled_with (own_of job) (Contains history) (Contains more) e f (λ x. (w x).0) en) [ inl n ↦ inr (inr ((exact f).1 (n, en))) | inr k ↦ before f (s.all f k) ];
  }
    where
      grows : (f : Firing) → Enabled (own_of job) (Contains history) f → Enabled (own_of job) (Contains more) f
      grows f = Enabled-mono (own_of job) (Contains history) (Contains more) (λ x k. (w x).1 (inl k)) f

      before : (f : Firing) → Contains ready f ⊎ Contains log f ⊎ Contains woken f → Contains ready f ⊎ Contains log f ⊎ Contains woken_now f
      before f (inl a) = inl a
      before f (inr (inl b)) = inr (inl b)
      before f (inr (inr c)) = absurd (Contains-nil f (rw none at c))

  -- the next one was not taken: it is ready
  pub sorts_ready : (f : Firing) (rest more : FiringList) → woken ≡ f ∷ rest → (Contains taken f → ⊥) → IsWith ready f more → IsPartitioned job log taken more rest history
  sorts_ready f rest more is new w = record {
    logged = s.logged;
    fit = λ g m. is_fit g ((w g).0 m);
    neither = λ g m. let p = s.neither g (rw is (Contains-tail f g rest m)) in (p.0, (λ k. not_ready g m p.1 ((w g).0 k)), p.2);
    once = (rw is at s.once).1;
    all = λ g en. over g (s.all g en);
  }
    where
      first : Contains woken f
      first = rw is (Contains-head f rest)

      is_fit : (g : Firing) → Contains ready g ⊎ (f ≡ g) → Enabled (own_of job) (Contains history) g × (Contains taken g → ⊥)
      is_fit g (inl k) = s.fit g k
      is_fit g (inr e) = subst (λ (h : Firing). Enabled (own_of job) (Contains history) h × (Contains taken h → ⊥)) e ((s.neither f first).0, new)

      not_ready : (g : Firing) → Contains rest g → (Contains ready g → ⊥) → Contains ready g ⊎ (f ≡ g) → ⊥
      not_ready g m no_more (inl k) = no_more k
      not_ready g m no_more (inr e) = (rw is at s.once).0 (subst (λ (h : Firing). Contains rest h) (sym e) m)

      over : (g : Firing) → Contains ready g ⊎ Contains log g ⊎ Contains woken g → Contains more g ⊎ Contains log g ⊎ Contains rest g
      over g (inl a) = inl ((w g).1 (inl a))
      over g (inr (inl b)) = inr (inl b)
      over g (inr (inr c)) = elim (Contains-cons_cases f g rest (rw is at c)) [ inl e ↦ inl ((w g).1 (inr e)) | inr k ↦ inr (inr k) ]

  -- the next one was taken: it goes to the end of the log
  pub sorts_logged : (f : Firing) (rest : FiringList) → woken ≡ f ∷ rest → IsPartitioned job (log ++ f ∷ []) taken ready rest history
  sorts_logged f rest is = record {
    logged = λ g m. elim (Contains-push_cases log f g m) [ inl a ↦ s.logged g a | inr e ↦ subst (λ (h : Firing). Enabled (own_of job) (Contains history) h) e (s.neither f first).0 ];
    fit = s.fit;
    neither = λ g m. let p = s.neither g (rw is (Contains-tail f g rest m)) in (p.0, p.1, λ k. elim (Contains-push_cases log f g k) [ inl a ↦ p.2 a | inr e ↦ (rw is at s.once).0 (subst (λ (h : Firing). Contains rest h) (sym e) m) ]);
    once = (rw is at s.once).1;
    all = λ g en. over g (s.all g en);
  }
    where
      first : Contains woken f
      first = rw is (Contains-head f rest)

      over : (g : Firing) → Contains ready g ⊎ Contains log g ⊎ Contains woken g → Contains ready g ⊎ Contains (log ++ f ∷ []) g ⊎ Contains rest g
      over g (inl a) = inl a
      over g (inr (inl b)) = inr (inl (Contains-append_left log (f ∷ []) g b))
      over g (inr (inr c)) =
          elim (Contains-cons_cases f g rest (rw is at c))
          [ inl e ↦ inr (inl (subst (λ (h : Firing). Contains (log ++ f ∷ []) h) e (Contains-push log f))) | inr k ↦ inr (inr k) ]

  -- a firing is taken that is not ready
  pub takes_early : (f : Firing) (more : FiringList) → (Contains ready f → ⊥) → IsWith taken f more → IsPartitioned job log more ready woken history
  takes_early f more early w = record {
    logged = s.logged;
    fit = λ g m. ((s.fit g m).0, λ k. elim ((w g).0 k) [ inl a ↦ (s.fit g m).1 a | inr e ↦ early (subst (λ (h : Firing). Contains ready h) (sym e) m) ]);
    neither = s.neither;
    once = s.once;
    all = s.all;
  }

  -- a ready firing is taken, and goes to the end of the log
  pub takes_ready : (f : Firing) (more less : FiringList) → woken ≡ [] → Contains ready f → IsWith taken f more → IsWithout ready f less → IsPartitioned job (log ++ f ∷ []) more less woken history
  takes_ready f more less none was w v = record {
    logged = λ g m. elim (Contains-push_cases log f g m) [ inl a ↦ s.logged g a | inr e ↦ subst (λ (h : Firing). Enabled (own_of job) (Contains history) h) e (s.fit f was).0 ];
    fit = λ g m. let p = s.fit g (v.less g m) in (p.0, λ k. elim ((w g).0 k) [ inl a ↦ p.1 a | inr e ↦ v.gone (subst (λ (h : Firing). Contains less h) (sym e) m) ]);
    neither = λ g m. absurd (Contains-nil g (rw none at m));
    once = s.once;
    all = λ g en. over g (s.all g en);
  }
    where
      over : (g : Firing) → Contains ready g ⊎ Contains log g ⊎ Contains woken g → Contains less g ⊎ Contains (log ++ f ∷ []) g ⊎ Contains woken g
      over g (inl a) = elim (v.rest g a) [ inl e ↦ inr (inl (subst (λ (h : Firing). Contains (log ++ f ∷ []) h) e (Contains-push log f))) | inr k ↦ inl k ]
      over g (inr (inl b)) = inr (inl (Contains-append_left log (f ∷ []) g b))
      over g (inr (inr c)) = inr (inr c)
