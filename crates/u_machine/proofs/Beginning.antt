-- A ready firing that is taken and goes to the end of the log.
use Rattle.std.proofs.Common.{◌≡◌, ◌<◌, ◌+◌, arith, length, ◌++◌, [], ◌∷◌, subst, sym, ap, length-append, take, refl, inr, ◌∙◌}
use Rattle.std.specs.Prelude.{Contains}
use Rattle.std.proofs.lemmas.List.{take-append-le}
use Rattle.std.proofs.lemmas.List.Elements.{Contains-append_right}
use Rattle.u_sets.specs.Rising.{Rises}
use Rattle.u_sets.specs.Members.{IsWith, IsWithout}
use Rattle.u_rule.specs.declared.firing.Firing.{Firing}
use Rattle.u_rule.specs.EntryOrder.{FiringList, firing_cmp}
use Rattle.u_machine.specs.declared.parts.Parts.{Parts}
use Rattle.u_machine.specs.State.{Taken, state, count_of}
use Rattle.u_machine.specs.Calls.{Takes}
use Rattle.u_machine.specs.Invariant.{Invariant, IsLogged, IsPartitioned, HasLate, NeedsNoLate, state_of, woken_of, parked_of}
use Rattle.u_machine.proofs.Steps.{parks, parks_takes, begins, log_taken, taken_more}
use Rattle.u_machine.proofs.Sorting.{takes_ready}
use Rattle.u_machine.proofs.LateTokens.{made_is_ready, without, takes_ready_late}

module _ (m : Parts) (k : Invariant m) (f : Firing) (was : Contains m.ready f) where
  pub in_all : Contains k.all_ready f
  in_all = made_is_ready _ _ _ _ _ _ _ k.late f was

  -- what else is ready
  abbrev pub others : FiringList
  others = (without f k.all_ready).0

  -- a ready firing was not taken
  pub new_if_ready : Taken (state_of m) f → ⊥
  new_if_ready = (k.partitioned.fit f in_all).1

  pub unparked : Contains (parked_of m) f → ⊥
  unparked p = new_if_ready (Contains-append_right (take m.applied_count m.log.items) (parked_of m) f p)

  module _ (settled : m.applied_count ≡ length m.log.items) (room : count_of (state_of m) < m.limit) (parked less log : FiringList) (p : IsWith (parked_of m) f parked) (r : Rises firing_cmp parked) (more : length parked ≡ length (parked_of m) + 1) (e : log ≡ m.log.items ++ f ∷ []) (w : IsWithout m.ready f less) where
    same_applied : take m.applied_count (m.log.items ++ f ∷ []) ≡ take m.applied_count m.log.items
    same_applied = take-append-le m.applied_count m.log.items (f ∷ []) k.logged.place

    pub begun_logged : IsLogged m.job.now m.limit log m.applied_count parked m.matcher
    begun_logged =
        subst (λ (l : FiringList). IsLogged m.job.now m.limit l m.applied_count parked m.matcher) (sym e)
        (begins _ _ _ _ _ _ (parks _ _ _ _ _ _ k.logged f parked new_if_ready (k.partitioned.fit f in_all).0.0 room p r more) f ((p f).1 (inr refl)) (λ h. new_if_ready (log_taken _ _ _ _ _ _ k.logged f h)) (k.partitioned.fit f in_all).0)

    pub begun_partitioned : IsPartitioned m.job.now log (take m.applied_count log ++ parked) others (woken_of m) m.matcher
    begun_partitioned =
        let s = same_applied in
        subst (λ (l : FiringList). IsPartitioned m.job.now l (take m.applied_count l ++ parked) others (woken_of m) m.matcher) (sym e)
        (rw s (takes_ready _ _ _ _ _ _ k.partitioned f (take m.applied_count m.log.items ++ parked) others (k.idle settled) in_all (taken_more _ _ _ _ _ _ k.logged f parked p) (without f k.all_ready).1))

    pub begun_late : NeedsNoLate m f → HasLate m.job.now (take m.applied_count log ++ parked) others less (woken_of m) m.late m.matcher
    begun_late free =
        let s = same_applied in
        subst (λ (l : FiringList). HasLate m.job.now (take m.applied_count l ++ parked) others less (woken_of m) m.late m.matcher) (sym e)
        (rw s (takes_ready_late _ _ _ _ _ _ _ k.late f (take m.applied_count m.log.items ++ parked) less others (k.idle settled) (λ (x, i, n). free x i n.0) (taken_more _ _ _ _ _ _ k.logged f parked p) w (without f k.all_ready).1))

    pub begun_idle : m.applied_count ≡ length log → woken_of m ≡ []
    begun_idle q = let x = length-append m.log.items (f ∷ []) in let y = ap length e in absurd (omega (arith, q, settled))

    pub begun_takes : Takes (state_of m) f (state m.job.now m.limit (take m.applied_count log) parked m.matcher)
    begun_takes =
        let s : take m.applied_count log ≡ take m.applied_count m.log.items = ap (take m.applied_count) e ∙ same_applied in
        rw s (parks_takes _ _ _ _ _ _ k.logged f parked p more)
