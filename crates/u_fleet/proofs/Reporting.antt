-- What a machine has that took published runs.
use Rattle.std.proofs.Common.{◌≡◌, ℕ, suc, List, [], ◌∷◌, ◌++◌, inl, inr, refl, sym, subst, ap, ◌∙◌, take, Some, ⊎_elim, ◌<◌, ◌+◌, length, All, arith, Result, Ok, Err, OnOk}
use Rattle.std.specs.Prelude.{Contains, drop}
use lib.ListN.{get_or}
use Rattle.std.proofs.lemmas.List.{take-append-drop}
use Rattle.std.proofs.Math.Seq.{take-suc}
use Rattle.std.proofs.lemmas.List.Elements.{All-contains, Contains-append_cases, Contains-append_left, Contains-append_right}
use Rattle.std.proofs.lemmas.Option.{slice_get-get_or}
use Rattle.u_base.specs.Firing.{Held, Enabled, Derivation, Same}
use Rattle.u_base.proofs.Held.{Enabled-mono}
use Rattle.u_base.proofs.Member.{Contains-nil, Contains-head, Contains-cons_cases}
use Rattle.u_check.specs.Jobs.{JobParts}
use Rattle.u_rule.specs.Rule.{own_of}
use Rattle.u_rule.specs.declared.firing.Firing.{Firing}
use Rattle.u_machine.specs.State.{State, Taken, IsMachine, IsSettled, NothingReady}
use Rattle.u_machine.specs.Headline.{IsWhole}
use Rattle.u_machine.specs.Taking.{TakesAll}
use Rattle.u_machine.specs.Calls.{Applies}
use Rattle.u_machine.proofs.States.{settled_is_Cl, quiet_whole}
use Rattle.u_replica.specs.ReplicaState.{ReplicaState, fresh}
use Rattle.u_outlet.specs.Sound.{IsSound}
use Rattle.u_fleet.specs.Gains.{TookNone, MayBeFull}
use Rattle.u_fleet.specs.Headline.{MoreThan, IsWholeList, IsPublished, TookPublished}
use Rattle.u_fleet.proofs.Soundness.{Derivation-take, reached_sound}

none_listed : {X : Type 0} → (xs : List X) → ((x : X) → Contains xs x → ⊥) → xs ≡ []
none_listed [] none = refl
none_listed (x ∷ xs) none = absurd (none x (Contains-head x xs))

-- each firing of a run whose firings are all taken is enabled over the history of a settled machine
enabled_in : (m : State) (run : List Firing) (f : Firing) → IsMachine m → IsSettled m → Derivation (own_of m.job) run → ((g : Firing) → Contains run g → Taken m g) → Contains run f
    → Enabled (own_of m.job) (Contains m.history) f
enabled_in m run f is settled d all at =
    Enabled-mono (own_of m.job) (Held (own_of m.job) (take at.0 run)) (Contains m.history) (λ e h. ((settled_is_Cl m is.sound settled).0 e).1 (take at.0 run, front, within, h)) f
    (d.each at.0 f (slice_get-get_or run at.0 f at.1 ∙ ap (λ x. Some x) at.2))
  where
    front : Derivation (own_of m.job) (take at.0 run)
    front = Derivation-take (own_of m.job) run at.0 d

    within : (g : Firing) → Contains (take at.0 run) g → Taken m g
    within g c = all g (subst (λ xs. Contains xs g) (take-append-drop at.0 run) (Contains-append_left (take at.0 run) (drop at.0 run) g c))

-- a settled machine that took what runs have, and nothing else, parks nothing
pub none_parked : (m : State) (lists : List (List Firing)) → IsMachine m → IsSettled m → ((fs : List Firing) → Contains lists fs → Derivation (own_of m.job) fs) → Same (Taken m) (IsPublished lists) → m.parked ≡ []
none_parked m lists is settled runs same = none_listed m.parked (λ f p.
    let there = (same f).0 (Contains-append_right m.log m.parked f p) in
    settled.none f p (enabled_in m there.0 f is settled (runs there.0 there.1) (λ g c. (same g).1 (there.0, there.1, c)) there.2))

-- the next list is taken
pub published_next : (old new : State) (lists : List (List Firing)) (fs : List Firing) → Same (Taken old) (IsPublished lists) → TakesAll old fs new → Same (Taken new) (IsPublished (lists ++ fs ∷ []))
published_next old new lists fs same takes f = (there, back)
  where
    there : Taken new f → IsPublished (lists ++ fs ∷ []) f
    there t = ⊎_elim
        (λ (h : Taken old f). let p = (same f).0 h in (p.0, Contains-append_left lists (fs ∷ []) p.0 p.1, p.2))
        (λ (h : Contains fs f). (fs, Contains-append_right lists (fs ∷ []) fs (Contains-head fs []), h))
        ((takes.taken f).0 t)

    back : IsPublished (lists ++ fs ∷ []) f → Taken new f
    back p = ⊎_elim
        (λ (h : Contains lists p.0). (takes.taken f).1 (inl ((same f).1 (p.0, h, p.2))))
        (λ (h : Contains (fs ∷ []) p.0). ⊎_elim
        (λ (e : fs ≡ p.0). (takes.taken f).1 (inr (subst (λ xs. Contains xs f) (sym e) p.2)))
        (λ (n : Contains [] p.0). absurd (Contains-nil p.0 n))
        (Contains-cons_cases fs p.0 [] h))
        (Contains-append_cases lists (fs ∷ []) p.0 p.1)

-- a whole list has all that is published
pub whole_published : (job : JobParts) (lists : List (List Firing)) (fs : List Firing) → Contains lists fs → IsWholeList job fs → ((f : Firing) → IsPublished lists f → IsSound job f)
    → Same (IsPublished (fs ∷ [])) (IsPublished lists)
whole_published job lists fs at whole sound f = (there, back)
  where
    there : IsPublished (fs ∷ []) f → IsPublished lists f
    there p = ⊎_elim
        (λ (e : fs ≡ p.0). (fs, at, subst (λ xs. Contains xs f) (sym e) p.2))
        (λ (n : Contains [] p.0). absurd (Contains-nil p.0 n))
        (Contains-cons_cases fs p.0 [] p.1)

    back : IsPublished lists f → IsPublished (fs ∷ []) f
    back p = (fs, Contains-head fs [], whole.all f (sound f p))

-- so a machine that took that list took all that is published
pub took_whole : (job : JobParts) (lists : List (List Firing)) (fs : List Firing) (m : State) → Same (IsPublished (fs ∷ [])) (IsPublished lists) → TookPublished job (fs ∷ []) m → TookPublished job lists m
took_whole job lists fs m same took = record {
  job_is = took.job_is;
  taken = λ f. ((λ t. (same f).0 ((took.taken f).0 t)), (λ p. (took.taken f).1 ((same f).1 p)));
  parked = took.parked;
  settled = took.settled;
}

-- and nothing is ready then, and the history is whole
pub nothing_left : (job : JobParts) (lists : List (List Firing)) (fs : List Firing) (m : State) → IsMachine m → Contains lists fs → IsWholeList job fs → TookPublished job lists m → NothingReady m × IsWhole m
nothing_left job lists fs m is at whole took = (none, quiet_whole m is.sound took.settled none)
  where
    none : NothingReady m
    none f en = (took.taken f).1 (fs, at, whole.all f (subst (λ j. IsSound j f) took.job_is (reached_sound m.job (Taken m) f en)))

-- where nothing is taken, that is what no list has
pub none_published : (m : State) → TookNone m → Same (Taken m) (IsPublished [])
none_published m none f = ((λ t. absurd (none f t)), (λ p. absurd (Contains-nil p.0 p.1)))

-- one list more of the front is taken
pub front_published : (old new : State) (lists : List (List Firing)) (k : ℕ) (fs : List Firing) → k < length lists → get_or lists k fs ≡ fs → Same (Taken old) (IsPublished (take k lists)) → TakesAll old fs new
    → Same (Taken new) (IsPublished (take (k + 1) lists))
front_published old new lists k fs small at same takes = subst (λ xs. Same (Taken new) (IsPublished xs)) (sym next) (published_next old new (take k lists) fs same takes)
  where
    next : take (k + 1) lists ≡ take k lists ++ fs ∷ []
    next = let more : suc k ≡ k + 1 = omega arith in subst (λ n. take n lists ≡ take k lists ++ fs ∷ []) more (take-suc lists k fs small ∙ ap (λ x. take k lists ++ x ∷ []) at)

-- what settles has taken the same
pub settled_published : (job : JobParts) (lists : List (List Firing)) (before m : State) → before.job ≡ job → Same (Taken before) (IsPublished lists) → Applies before m → IsMachine m → IsSettled m
    → All (λ fs. Derivation (own_of job) fs) lists → TookPublished job lists m
settled_published job lists before m job_is same applies is settled runs = record {
  job_is = is_job;
  taken = taken;
  parked = none_parked m lists is settled (λ fs at. subst (λ j. Derivation (own_of j) fs) (sym is_job) (All-contains (λ gs. Derivation (own_of job) gs) lists fs runs at)) taken;
  settled = settled;
}
  where
    is_job : m.job ≡ job
    is_job = applies.grows.job ∙ job_is

    taken : Same (Taken m) (IsPublished lists)
    taken f = ((λ t. (same f).0 ((applies.taken f).1 t)), (λ p. (applies.taken f).0 ((same f).1 p)))

-- a new replica that has no room says so of its job
pub fresh_full : (J job : JobParts) (limit number : ℕ) (r : ReplicaState) → job ≡ J → r ≡ fresh job limit number → MayBeFull r.machine → MoreThan J limit
fresh_full J job limit number r job_is same full =
    let of_fresh : MayBeFull (fresh job limit number).machine = subst (λ x. MayBeFull x.machine) same full in
    subst (λ j. MoreThan j limit) job_is (of_fresh (λ f t. absurd (Contains-nil f t)))

-- what is said of a result that is right holds of one that is right
pub of_ok : {E P : Type 0} (r : Result (Unit {0}) E) (u : Unit {0}) → r ≡ Ok u → OnOk r P → P
of_ok (Ok v) u same said = said
of_ok (Err e) u same said = absurd (cc)
