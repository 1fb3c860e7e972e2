-- How runs go on.
use Rattle.std.proofs.Common.{◌≡◌, ℕ, ◌+◌, ◌<◌, ◌≤◌, List, [], ◌∷◌, ◌++◌, ◌⊎◌, inl, inr, subst, sym, refl, length, arith, append-nil, append_assoc, ap, ◌∙◌, Some, Ok, Err, length-append}
use Rattle.std.proofs.Math.Nat.{zero-mod}
use Rattle.std.specs.Result.{IsErrAnd}
use Rattle.std.specs.Prelude.{Result, Contains, slice_get}
use Rattle.std.proofs.lemmas.List.Elements.{Contains-append_left, Contains-append_cases, Contains-push, Contains-push_cases}
use Rattle.u_base.specs.Firing.{Enabled, Cl, IsNextFrom, IsExhausted, Plain, Held, Whole, Same}
use Rattle.u_base.proofs.Member.{Contains-nil, Contains-cons_cases}
use Rattle.u_base.proofs.Held.{Enabled-mono}
use Rattle.u_base.proofs.Closure.{Cl-mono}
use Rattle.u_base.proofs.Plain.{EachPlace-nil, EachPlace-push}
use Rattle.u_base.proofs.PlainFrom.{Plain-from_nothing}
use Rattle.u_sets.specs.Rising.{Rises}
use Rattle.u_rule.specs.declared.firing.Firing.{Firing}
use Rattle.u_machine.specs.declared.answer.Step.TheVariants as step
use Rattle.u_machine.specs.declared.answer.Ran.{Ran}
use Rattle.u_machine.specs.declared.answer.Ran.TheVariants as ran
use Rattle.u_machine.specs.declared.answer.Refusal.{Refusal}
use Rattle.u_machine.specs.declared.answer.Refusal.TheVariants.{Full, NoMemory}
use Rattle.u_rule.specs.Rule.{own_of}
use Rattle.u_rule.specs.EntryOrder.{firing_cmp}
use Rattle.u_machine.proofs.Lists.{slice_get_Contains, nil_of_length}
use Rattle.u_machine.proofs.States.{grows_trans, settled_is_Cl, ready_after, nothing_after}
use Rattle.u_machine.specs.State.{State, Taken, IsReady, AreReady, IsPick, IsSound, NothingReady}
use Rattle.u_machine.specs.Calls.{Applies, Takes, FireAnswer, Fires, Runs, RunAnswer, firing_le, IsFresh, IsPlainRun, RunsPlainly}

-- the first of a list that rises is its least
pub first_least : (xs : List Firing) (f g : Firing) → Rises firing_cmp xs → slice_get xs 0 ≡ Some f → Contains xs g → firing_le f g
first_least [] f g r e m = absurd (Contains-nil g m)
first_least (x ∷ xs) f g r e m =
    let i : x ≡ f = cc in
    elim (Contains-cons_cases x g xs m) [ inl p ↦ inr (sym i ∙ p) | inr k ↦ inl (rw (← i) (r.0 g k)) ]

-- the ready firing at place 0
pub picked_first : (m : State) (f : Firing) → IsPick m 0 f → IsReady m f × ((g : Firing) → Enabled (own_of m.job) (Cl (own_of m.job) (Taken m)) g → Taken m g ⊎ firing_le f g)
picked_first m f (ready, are, at) = (are.0 f (slice_get_Contains ready 0 f zeroth), λ g en. elim (are.1 g en) [ inl k ↦ inr (first_least ready f g are.2 zeroth k) | inr t ↦ inl t ])
  where
    zeroth : slice_get ready 0 ≡ Some f
    zeroth = rw (zero-mod (length ready)) at at

module _ (old m : State) (gs : List Firing) (r : Fires old gs m) where
  there : (g : Firing) → Taken m g → Taken old g ⊎ Contains gs g
  there g = (r.taken g).0

  back : (g : Firing) → Taken old g ⊎ Contains gs g → Taken m g
  back g = (r.taken g).1

  -- what is next on the machine is next after gs
  pub next_after : (f : Firing) → IsPick m 0 f → IsNextFrom (own_of old.job) firing_le (Taken old) gs f
  next_after f p =
      let q = picked_first m f p in
      record {
        enabled = rw r.grows.job at (Enabled-mono (own_of m.job) (Cl (own_of m.job) (Taken m)) (Cl (own_of m.job) (λ g. Taken old g ⊎ Contains gs g)) (Cl-mono (own_of m.job) (Taken m) (λ g. Taken old g ⊎ Contains gs g) there) f q.0.0);
        new = λ t. q.0.1 (back f t);
        least = λ g en. elim (q.1 g (Enabled-mono (own_of m.job) (Cl (own_of m.job) (λ g. Taken old g ⊎ Contains gs g)) (Cl (own_of m.job) (Taken m)) (Cl-mono (own_of m.job) (λ g. Taken old g ⊎ Contains gs g) (Taken m) back) g (rw (← r.grows.job) at en))) [ inl t ↦ inl (there g t) | inr l ↦ inr l ];
      }

-- with nothing parked, what is applied is what was taken
pub applies_alone : (a b : State) → Applies a b → a.parked ≡ [] → (b.log ≡ a.log) × (b.parked ≡ [])
applies_alone a b p e = (grown, nil_of_length b.parked (omega (arith, counted.1)))
  where
    counted : (length p.grows.log.0 ≡ 0) × (length b.parked ≡ 0)
    counted =
        let x = p.count in
        let y = ap length p.grows.log.1 in
        let z = length-append a.log p.grows.log.0 in
        let w = ap length e in
        (omega arith, omega arith)

    grown : b.log ≡ a.log
    grown = p.grows.log.1 ∙ ap (λ (xs : List Firing). a.log ++ xs) (nil_of_length p.grows.log.0 counted.0) ∙ append-nil a.log

single : (xs : List Firing) (f : Firing) → Contains xs f → length xs ≤ 1 → xs ≡ f ∷ []
single [] f m l = absurd (Contains-nil f m)
single (x ∷ xs) f m l =
    let n : xs ≡ [] = nil_of_length xs (omega arith) in
    elim (Contains-cons_cases x f xs m) [ inl p ↦ cc | inr k ↦ absurd (Contains-nil f (rw n at k)) ]

pub takes_alone : (a b : State) (f : Firing) → Takes a f b → (Taken a f → ⊥) → Contains b.log f → a.parked ≡ [] → (b.log ≡ a.log ++ f ∷ []) × (b.parked ≡ [])
takes_alone a b f t new in_log e = (grown, nil_of_length b.parked last)
  where
    in_rest : Contains t.grows.log.0 f
    in_rest = elim (Contains-append_cases a.log t.grows.log.0 f (rw t.grows.log.1 at in_log)) [ inl k ↦ absurd (new (Contains-append_left a.log a.parked f k)) | inr k ↦ k ]

    total : length t.grows.log.0 + length b.parked ≡ 1
    total =
        let x = t.count in
        let y = ap length t.grows.log.1 in
        let z = length-append a.log t.grows.log.0 in
        let w = ap length e in
        omega arith

    one : t.grows.log.0 ≡ f ∷ []
    one = single t.grows.log.0 f in_rest (omega (arith, total))

    last : length b.parked ≡ 0
    last = let x = ap length one in omega (arith, total)

    grown : b.log ≡ a.log ++ f ∷ []
    grown = t.grows.log.1 ∙ ap (λ (xs : List Firing). a.log ++ xs) one

pub Fires-nil : (old m : State) → Applies old m → Fires old [] m
Fires-nil old m p = record {
  grows = p.grows;
  each = EachPlace-nil (IsNextFrom (own_of old.job) firing_le (Taken old));
  taken = λ g. ((λ t. inl ((p.taken g).1 t)), λ s. elim s [ inl t ↦ (p.taken g).0 t | inr n ↦ absurd (Contains-nil g n) ]);
  count = let x = p.count in omega arith;
}

pub Runs-nil : (old m : State) → Applies old m → Runs old [] m
Runs-nil old m p = record { fires = Fires-nil old m p; alone = λ e. let q = applies_alone old m p e in (q.0 ∙ sym (append-nil old.log), q.1) }

pub Fires-applies : (old m n : State) (gs : List Firing) → Fires old gs m → Applies m n → Fires old gs n
Fires-applies old m n gs r p = record {
  grows = grows_trans old m n r.grows p.grows;
  each = r.each;
  taken = λ g. ((λ t. (r.taken g).0 ((p.taken g).1 t)), λ s. (p.taken g).0 ((r.taken g).1 s));
  count = p.count ∙ r.count;
}

pub Runs-applies : (old m n : State) (gs : List Firing) → Runs old gs m → Applies m n → Runs old gs n
Runs-applies old m n gs r p = record { fires = Fires-applies old m n gs r.fires p; alone = λ e. let q = r.alone e in let w = applies_alone m n p q.1 in (w.0 ∙ q.0, w.1) }

pub Fires-push : (old m n : State) (gs : List Firing) (f : Firing) → Fires old gs m → IsPick m 0 f → Takes m f n → Fires old (gs ++ f ∷ []) n
Fires-push old m n gs f r p t = record {
  grows = grows_trans old m n r.grows t.grows;
  each = EachPlace-push (IsNextFrom (own_of old.job) firing_le (Taken old)) gs f r.each (next_after old m gs r f p);
  taken = λ g. ((λ k. to g ((t.taken g).0 k)), λ k. (t.taken g).1 (from g k));
  count = let x = t.count in let y = r.count in let z = length-append gs (f ∷ []) in omega arith;
}
  where
    to : (g : Firing) → Taken m g ⊎ (f ≡ g) → Taken old g ⊎ Contains (gs ++ f ∷ []) g
    to g (inl k) = elim ((r.taken g).0 k) [ inl a ↦ inl a | inr b ↦ inr (Contains-append_left gs (f ∷ []) g b) ]
    to g (inr e) = inr (subst (λ (x : Firing). Contains (gs ++ f ∷ []) x) e (Contains-push gs f))

    from : (g : Firing) → Taken old g ⊎ Contains (gs ++ f ∷ []) g → Taken m g ⊎ (f ≡ g)
    from g (inl a) = inl ((r.taken g).1 (inl a))
    from g (inr b) = elim (Contains-push_cases gs f g b) [ inl k ↦ inl ((r.taken g).1 (inr k)) | inr e ↦ inr e ]

pub Runs-push : (old m n : State) (gs : List Firing) (f : Firing) → Runs old gs m → IsPick m 0 f → Takes m f n → Contains n.log f → Runs old (gs ++ f ∷ []) n
Runs-push old m n gs f r p t in_log = record {
  fires = Fires-push old m n gs f r.fires p t;
  alone = λ e. let q = r.alone e in let w = takes_alone m n f t (picked_first m f p).0.1 in_log q.1 in (w.0 ∙ ap (λ (xs : List Firing). xs ++ f ∷ []) q.0 ∙ append_assoc old.log gs (f ∷ []), w.1);
}

-- where a call of `fire` fails the run ends there
pub run_fails : (old m n : State) (budget : ℕ) (gs : List Firing) (e : Refusal) → Runs old gs m → length gs < budget → FireAnswer m 0 (Err e) n → RunAnswer old budget (Err e) n
run_fails old m n budget gs Full r l a =
    let p = a.2.applies in
    (gs, Runs-applies old m n gs r p, l, a.2.settled, (a.0.0, ready_after m n p a.0.0 a.0.1), let x = p.count in let y = p.grows.limit in omega (arith, a.1))
run_fails old m n budget gs NoMemory r l (inl u) = (gs, Fires-applies old m n gs r.fires u.applies, omega arith)
run_fails old m n budget gs NoMemory r l (inr (f, may, inl p)) = (gs, Fires-applies old m n gs r.fires p, omega arith)
run_fails old m n budget gs NoMemory r l (inr (f, may, inr t)) =
    (gs ++ f ∷ [], Fires-push old m n gs f r.fires may.0 t, let z = length-append gs (f ∷ []) in omega arith)

pub run_quiet : (old m n : State) (gs : List Firing) (budget : ℕ) → Runs old gs m → length gs < budget → FireAnswer m 0 (Ok step.Quiet) n → RunAnswer old budget (Ok ran.Quiet) n
run_quiet old m n gs budget r l a = (gs, Runs-applies old m n gs r a.1.applies, omega arith, a.1.settled, nothing_after m n a.1.applies a.0, a.2)

pub run_fired : (old m n : State) (gs : List Firing) (place : ℕ) → Runs old gs m → FireAnswer m 0 (Ok (step.Fired place)) n → (xs : List Firing) × Runs old xs n × (length xs ≡ length gs + 1)
run_fired old m n gs place r (f, may, t, st, at) =
    (gs ++ f ∷ [], Runs-push old m n gs f r may.0 t (slice_get_Contains n.log place f at), let z = length-append gs (f ∷ []) in omega arith)

pub some_ready : (m : State) (fs : List Firing) → AreReady m fs → 0 < length fs → (f : Firing) × IsReady m f
some_ready m [] r l = absurd (omega arith)
some_ready m (f ∷ fs) r l = (f, r.0 f (0, omega arith, refl))

-- a new machine: what it applies is the plain list
pub run_plain : (old new : State) (budget : ℕ) (gs : List Firing) → Runs old gs new → old.log ≡ [] → old.parked ≡ [] → length gs ≤ budget → (length gs ≡ budget) ⊎ NothingReady new → (new.log ≡ gs) × (new.parked ≡ []) × Plain (own_of old.job) firing_le budget new.log
run_plain old new budget gs r log parked few full =
    let q = r.alone parked in
    let e : new.log ≡ gs = q.0 ∙ ap (λ (xs : List Firing). xs ++ gs) log in
    (e, q.1, rw e (Plain-from_nothing (own_of old.job) firing_le (Taken old) none budget gs r.fires.each few (ended full)))
  where
    none : (f : Firing) → Taken old f → ⊥
    none f t = Contains-nil f (rw (log, parked) at t)

    ended : (length gs ≡ budget) ⊎ NothingReady new → (length gs ≡ budget) ⊎ IsExhausted (own_of old.job) (λ g. Taken old g ⊎ Contains gs g)
    ended (inl e) = inl e
    ended (inr n) =
        inr (λ f en. (r.fires.taken f).0 (n f (rw (← r.fires.grows.job) at (Enabled-mono (own_of old.job) (Cl (own_of old.job) (λ g. Taken old g ⊎ Contains gs g)) (Cl (own_of old.job) (Taken new)) (Cl-mono (own_of old.job) (λ g. Taken old g ⊎ Contains gs g) (Taken new) (λ g. (r.fires.taken g).1)) f en))))

pub fails_with : (old new : State) (budget : ℕ) (x : Refusal) (r : Result Ran Refusal) → IsErrAnd r (λ e. e ≡ x) → RunAnswer old budget (Err x) new → RunAnswer old budget r new
fails_with old new budget x (Ok t) h a = absurd h
fails_with old new budget x (Err e) h a = subst (λ (y : Refusal). RunAnswer old budget (Err y) new) (sym h) a

pub run_done : (old new : State) (budget : ℕ) (end : Ran) → RunAnswer old budget (Ok end) new → old.log ≡ [] → old.parked ≡ [] → IsSound new → IsPlainRun old budget new × (end ≡ ran.Quiet → Same (Held (own_of old.job) new.log) (Whole (own_of old.job)))
run_done old new budget ran.Quiet (gs, r, few, st, none, all) log parked is =
    let q = run_plain old new budget gs r log parked few (inr none) in
    let h = settled_is_Cl new is st in
    (record { job = r.fires.grows.job; parked = q.1; plain = q.2; held = rw (← r.fires.grows.job) h.1 }, λ _ e. ((λ k. (whole e).0 ((h.1 e).1 (rw r.fires.grows.job k))), λ w. rw r.fires.grows.job at ((h.1 e).0 ((whole e).1 w))))
  where
    whole : Same (Contains new.history) (Whole (own_of old.job))
    whole = rw (← r.fires.grows.job) all.1
run_done old new budget ran.Paused (gs, r, few, st, ready) log parked is =
    let q = run_plain old new budget gs r log parked (omega (arith, few)) (inl few) in
    let h = settled_is_Cl new is st in
    (record { job = r.fires.grows.job; parked = q.1; plain = q.2; held = rw (← r.fires.grows.job) h.1 }, λ e. absurd (cc))

-- what a run of a machine leaves that had taken nothing
pub run_fresh : (old new : State) (budget : ℕ) (r : Result Ran Refusal) → RunAnswer old budget r new → IsSound new → IsFresh old → RunsPlainly old budget r new
run_fresh old new budget (Ok end) a is f = (run_done old new budget end a f.0 f.1 is).0
run_fresh old new budget (Err Full) (gs, r, below, st, ready, full) is f =
    let x = r.fires.count in
    let y = r.fires.grows.limit in
    let z = ap length f.0 in
    let w = ap length f.1 in
    omega (arith, full)
run_fresh old new budget (Err NoMemory) a is f = tt
