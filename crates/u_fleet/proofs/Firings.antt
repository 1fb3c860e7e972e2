-- How firings in held buckets follow one another, and that they are sound.
use Rattle.std.proofs.Common.{IfErr, ◌≡◌, ℕ, List, [], ◌∷◌, ◌++◌, ◌⊎◌, inl, inr, refl, sym, subst, ◌∙◌, Some, length, ◌≤◌, ◌+◌, arith, Result, Ok, Err, Bool, true, false, cond, ap, length-append}
use Rattle.std.specs.Prelude.{Contains, slice_get, filter, IsTrue}
use Rattle.std.proofs.Math.Nat.{zero-mod}
use Rattle.std.proofs.lemmas.List.Elements.{Contains-append_left, Contains-push, Contains-push_cases}
use Rattle.std.proofs.lemmas.Option.{slice_get-get_or}
use Rattle.u_base.specs.Firing.{Enabled, Cl}
use Rattle.u_base.proofs.Member.{Contains-nil, Contains-cons_cases}
use Rattle.u_base.proofs.Held.{Enabled-mono}
use Rattle.u_base.proofs.Closure.{Cl-mono}
use Rattle.u_base.proofs.Plain.{EachPlace-nil, EachPlace-push}
use Rattle.u_rule.specs.Rule.{own_of}
use Rattle.u_rule.specs.EntryOrder.{firing_cmp}
use Rattle.u_rule.specs.declared.firing.Firing.{Firing}
use Rattle.std.specs.declared.cmp.Ordering.TheVariants.{Less}
use Rattle.u_machine.specs.Masks.{is_in, those_in}
use Rattle.u_machine.specs.State.{State, Taken, IsMachine, IsSettled, count_of, IsReady, IsReadyIn, IsPickIn, NothingReady}
use Rattle.u_machine.specs.Calls.{Applies, Takes, IsElsewhere, FireInAnswer, firing_le}
use Rattle.u_machine.specs.declared.answer.Refusal.TheVariants as refusals
use Rattle.u_machine.specs.declared.answer.StepIn.TheVariants as steps
use Rattle.u_machine.proofs.Masked.{ready_in}
use Rattle.u_machine.proofs.States.{grows_trans, ready_before, ready_after, nothing_after}
use Rattle.u_replica.specs.ReplicaState.{ReplicaState, replica, ChangesMachine}
use Rattle.u_outlet.specs.Sound.{IsSound}
use Rattle.u_fleet.specs.Gains.{Gains, MayBeFull}
use Rattle.u_fleet.specs.Headline.{MoreThan}
use Rattle.u_fleet.specs.Working.{IsNextIn, FiresIn, FireHeldAnswer}
use Rattle.u_fleet.specs.declared.answer.Work.{Work}
use Rattle.u_fleet.specs.declared.answer.WorkFault.{WorkFault}
use Rattle.u_fleet.specs.declared.answer.WorkFault.TheVariants as faults
use Rattle.u_fleet.proofs.Soundness.{takes_gains, reached_sound}

-- where one is ready and as many are taken as may be, more are sound
pub ready_beyond : (m : State) (f : Firing) → IsMachine m → IsReady m f → m.limit ≤ count_of m → MayBeFull m
ready_beyond m f is ready full took = (
  f ∷ (m.log ++ m.parked),
  (ready.1, is.sound.distinct),
  (λ g c. elim (Contains-cons_cases f g (m.log ++ m.parked) c) [ inl e ↦ subst (λ (x : Firing). IsSound m.job x) e (reached_sound m.job (Taken m) f ready.0) | inr t ↦ took g t ]),
  let n = length-append m.log m.parked in omega (arith, full),
)

pub gains_trans : (a b c : State) → Gains a b → Gains b c → Gains a c
gains_trans a b c p q = record { grows = grows_trans a b c p.grows q.grows; sound = λ took. q.sound (p.sound took) }

-- what a later machine says of the job, the earlier one does
pub full_before : (old m : State) → Gains old m → MayBeFull m → MayBeFull old
full_before old m g full took = subst (λ (n : ℕ). MoreThan old.job n) g.grows.limit (rw g.grows.job at (full (g.sound took)))

-- what a pick picks is ready, and in the mask
pub picked_ready : (m : State) (buckets pick : ℕ) (f : Firing) → IsPickIn m buckets pick f → IsReadyIn m buckets f
picked_ready m buckets pick f (ready, are, at) = ready_in m buckets ready _ f are at

-- each comes before all later ones
abbrev Rising : List Firing → Type 0
Rising [] = Unit {0}
Rising (x ∷ xs) = ((y : Firing) → Contains xs y → firing_cmp x y ≡ Less) × Rising xs

-- then the first that passes a test is the least that does
module _ (p : Firing → Bool) (f g : Firing) where
  first_kept : (xs : List Firing) → Rising xs → slice_get (filter p xs) 0 ≡ Some f → Contains xs g → IsTrue (p g) → firing_le f g
  first_kept [] r at m inside = absurd (Contains-nil g m)
  first_kept (x ∷ xs) r at m inside = over (p x) refl at (Contains-cons_cases x g xs m) (λ first k. first_kept xs r.1 first k inside)
    where
      over : (b : Bool) → p x ≡ b → slice_get (cond b (x ∷ filter p xs) (filter p xs)) 0 ≡ Some f → (x ≡ g) ⊎ Contains xs g → (slice_get (filter p xs) 0 ≡ Some f → Contains xs g → firing_le f g) → firing_le f g
      over true e first (inl k) later = let i : x ≡ f = cc in inr (sym i ∙ k)
      over true e first (inr k) later = let i : x ≡ f = cc in inl (rw (← i) (r.0 g k))
      over false e first (inl k) later = let bad : true ≡ false = sym inside ∙ ap p (sym k) ∙ e in cc
      over false e first (inr k) later = later first k

-- the ready firing at place 0 of those in the mask is the least of them
pub picked_least : (m : State) (buckets : ℕ) (f : Firing) → IsPickIn m buckets 0 f → (g : Firing) → IsTrue (is_in buckets g) → Enabled (own_of m.job) (Cl (own_of m.job) (Taken m)) g → Taken m g ⊎ firing_le f g
picked_least m buckets f (ready, are, at) g inside en =
    elim (are.1 g en) [ inl k ↦ inr (first_kept (is_in buckets) f g ready are.2 zeroth k inside) | inr t ↦ inl t ]
  where
    zeroth : slice_get (those_in buckets ready) 0 ≡ Some f
    zeroth = rw (zero-mod (length (those_in buckets ready))) at at

pub fires_none : (buckets : ℕ) (old m : State) → Applies old m → FiresIn buckets old [] m
fires_none buckets old m p = record {
  grows = p.grows;
  inside = λ g n. absurd (Contains-nil g n);
  each = EachPlace-nil (IsNextIn buckets old);
  taken = λ g. ((λ t. inl ((p.taken g).1 t)), λ s. elim s [ inl t ↦ (p.taken g).0 t | inr n ↦ absurd (Contains-nil g n) ]);
  count = let x = p.count in omega arith;
}

pub fires_applies : (buckets : ℕ) (old m n : State) (gs : List Firing) → FiresIn buckets old gs m → Applies m n → FiresIn buckets old gs n
fires_applies buckets old m n gs r p = record {
  grows = grows_trans old m n r.grows p.grows;
  inside = r.inside;
  each = r.each;
  taken = λ g. ((λ t. (r.taken g).0 ((p.taken g).1 t)), λ s. (p.taken g).0 ((r.taken g).1 s));
  count = p.count ∙ r.count;
}

module _ (buckets : ℕ) (old m : State) (gs : List Firing) (r : FiresIn buckets old gs m) where
  there : (g : Firing) → Taken m g → Taken old g ⊎ Contains gs g
  there g = (r.taken g).0

  back : (g : Firing) → Taken old g ⊎ Contains gs g → Taken m g
  back g = (r.taken g).1

  -- what is next on the machine is next after gs
  pub next_in : (f : Firing) → IsPickIn m buckets 0 f → IsNextIn buckets old gs f
  next_in f p =
      let q = picked_ready m buckets 0 f p in
      record {
        inside = q.1;
        enabled = rw r.grows.job at (Enabled-mono (own_of m.job) (Cl (own_of m.job) (Taken m)) (Cl (own_of m.job) (λ g. Taken old g ⊎ Contains gs g)) (Cl-mono (own_of m.job) (Taken m) (λ g. Taken old g ⊎ Contains gs g) there) f q.0.0);
        new = λ t. q.0.1 (back f t);
        least = λ g inside en. elim (picked_least m buckets f p g inside (Enabled-mono (own_of m.job) (Cl (own_of m.job) (λ g. Taken old g ⊎ Contains gs g)) (Cl (own_of m.job) (Taken m)) (Cl-mono (own_of m.job) (λ g. Taken old g ⊎ Contains gs g) (Taken m) back) g (rw (← r.grows.job) at en))) [ inl t ↦ inl (there g t) | inr l ↦ inr l ];
      }

  pub fires_one : (n : State) (f : Firing) → IsPickIn m buckets 0 f → Takes m f n → FiresIn buckets old (gs ++ f ∷ []) n
  fires_one n f p t = record {
    grows = grows_trans old m n r.grows t.grows;
    inside = λ g k. elim (Contains-push_cases gs f g k) [ inl h ↦ r.inside g h | inr e ↦ subst (λ (x : Firing). IsTrue (is_in buckets x)) e (picked_ready m buckets 0 f p).1 ];
    each = EachPlace-push (IsNextIn buckets old) gs f r.each (next_in f p);
    taken = λ g. ((λ k. to g ((t.taken g).0 k)), λ k. (t.taken g).1 (from g k));
    count = let x = t.count in let y = r.count in let z = length-append gs (f ∷ []) in omega arith;
  }
    where
      to : (g : Firing) → Taken m g ⊎ (f ≡ g) → Taken old g ⊎ Contains (gs ++ f ∷ []) g
      to g (inl k) = elim ((r.taken g).0 k) [ inl a ↦ inl a | inr b ↦ inr (Contains-append_left gs (f ∷ []) g b) ]
      to g (inr e) = inr (subst (λ (x : Firing). Contains (gs ++ f ∷ []) x) e (Contains-push gs f))

      from : (g : Firing) → Taken old g ⊎ Contains (gs ++ f ∷ []) g → Taken m g ⊎ (f ≡ g)
      from g (inl a) = inl ((r.taken g).1 (inl a))
      from g (inr b) = elim (Contains-push_cases gs f g b) [ inl k ↦ inl ((r.taken g).1 (inr k)) | inr e ↦ inr e ]

-- where nothing was ready in the mask, nothing is as taken firings are applied
pub none_after : (a b : State) (buckets : ℕ) → Applies a b → IsElsewhere a buckets → (f : Firing) → IsReadyIn b buckets f → ⊥
none_after a b buckets p e f r = e.1 f (ready_before a b p f r.0, r.1)

pub quiet_after : (a b : State) (buckets : ℕ) → Applies a b → NothingReady a → (f : Firing) → IsReadyIn b buckets f → ⊥
quiet_after a b buckets p none f r = r.0.1 (nothing_after a b p none f r.0.0)

pub fires_fired : (buckets : ℕ) (old m n : State) (gs : List Firing) (place : ℕ) → FiresIn buckets old gs m → FireInAnswer m buckets 0 (Ok (steps.Fired place)) n → (xs : List Firing) × FiresIn buckets old xs n × (length xs ≡ length gs + 1)
fires_fired buckets old m n gs place r (f, may, takes, settled, at) =
    (gs ++ f ∷ [], fires_one buckets old m gs r n f may.0 takes, let z = length-append gs (f ∷ []) in omega arith)

-- where there is no room for one that is ready in the mask
pub fires_full : (buckets : ℕ) (old m n : State) (gs : List Firing) → FiresIn buckets old gs m → FireInAnswer m buckets 0 (Err refusals.Full) n
    → FiresIn buckets old gs n × IsSettled n × ((f : Firing) × IsReadyIn n buckets f) × (count_of n ≡ n.limit)
fires_full buckets old m n gs r (ready, count, settles) =
    let p = settles.applies in
    (fires_applies buckets old m n gs r p, settles.settled, (ready.0, (ready_after m n p ready.0 ready.1.0, ready.1.1)), let c = p.count in let l = p.grows.limit in omega (arith, count))

-- where there is no memory, the one that was picked may be taken
pub fires_failed : (buckets : ℕ) (old m n : State) (gs : List Firing) → FiresIn buckets old gs m → FireInAnswer m buckets 0 (Err refusals.NoMemory) n → (xs : List Firing) × FiresIn buckets old xs n × (length xs ≤ length gs + 1)
fires_failed buckets old m n gs r (inl u) = (gs, fires_applies buckets old m n gs r u.applies, omega arith)
fires_failed buckets old m n gs r (inr (f, may, inl p)) = (gs, fires_applies buckets old m n gs r p, omega arith)
fires_failed buckets old m n gs r (inr (f, may, inr t)) = (gs ++ f ∷ [], fires_one buckets old m gs r n f may.0 t, let z = length-append gs (f ∷ []) in omega arith)

-- what was fired in a mask is sound
fires_gains : (buckets : ℕ) (old new : State) (gs : List Firing) → FiresIn buckets old gs new → Gains old new
fires_gains buckets old new gs r =
    takes_gains old new gs (record { grows = r.grows; taken = r.taken }) (λ g m. reached_sound old.job _ g (r.each m.0 g (slice_get-get_or gs m.0 g m.1 ∙ ap (λ x. Some x) m.2)).enabled)

pub held_gains : (old new : State) (held budget : ℕ) (r : Result Work WorkFault) → FireHeldAnswer old held budget r new → Gains old new
held_gains old new held budget (Ok w) (same, (gs, r, n, few), none) = fires_gains w.held old new gs r
held_gains old new held budget (Err faults.Full) (gs, r, few, settled, ready, count) = fires_gains held old new gs r
held_gains old new held budget (Err faults.NoMemory) (gs, r, few) = fires_gains held old new gs r

pub held_full : (old new : State) (held budget : ℕ) (r : Result Work WorkFault) → IsMachine new → FireHeldAnswer old held budget r new → IfErr r (λ e. e ≡ faults.Full → MayBeFull old)
held_full old new held budget (Ok w) is a = tt
held_full old new held budget (Err faults.Full) is (gs, r, few, settled, ready, count) = λ _. full_before old new (fires_gains held old new gs r) (ready_beyond new ready.0 is ready.1.0 (omega (arith, count)))
held_full old new held budget (Err faults.NoMemory) is a = λ e. absurd (cc)

-- the machine alone changes, again
pub alone_on : (a b c : ReplicaState) → ChangesMachine a b → ChangesMachine b c → ChangesMachine a c
alone_on a b c p q =
    let number = ap (λ (r : ReplicaState). r.number) p in
    let life = ap (λ (r : ReplicaState). r.life) p in
    let marks = ap (λ (r : ReplicaState). r.marks) p in
    q ∙ (λ i. replica c.machine (number i) (life i) (marks i))
