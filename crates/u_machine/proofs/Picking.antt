-- Which of all that is ready, made or not, is picked.
use Rattle.std.proofs.Common.{◌≡◌, ◌<◌, ◌%◌, ℕ, List, [], ◌∷◌, ◌⊎◌, inl, inr, Some, Ok, Err, subst, ap, length, arith}
use Rattle.std.specs.Prelude.{Contains, slice_get}
use Rattle.std.specs.declared.cmp.Ordering.TheVariants.{Less}
use Rattle.std.proofs.Math.Nat.{zero-mod}
use Rattle.std.proofs.lemmas.Nat.{mod_below}
use Rattle.u_base.proofs.Member.{Contains-nil, Contains-head, Contains-cons_cases}
use Rattle.u_sets.specs.Rising.{Rises, in_order}
use Rattle.u_sets.proofs.Listed.{members}
use Rattle.u_sets.proofs.Places.{irreflexive}
use Rattle.u_rule.specs.declared.firing.Firing.{Firing}
use Rattle.u_rule.specs.EntryOrder.{FiringList, firing_cmp}
use Rattle.u_rule.specs.ExactOrders.{firing_cmp_total, firing_cmp_ties}
use Rattle.u_machine.specs.declared.parts.Parts.{Parts}
use Rattle.u_machine.specs.declared.answer.Refusal.{Refusal}
use Rattle.u_machine.specs.declared.answer.Refusal.TheVariants.{Full, NoMemory}
use Rattle.u_machine.specs.declared.answer.Step.TheVariants as step
use Rattle.u_machine.specs.State.{State, Taken, IsSettled, IsReady, AreReady, IsPick, IsPickIn, IsReadyIn, NothingReady}
use Rattle.u_machine.specs.Calls.{Applies, FireAnswer, firing_le}
use Rattle.u_machine.specs.Masks.{is_in, those_in}
use Rattle.u_machine.specs.Invariant.{state_of, Invariant, KnowsLeast, NeedsNoLate}
use Rattle.u_machine.proofs.Lists.{slice_get_Contains, some_at}
use Rattle.u_machine.proofs.LateTokens.{made_is_ready}
use Rattle.u_machine.proofs.Masked.{to_filter, from_filter}
use Rattle.u_machine.proofs.Runs.{first_least}
use Rattle.u_machine.proofs.Settled.{kept_in_order, kept_ready}
use Rattle.u_machine.proofs.States.{are_ready_before}

not_both_ways : (x f : Firing) → firing_cmp x f ≡ Less → firing_le f x → ⊥
not_both_ways x f l (inl m) = irreflexive firing_cmp firing_cmp_total x (firing_cmp_total.trans x f x l m)
not_both_ways x f l (inr e) = irreflexive firing_cmp firing_cmp_total x (subst (λ (y : Firing). firing_cmp x y ≡ Less) e l)

-- the least of a list that rises stands first
least_at : (xs : FiringList) (f : Firing) → Rises firing_cmp xs → Contains xs f → ((g : Firing) → Contains xs g → firing_le f g) → slice_get xs 0 ≡ Some f
least_at [] f r m all = absurd (Contains-nil f m)
least_at (x ∷ xs) f r m all = elim (Contains-cons_cases x f xs m) [ inl e ↦ ap Some e | inr k ↦ absurd (not_both_ways x f (r.0 f k) (all x (Contains-head x xs))) ]

pub some_there : {X : Type 0} (xs : List X) (x : X) → Contains xs x → 0 < length xs
some_there [] x m = absurd (Contains-nil x m)
some_there (y ∷ xs) x m = omega arith

-- where something is ready, something is picked
pub pick_exists : (m : State) (ready : FiringList) (f : Firing) → AreReady m ready → IsReady m f → (pick : ℕ) → (g : Firing) × IsPick m pick g
pick_exists m ready f are is pick = over (are.1 f is.0)
  where
    over : Contains ready f ⊎ Taken m f → (g : Firing) × IsPick m pick g
    over (inl k) = let s = some_at ready (pick % length ready) (mod_below pick (length ready) (some_there ready f k)) in (s.0, (ready, are, s.1))
    over (inr t) = absurd (is.1 t)

pub pick_in_exists : (m : State) (ready : FiringList) (buckets : ℕ) (f : Firing) → AreReady m ready → IsReadyIn m buckets f → (pick : ℕ) → (g : Firing) × IsPickIn m buckets pick g
pick_in_exists m ready buckets f are (is, inside) pick = over (are.1 f is.0)
  where
    over : Contains ready f ⊎ Taken m f → (g : Firing) × IsPickIn m buckets pick g
    over (inl k) =
        let those = those_in buckets ready in
        let s = some_at those (pick % length those) (mod_below pick (length those) (some_there those f (to_filter (is_in buckets) ready f k inside))) in
        (s.0, (ready, are, s.1))
    over (inr t) = absurd (is.1 t)

-- what is picked is ready
pub pick_is_ready : (m : State) (pick : ℕ) (f : Firing) → IsPick m pick f → IsReady m f
pick_is_ready m pick f (ready, are, at) = are.0 f (slice_get_Contains ready (pick % length ready) f at)

pub pick_in_is_ready : (m : State) (buckets pick : ℕ) (f : Firing) → IsPickIn m buckets pick f → IsReady m f
pick_in_is_ready m buckets pick f (ready, are, at) =
    are.0 f (from_filter (is_in buckets) ready f (slice_get_Contains (those_in buckets ready) (pick % length (those_in buckets ready)) f at)).0

-- and was picked before taken firings were applied
pub pick_before : (a b : State) (pick : ℕ) (f : Firing) → Applies a b → IsPick b pick f → IsPick a pick f
pick_before a b pick f p (ready, are, at) = (ready, are_ready_before a b p ready are, at)

pub pick_in_before : (a b : State) (buckets pick : ℕ) (f : Firing) → Applies a b → IsPickIn b buckets pick f → IsPickIn a buckets pick f
pick_in_before a b buckets pick f p (ready, are, at) = (ready, are_ready_before a b p ready are, at)

module _ (p : Parts) (k : Invariant p) (st : p.applied_count ≡ length p.log.items) where
  -- something that is ready is there, made or not
  pub ready_there : (f : Firing) → IsReady (state_of p) f → Contains k.all_ready f
  ready_there f is = over ((kept_in_order p k st).1 f is.0)
    where
      over : Contains (in_order firing_cmp k.all_ready) f ⊎ Taken (state_of p) f → Contains k.all_ready f
      over (inl m) = (members firing_cmp firing_cmp_total firing_cmp_ties k.all_ready f).0 m
      over (inr t) = absurd (is.1 t)

  -- the first of what was made is the least of all
  pub picks_least : KnowsLeast p → Rises firing_cmp p.ready → (f : Firing) → slice_get p.ready 0 ≡ Some f → IsPick (state_of p) 0 f
  picks_least least r f at =
      let all = in_order firing_cmp k.all_ready in
      let same = members firing_cmp firing_cmp_total firing_cmp_ties k.all_ready in
      (all, kept_in_order p k st, rw (zero-mod (length all)) (least_at all f (kept_in_order p k st).2 ((same f).1 (made_is_ready _ _ _ _ _ _ _ k.late f (slice_get_Contains p.ready 0 f at))) (λ g m. before g ((same g).0 m))))
    where
      before : (g : Firing) → Contains k.all_ready g → firing_le f g
      before g m = elim ((k.late.whole g).0 m).0 [ inl made ↦ first_least p.ready f g r at made | inr (e, i, w) ↦ inl (least f g e at i w.0) ]

  -- with no token late, each is picked of what was made
  pub picks_made : p.late ≡ [] → Rises firing_cmp p.ready → (pick : ℕ) (f : Firing) → slice_get p.ready (pick % length p.ready) ≡ Some f → IsPick (state_of p) pick f
  picks_made made r pick f at = (p.ready, kept_ready p k st made r, at)

-- the least of all needs no late token
pub least_needs_none : (p : Parts) → KnowsLeast p → (f : Firing) → slice_get p.ready 0 ≡ Some f → NeedsNoLate p f
least_needs_none p least f at e i n = irreflexive firing_cmp firing_cmp_total f (least f f e at i n)

-- where nothing is ready on a settled machine, firing is not refused
pub none_refused : (m new : State) (pick : ℕ) (e : Refusal) → IsSettled m → NothingReady m → FireAnswer m pick (Err e) new → ⊥
none_refused m new pick Full st none ((f, is), _, _) = is.1 (none f is.0)
none_refused m new pick NoMemory st none (inl u) = u.unsettled st
none_refused m new pick NoMemory st none (inr (f, may, _)) = let is = pick_is_ready m pick f may.0 in is.1 (none f is.0)

-- and nothing is fired
pub none_fired : (m new : State) (pick place : ℕ) → NothingReady m → FireAnswer m pick (Ok (step.Fired place)) new → ⊥
none_fired m new pick place none (f, may, _, _, _) = let is = pick_is_ready m pick f may.0 in is.1 (none f is.0)
