-- What follows from how the workers of a fleet ended.
use Rattle.std.proofs.Common.{◌≡◌, ℕ, List, [], ◌∷◌, ◌<◌, ◌+◌, map, take, drop, length, refl, sym, subst, ◌∙◌, arith, Result, Ok, Err, IfOk}
use Rattle.left_right.specs.declared.Absorb as absorb
use Rattle.std.specs.Prelude.{Contains, slice_index_or}
use Rattle.std.proofs.Math.Seq.{drop-cons}
use Rattle.std.proofs.lemmas.List.{get_or_default, get_or-map, length-map}
use Rattle.std.proofs.lemmas.List.Elements.{All-contains, All-drop, All-take}
use Rattle.u_base.specs.Firing.{Derivation}
use Rattle.u_check.specs.Jobs.{JobParts}
use Rattle.u_rule.specs.Rule.{own_of}
use Rattle.u_rule.specs.declared.firing.Firing.{Firing}
use Rattle.u_machine.specs.State.{State, IsMachine, NothingReady}
use Rattle.u_machine.specs.Headline.{IsWhole}
use Rattle.u_outlet.specs.Sound.{IsSound}
use Rattle.u_fleet.specs.Fleets.{Pair, list_of, end_of, AreCounted, HaveWorked}
use Rattle.u_fleet.specs.Headline.{MoreThan, IsWholeList, HasEnded, AreRuns, IsPublished, TookPublished, HaveEnded}
use Rattle.u_fleet.specs.declared.gate.Turn.{Turn}
use Rattle.u_fleet.specs.declared.plan.End.{End}
use Rattle.u_fleet.specs.declared.plan.End.TheVariants.{Done, Full}
use Rattle.u_fleet.specs.declared.plan.FleetPlan.{FleetPlan}
use Rattle.u_fleet.proofs.Soundness.{run_sound, from_all}
use Rattle.u_fleet.proofs.Reporting.{whole_published, took_whole, nothing_left}

-- a part of one element
pub one_of : {X : Type 0} (xs : List X) (k n : ℕ) (d : X) → n ≡ 1 → k < length xs → take n (drop k xs) ≡ slice_index_or xs k d ∷ []
one_of xs k n d one small = rw (one, drop-cons xs k d small) refl

-- each firing of runs is sound
pub runs_sound : (job : JobParts) (lists : List (List Firing)) → AreRuns job lists → (f : Firing) → IsPublished lists f → IsSound job f
runs_sound job lists runs f p = from_all job p.0 (run_sound job p.0 (All-contains (λ fs. Derivation (own_of job) fs) lists p.0 runs p.1)) f p.2

-- a part of runs is runs
pub part_runs : (job : JobParts) (lists : List (List Firing)) (k n : ℕ) → AreRuns job lists → AreRuns job (take n (drop k lists))
part_runs job lists k n runs = All-take (λ fs. Derivation (own_of job) fs) n (drop k lists) (All-drop (λ fs. Derivation (own_of job) fs) k lists runs)

module _ (job : JobParts) (lists : List (List Firing)) (k : ℕ) (small : k < length lists) (runs : AreRuns job lists) (whole : IsWholeList job (slice_index_or lists k [])) (m : State) where
  at : Contains lists (slice_index_or lists k [])
  at = (k, small, get_or_default lists k (slice_index_or lists k []) [] small)

  -- the machine that took a whole list took all that is published
  pub took_done : (n : ℕ) → TookPublished job (take n (drop k lists)) m → n ≡ 1 → TookPublished job lists m
  took_done n took one =
      took_whole job lists (slice_index_or lists k []) m (whole_published job lists (slice_index_or lists k []) at whole (runs_sound job lists runs)) (subst (λ ls. TookPublished job ls m) (one_of lists k n [] one small) took)

  pub left_done : (n : ℕ) → IsMachine m → TookPublished job (take n (drop k lists)) m → n ≡ 1 → NothingReady m × IsWhole m
  left_done n is took one = nothing_left job lists (slice_index_or lists k []) m is at whole (took_done n took one)

module _ (may : ℕ → ℕ → Turn → Type 0) (job : JobParts) (plan : FleetPlan) (lists : List (List Firing)) (ends : List End) (ended : HaveEnded may job plan lists ends) where
  pub have_runs : AreRuns job lists
  have_runs k d small = subst (λ fs. Derivation (own_of job) fs) (get_or_default lists k [] d small) (ended.each k (let n = ended.one_list in omega (arith, n, small))).run

  -- the list of a worker that is done
  pub have_whole : (k : ℕ) → k < length ends → slice_index_or ends k Done ≡ Done → IsWholeList job (slice_index_or lists k [])
  have_whole k small done =
      (subst (λ end. HasEnded may job plan.limit plan.rounds (k + 1) (slice_index_or lists k []) end) done (ended.each k (let n = ended.one_end in omega (arith, n, small)))).ends

  -- the end of a worker that had no room
  pub have_more : Contains ends Full → MoreThan job plan.limit
  have_more (k, small, full) =
      (subst (λ end. HasEnded may job plan.limit plan.rounds (k + 1) (slice_index_or lists k []) end) (get_or_default ends k Done Full small ∙ full)
      (ended.each k (let n = ended.one_end in omega (arith, n, small)))).ends

pub always_ok : {T E : Type 0} (r : Result T E) (P : T → Type 0) → ((x : T) → P x) → IfOk r P
always_ok (Ok x) P all = all x
always_ok (Err e) P all = tt

element : {X : Type 0} (xs : List X) (k : ℕ) → k < length xs → X
element [] k small = absurd (omega arith)
element (x ∷ xs) k small = x

-- the lists and the ends of workers that have worked
module _ {J P : Type 0} {g : absorb.Ghosts (List Firing) (List Firing) (List Firing)} (may : ℕ → ℕ → Turn → Type 0) (job : JobParts) (plan : FleetPlan) (old new : List (Pair J P g)) where
  pub have_ended : length old ≡ plan.workers → length new ≡ length old → AreCounted old → HaveWorked may job plan old new → HaveEnded may job plan (map list_of new) (map end_of new)
  have_ended many kept counted worked = record { one_list = length-map new list_of ∙ (kept ∙ many); one_end = length-map new end_of ∙ (kept ∙ many); each = each }
    where
      each : (k : ℕ) → k < plan.workers → HasEnded may job plan.limit plan.rounds (k + 1) (slice_index_or (map list_of new) k []) (slice_index_or (map end_of new) k Done)
      each k low =
          let small : k < length old = omega (arith, many, low) in
          let within : k < length new = omega (arith, kept, small) in
          let d = element new k within in
          subst (λ fs. HasEnded may job plan.limit plan.rounds (k + 1) fs (slice_index_or (map end_of new) k Done)) (sym (get_or-map list_of new k d [] within))
          (subst (λ end. HasEnded may job plan.limit plan.rounds (k + 1) (list_of (slice_index_or new k d)) end) (sym (get_or-map end_of new k d Done within))
          (subst (λ n. HasEnded may job plan.limit plan.rounds n (list_of (slice_index_or new k d)) (end_of (slice_index_or new k d))) (counted k d small) (worked k d small).1))
