-- A fleet whose gate lets each worker go on: none is stopped, so some worker is done, and the report is whole.
use Rattle.std.specs.Prelude.{◌≡◌, ℕ, zero, suc, ◌≤◌, ◌<◌, ◌⊎◌, List, [], ◌∷◌, length, Contains, slice_index_or}
use Rattle.std.proofs.Common.{inl, inr, subst, sym, arith, ap, ◌∙◌}
use Rattle.u_base.proofs.Member.{Contains-nil, Contains-head, Contains-tail, Contains-cons_cases}
use Rattle.u_check.specs.Jobs.{JobParts}
use Rattle.u_rule.specs.declared.firing.Firing.{Firing}
use Rattle.u_machine.specs.State.{State, IsMachine, NothingReady}
use Rattle.u_machine.specs.Headline.{IsWhole}
use Rattle.u_history.specs.declared.report.Ending.TheVariants.{Quiet}
use Rattle.u_fleet.specs.Headline.{EndsWith, IsReport, AreStopped}
use Rattle.u_fleet.specs.declared.plan.End.{End}
use Rattle.u_fleet.specs.declared.plan.End.TheVariants.{Done, Stopped, Full, NoMemory}
use Rattle.u_commands.specs.Runs.{ReportsMachine}
use Rattle.u_cli.specs.Fleets.{fleet_plan, goes, TellsFleet}

-- what is so of the later ones is so of all, where the first is not done
behind : (end : End) (ends : List End) → (end ≡ Done → ⊥) → Contains ends Done ⊎ (Contains ends Done → ⊥) → Contains (end ∷ ends) Done ⊎ (Contains (end ∷ ends) Done → ⊥)
behind end ends other later =
    elim later [
      | inl c ↦ inl (Contains-tail end Done ends c)
      | inr n ↦ inr (λ c. elim (Contains-cons_cases end Done ends c) [ inl e ↦ other e | inr d ↦ n d ])
    ]

-- some worker is done, or none is
some_done : (ends : List End) → Contains ends Done ⊎ (Contains ends Done → ⊥)
some_done [] = inr (Contains-nil Done)
some_done (Done ∷ ends) = inl (Contains-head Done ends)
some_done (Stopped ∷ ends) = behind Stopped ends (λ e. absurd (cc)) (some_done ends)
some_done (Full ∷ ends) = behind Full ends (λ e. absurd (cc)) (some_done ends)
some_done (NoMemory ∷ ends) = behind NoMemory ends (λ e. absurd (cc)) (some_done ends)

-- the first worker is stopped, where all are
first_stopped : (ends : List End) (workers : ℕ) → 1 ≤ workers → length ends ≡ workers → AreStopped ends → slice_index_or ends 0 Done ≡ Stopped
first_stopped [] workers low count all = absurd (omega (arith, low, count))
first_stopped (end ∷ ends) workers low count all = all end (Contains-head end ends)

-- no worker is stopped by a gate that lets each go on
not_stopped : (job : JobParts) (limit rounds worker : ℕ) (fs : List Firing) (end : End) → EndsWith goes job limit rounds worker fs end → end ≡ Stopped → ⊥
not_stopped job limit rounds worker fs Done e s = absurd (cc)
not_stopped job limit rounds worker fs Stopped e s = let t = e.2 in absurd (cc)
not_stopped job limit rounds worker fs Full e s = absurd (cc)
not_stopped job limit rounds worker fs NoMemory e s = absurd (cc)

module _ (job : JobParts) (workers rounds : ℕ) (low : 1 ≤ workers) (m : State) (lists : List (List Firing)) (ends : List End) (r : IsReport goes job (fleet_plan workers rounds) m lists ends) where
  done : Contains ends Done
  done =
      elim (some_done ends) [
        | inl c ↦ c
        | inr n ↦
            let first = r.ended.each 0 low in
            absurd (not_stopped job 100000 rounds 1 (slice_index_or lists 0 []) (slice_index_or ends 0 Done) first.ends (first_stopped ends workers low r.ended.one_end (r.none_done n)))
      ]

  -- so the report is that of the whole history
  pub tells_fleet : (report : List ℕ) (status : ℕ) → IsMachine m → ReportsMachine m Quiet report status → TellsFleet job workers rounds report status
  tells_fleet report status is reported =
      let whole = r.done done in
      record { machine = m; is = is; published = lists; ends = ends; fleet = r; ready = whole.0; whole = whole.1; reported = reported }
