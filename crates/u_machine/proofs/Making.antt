-- How a machine goes on that makes firings of late tokens.
use Rattle.std.proofs.Common.{◌≡◌, ◌∙◌, ◌≤◌, ◌-◌, inl, inr, refl, sym, [], ap, append-nil, length, take, drop, arith}
use Rattle.std.specs.Prelude.{Contains}
use Rattle.std.proofs.lemmas.List.{take-append-drop, length-drop}
use Rattle.std.proofs.lemmas.List.Elements.{Contains-append_cases}
use Rattle.u_check.specs.Jobs.{JobParts}
use Rattle.u_sets.specs.Members.{IsWith, AreThose, HasOr}
use Rattle.u_rule.specs.declared.entry.Entry.{Entry}
use Rattle.u_rule.specs.declared.firing.Firing.{Firing}
use Rattle.u_rule.specs.Rule.{own_of}
use Rattle.u_rule.specs.EntryOrder.{EntryList, FiringList}
use Rattle.u_match.specs.Waking.{IsWokenBy}
use Rattle.u_machine.proofs.Counting.{all_there, Distinct-right}
use Rattle.u_machine.proofs.Lists.{Contains-taken, Contains-dropped}
use Rattle.u_machine.specs.declared.parts.Parts.{Parts}
use Rattle.u_machine.specs.Calls.{Applies}
use Rattle.u_machine.specs.State.{State}
use Rattle.u_machine.specs.Invariant.{state_of, taken_of, Invariant, GoesOn, MakesMore, parked_of}
use Rattle.u_machine.proofs.States.{Applies-refl}

pub makes_none : (p : Parts) → MakesMore p p
makes_none p = record { state = refl; log = refl; applied_count = refl; woken = refl; in_flight = refl }

pub makes_on : (a b c : Parts) → MakesMore a b → MakesMore b c → MakesMore a c
makes_on a b c p q = record { state = q.state ∙ p.state; log = q.log ∙ p.log; applied_count = q.applied_count ∙ p.applied_count; woken = q.woken ∙ p.woken; in_flight = q.in_flight ∙ p.in_flight }

-- the job stays
pub same_job : (a b : Parts) → MakesMore a b → b.job.now ≡ a.job.now
same_job a b p = ap (λ (m : State). m.job) p.state

-- nothing is applied, and the log is the same
pub makes_applies : (a b : Parts) → MakesMore a b → Applies (state_of a) (state_of b)
makes_applies a b p = rw p.state (Applies-refl (state_of a))

pub makes_goes_on : (a b : Parts) → MakesMore a b → GoesOn a b
makes_goes_on a b p = record { job = same_job a b p; applied_count = p.applied_count; log = ([], p.log ∙ sym (append-nil a.log.items)); in_flight = p.in_flight }

-- what an entry wakes over a history and itself, it wakes over the history with it
pub woken_with : (job : JobParts) (e : Entry) (history more : EntryList) (fs : FiringList) → IsWith history e more → AreThose (IsWokenBy job e (HasOr history e)) fs → AreThose (IsWokenBy job e (Contains more)) fs
woken_with job e history more fs w exact f = ((λ m. let k = (exact f).0 m in (k.0, (k.1.0, λ x n. (w x).1 (k.1.1 x n)))), λ k. (exact f).1 (k.0, (k.1.0, λ x n. (w x).0 (k.1.1 x n))))

-- where no firing is parked that waits for its needs, none was taken that needs an entry which is new
pub untaken_new : (p : Parts) (k : Invariant p) → length (parked_of p) ≤ length p.log.items - p.applied_count → (e : Entry) → (Contains p.matcher e → ⊥) → (f : Firing) → Contains ((own_of p.job.now).needs f) e → Contains (taken_of p) f → ⊥
untaken_new p k few e fresh f n t =
    elim (Contains-append_cases (take p.applied_count p.log.items) (parked_of p) f t)
    [ inl a ↦ logged (Contains-taken p.applied_count p.log.items f a) | inr b ↦ logged (Contains-dropped p.applied_count p.log.items f (begun b)) ]
  where
    behind : FiringList
    behind = drop p.applied_count p.log.items

    begun : Contains (parked_of p) f → Contains behind f
    begun = all_there behind (parked_of p) (Distinct-right (take p.applied_count p.log.items) behind (rw take-append-drop k.logged.apart)) k.logged.begun (let l = length-drop p.applied_count p.log.items in omega (arith, few, l)) f

    logged : Contains p.log.items f → ⊥
    logged m = fresh ((k.partitioned.logged f m).1 e n)

-- nothing that was begun is left where nothing was
pub makes_settled : (a b : Parts) → MakesMore a b → a.applied_count ≡ length a.log.items → b.applied_count ≡ length b.log.items
makes_settled a b p st = p.applied_count ∙ st ∙ ap length (sym p.log)
