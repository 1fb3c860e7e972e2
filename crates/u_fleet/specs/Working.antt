-- What work is: ready firings in held buckets are fired, one after another.
use Rattle.std.specs.Prelude.{◌≡◌, ℕ, ◌<◌, ◌≤◌, ◌+◌, List, ◌⊎◌, ◌↔◌, length, IsTrue, Contains, Result, Ok, Err}
use Rattle.u_base.specs.Firing.{Enabled, Cl, EachPlace}
use Rattle.u_claims.specs.declared.rule.Hand.{Hand}
use Rattle.u_rule.specs.Rule.{own_of}
use Rattle.u_rule.specs.declared.firing.Firing.{Firing}
use Rattle.u_machine.specs.Masks.{is_in}
use Rattle.u_machine.specs.State.{State, Taken, IsSettled, count_of, IsReadyIn}
use Rattle.u_machine.specs.Calls.{Grows, firing_le}
use Rattle.u_fleet.specs.Shares.{IsPartOf, LeavesToOthers}
use Rattle.u_fleet.specs.declared.answer.Work.{Work}
use Rattle.u_fleet.specs.declared.answer.WorkFault.{WorkFault}
use Rattle.u_fleet.specs.declared.answer.WorkFault.TheVariants.{Full, NoMemory}

-- f is the least, of those in the mask, that are enabled over the closure of what was taken with `done` and are in neither
pub record IsNextIn (buckets : ℕ) (m : State) (done : List Firing) (f : Firing) : Type 0 where
  pub inside : IsTrue (is_in buckets f)
  pub enabled : Enabled (own_of m.job) (Cl (own_of m.job) (λ g. Taken m g ⊎ Contains done g)) f
  pub new : (Taken m f ⊎ Contains done f) → ⊥
  pub least :
      (g : Firing) → IsTrue (is_in buckets g) → Enabled (own_of m.job) (Cl (own_of m.job) (λ h. Taken m h ⊎ Contains done h)) g
      → (Taken m g ⊎ Contains done g) ⊎ firing_le f g

-- gs were fired one after another, each the least that was ready and in the mask; nothing else was taken, and nothing is lost
pub record FiresIn (buckets : ℕ) (old : State) (gs : List Firing) (new : State) : Type 0 where
  pub grows : Grows old new
  pub inside : (g : Firing) → Contains gs g → IsTrue (is_in buckets g)
  pub each : EachPlace (IsNextIn buckets old) gs
  pub taken : (g : Firing) → Taken new g ↔ (Taken old g ⊎ Contains gs g)
  pub count : count_of new ≡ count_of old + length gs

-- as many were fired in the held buckets as it says, and no more than the budget
abbrev pub Worked : State → ℕ → Work → State → Type 0
Worked old budget w new = (gs : List Firing) × FiresIn w.held old gs new × (length gs ≡ w.fired) × (w.fired ≤ budget)

-- where fewer were fired than the budget, nothing that is ready is in a held bucket
abbrev pub LeavesNone : ℕ → Work → State → Type 0
LeavesNone budget w new = w.fired < budget → (f : Firing) → IsReadyIn new w.held f → ⊥

-- gs were fired in the held buckets; then none is ready there, or the budget is spent; or there is no room for one that
-- is ready there; or there is no memory
abbrev pub FireHeldAnswer : State → (held budget : ℕ) → Result Work WorkFault → State → Type 0
FireHeldAnswer old held budget (Ok w) new = (w.held ≡ held) × Worked old budget w new × LeavesNone budget w new
FireHeldAnswer old held budget (Err Full) new =
    (gs : List Firing) × FiresIn held old gs new × (length gs < budget) × IsSettled new × ((f : Firing) × IsReadyIn new held f)
    × (count_of new ≡ new.limit)
FireHeldAnswer old held budget (Err NoMemory) new = (gs : List Firing) × FiresIn held old gs new × (length gs ≤ budget)

-- and the held buckets are those of the share that are not left to other seats
abbrev pub WorkAnswer : Hand → (share budget : ℕ) → State → Result Work WorkFault → State → Type 0
WorkAnswer seat share budget old result new =
    (held : ℕ) × IsPartOf held share × LeavesToOthers seat share held × FireHeldAnswer old held budget result new
