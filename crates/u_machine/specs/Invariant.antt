-- How a machine is kept: its log runs ahead of what was applied, and the firings that an entry enabled
-- are sorted out one after another.
use Rattle.std.specs.Prelude.{◌≡◌, ◌↔◌, Bool, true, false, ℕ, ◌+◌, ◌≤◌, ◌<◌, [], ◌∷◌, ◌++◌, Some, ◌⊎◌, length, reverse, take, drop, Contains, slice_get}
use Rattle.std.specs.declared.cmp.Ordering.TheVariants.{Less}
use Rattle.u_check.specs.Jobs.{JobParts}
use Rattle.u_rule.specs.Rule.{own_of}
use Rattle.u_rule.specs.EntryOrder.{FiringList, EntryList, firing_cmp}
use Rattle.u_rule.specs.Parts.{TokenParts}
use Rattle.u_rule.specs.declared.entry.Entry.{Entry}
use Rattle.u_rule.specs.declared.entry.Entry.TheVariants.{Token as token_entry}
use Rattle.u_rule.specs.declared.firing.Firing.{Firing}
use Rattle.u_base.specs.Firing.{Held, Enabled, Derivation, Distinct}
use Rattle.u_match.specs.Waking.{IsWokenBy}
use Rattle.u_machine.specs.State.{State, state, IsSound, IsPick}
use Rattle.u_machine.specs.Calls.{Takes}
use Rattle.u_machine.specs.declared.parts.Parts.{Parts}

-- The parked firings: one that is in flight stands at the end of the log, behind those that were applied, and no
-- others are parked.
abbrev pub parked_with : Bool → ℕ → FiringList → FiringList → FiringList
parked_with true applied_count log parked = drop applied_count log
parked_with false applied_count log parked = parked

abbrev pub parked_of : Parts → FiringList
parked_of p = parked_with p.in_flight p.applied_count p.log.items p.parked

-- The last firing of the log alone is being applied, and it is not among the parked ones, of which there are none.
pub record IsInFlight (applied_count : ℕ) (log parked : FiringList) : Type 0 where
  pub last : length log ≡ applied_count + 1
  pub alone : parked ≡ []

-- The first `applied_count` firings of the log were applied: all that they give has entered. The others
-- of the log are being applied, and count as parked until they are. The matcher has the history.
abbrev pub state_of : Parts → State
state_of p = state p.job.now p.limit (take p.applied_count p.log.items) (parked_of p) p.matcher

-- the taken firings
abbrev pub taken_of : Parts → FiringList
taken_of p = take p.applied_count p.log.items ++ parked_of p

-- the firings that the last entry woke and that are still to be sorted out
abbrev pub woken_of : Parts → FiringList
woken_of p = reverse p.woken.items

-- f is the first of them
abbrev pub IsNext : Parts → Firing → Type 0
IsNext p f = (rest : FiringList) × (woken_of p ≡ f ∷ rest)

-- the log, and the parked firings
pub record IsLogged (job : JobParts) (limit : ℕ) (log : FiringList) (applied_count : ℕ) (parked : FiringList) (history : EntryList) : Type 0 where
  pub is : IsSound (state job limit (take applied_count log) parked history)
  pub place : applied_count ≤ length log
  pub derivation : Derivation (own_of job) log
  pub apart : Distinct log
  pub begun : (f : Firing) → Contains (drop applied_count log) f → Contains parked f
  pub lies : (e : Entry) → Contains history e → Held (own_of job) log e

-- each firing that is enabled over the history is in one of three lists: it is ready, or in the log, or
-- was woken and is still to be sorted out
pub record IsPartitioned (job : JobParts) (log taken ready woken : FiringList) (history : EntryList) : Type 0 where
  pub logged : (f : Firing) → Contains log f → Enabled (own_of job) (Contains history) f
  pub fit : (f : Firing) → Contains ready f → Enabled (own_of job) (Contains history) f × (Contains taken f → ⊥)
  pub neither : (f : Firing) → Contains woken f → Enabled (own_of job) (Contains history) f × (Contains ready f → ⊥) × (Contains log f → ⊥)
  pub once : Distinct woken
  pub all : (f : Firing) → Enabled (own_of job) (Contains history) f → Contains ready f ⊎ Contains log f ⊎ Contains woken f

-- f needs one of the late tokens, and is enabled over the history
abbrev pub Waits : JobParts → EntryList → EntryList → Firing → Type 0
Waits job late history f = (e : Entry) × Contains late e × IsWokenBy job e (Contains history) f

-- All that is ready are the ready firings that were made and those that late tokens wake, without those that
-- are still to be sorted out. Each late token is in the history, and wakes some firing and none that was taken.
pub record HasLate (job : JobParts) (taken all_ready ready woken : FiringList) (late history : EntryList) : Type 0 where
  pub whole : (f : Firing) → Contains all_ready f ↔ ((Contains ready f ⊎ Waits job late history f) × (Contains woken f → ⊥))
  pub apart : (f : Firing) → Contains ready f → Contains woken f → ⊥
  pub untaken : (f : Firing) → Waits job late history f → Contains taken f → ⊥
  pub token : (e : Entry) → Contains late e → (t : TokenParts) × (e ≡ token_entry t)
  pub there : (e : Entry) → Contains late e → Contains history e
  pub some : (e : Entry) → Contains late e → (f : Firing) × IsWokenBy job e (Contains history) f

-- what is kept: where nothing is being applied, nothing is left to be sorted out
pub record Invariant (p : Parts) : Type 0 where
  pub all_ready : FiringList
  pub logged : IsLogged p.job.now p.limit p.log.items p.applied_count (parked_of p) p.matcher
  pub partitioned : IsPartitioned p.job.now p.log.items (taken_of p) all_ready (woken_of p) p.matcher
  pub late : HasLate p.job.now (taken_of p) all_ready p.ready (woken_of p) p.late p.matcher
  pub idle : p.applied_count ≡ length p.log.items → woken_of p ≡ []
  pub flight : p.in_flight ≡ true → IsInFlight p.applied_count p.log.items p.parked

-- a firing that is being applied gives the entry
abbrev pub Gives : Parts → Entry → Type 0
Gives p e = (f : Firing) × (place : ℕ) × (p.applied_count ≤ place) × (slice_get p.log.items place ≡ Some f) × Contains ((own_of p.job.now).gives f) e

-- all that the firing at that place of the log gives has entered
abbrev pub HasEntered : Parts → ℕ → Type 0
HasEntered p place = (f : Firing) → slice_get p.log.items place ≡ Some f → (e : Entry) → Contains ((own_of p.job.now).gives f) e → Contains p.matcher e

-- of the firings that are being applied and stand before that place of the log, all that they give has entered
abbrev pub EnteredBefore : Parts → ℕ → Type 0
EnteredBefore p place = (k : ℕ) → p.applied_count ≤ k → k < place → HasEntered p k

-- the list goes on
abbrev pub Lengthens : FiringList → FiringList → Type 0
Lengthens old new = (rest : FiringList) × (new ≡ old ++ rest)

-- the same firings are applied, and the log goes on
pub record GoesOn (old new : Parts) : Type 0 where
  pub job : new.job.now ≡ old.job.now
  pub applied_count : new.applied_count ≡ old.applied_count
  pub log : Lengthens old.log.items new.log.items
  pub in_flight : new.in_flight ≡ old.in_flight

-- more of the log is applied, and the log and the woken firings are the same
pub record SameButApplied (old new : Parts) : Type 0 where
  pub job : new.job.now ≡ old.job.now
  pub log : new.log.items ≡ old.log.items
  pub woken : woken_of new ≡ woken_of old
  pub matcher : new.matcher ≡ old.matcher

-- the ready firing at that place is taken, and goes to the end of the log
pub record Begins (old : Parts) (place : ℕ) (new : Parts) : Type 0 where
  pub firing : Firing
  pub at : slice_get old.ready place ≡ Some firing
  pub takes : Takes (state_of old) firing (state_of new)
  pub log : new.log.items ≡ old.log.items ++ firing ∷ []

-- f needs no late token
abbrev pub NeedsNoLate : Parts → Firing → Type 0
NeedsNoLate p f = (e : Entry) → Contains p.late e → Contains ((own_of p.job.now).needs f) e → ⊥

-- the first of the ready firings that were made stands before all that need a late token
abbrev pub KnowsLeast : Parts → Type 0
KnowsLeast p =
    (f g : Firing) (e : Entry) → slice_get p.ready 0 ≡ Some f → Contains p.late e → Contains ((own_of p.job.now).needs g) e
    → firing_cmp f g ≡ Less

-- nothing changes but what is made: tokens that were late may be late no more
pub record MakesMore (old new : Parts) : Type 0 where
  pub state : state_of new ≡ state_of old
  pub log : new.log.items ≡ old.log.items
  pub applied_count : new.applied_count ≡ old.applied_count
  pub woken : woken_of new ≡ woken_of old
  pub in_flight : new.in_flight ≡ old.in_flight

-- none of the entries is in the set
abbrev pub HasNoneOf : EntryList → EntryList → Type 0
HasNoneOf set es = (e : Entry) → Contains set e → Contains es e → ⊥

-- the set gains some of the firings, or all of them
abbrev pub GainsSome : FiringList → FiringList → FiringList → Type 0
GainsSome old fs new = (f : Firing) → (Contains old f → Contains new f) × (Contains new f → Contains old f ⊎ Contains fs f)

-- the picked one of all that is ready, made or not, is taken, and goes to the end of the log
pub record BeginsPicked (old : Parts) (pick : ℕ) (new : Parts) : Type 0 where
  pub firing : Firing
  pub picked : IsPick (state_of old) pick firing
  pub takes : Takes (state_of old) firing (state_of new)
  pub log : new.log.items ≡ old.log.items ++ firing ∷ []
