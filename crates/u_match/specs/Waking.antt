-- Which firings an entry wakes, and what comes of an entry that enters.
use Rattle.std.specs.Prelude.{◌≡◌, List, [], ◌∷◌, Contains, Result, Ok, Err}
use Rattle.std.specs.declared.alloc.AllocError.{AllocError}
use Rattle.u_check.specs.Jobs.{JobParts}
use Rattle.u_rule.specs.Rule.{own_of}
use Rattle.u_rule.specs.Parts.{TokenParts}
use Rattle.u_rule.specs.EntryOrder.{firing_cmp}
use Rattle.u_rule.specs.declared.entry.Entry.{Entry}
use Rattle.u_rule.specs.declared.entry.Entry.TheVariants as entries
use Rattle.u_rule.specs.declared.firing.Firing.{Firing}
use Rattle.u_base.specs.Firing.{Enabled}
use Rattle.u_sets.specs.Members.{AreThose, IsWith, HasOr}
use Rattle.u_sets.specs.Rising.{Rises}
use Rattle.u_match.specs.declared.matcher.Entered.{Entered}
use Rattle.u_match.specs.declared.matcher.Entered.TheVariants as entered

-- f needs the entry, and is enabled over H
abbrev pub IsWokenBy : JobParts → Entry → (Entry → Type 0) → Firing → Type 0
IsWokenBy job entry H f = Contains ((own_of job).needs f) entry × Enabled (own_of job) H f

-- the entry is a token, and the firings that it wakes over H are those of a list that has some
pub record WakesSome (job : JobParts) (entry : Entry) (H : Entry → Type 0) : Type 0 where
  pub token : (t : TokenParts) × (entry ≡ entries.Token t)
  pub first : Firing
  pub rest : List Firing
  pub exact : AreThose (IsWokenBy job entry H) (first ∷ rest)

-- The entry was there; or it is new and enters, and the firings are those that it wakes, in order; or it is
-- new, and nothing changes since it would wake many; or there is no memory, and nothing changes.
abbrev pub Enters : JobParts → List Entry → Entry → Result Entered AllocError → List Firing → List Entry → Type 0
Enters job old entry (Ok entered.Known) woken new = Contains old entry × (new ≡ old)
Enters job old entry (Ok entered.Woken) woken new =
    (Contains old entry → ⊥) × IsWith old entry new × AreThose (IsWokenBy job entry (Contains new)) woken × Rises firing_cmp woken
Enters job old entry (Ok entered.Many) woken new = (Contains old entry → ⊥) × (new ≡ old) × WakesSome job entry (HasOr old entry)
Enters job old entry (Err _) woken new = new ≡ old

-- the same, and nothing else is woken
abbrev pub EnterAnswer : JobParts → List Entry → Entry → Result Entered AllocError → List Firing → List Entry → Type 0
EnterAnswer job old entry (Ok entered.Known) woken new = (woken ≡ []) × Contains old entry × (new ≡ old)
EnterAnswer job old entry (Ok entered.Woken) woken new =
    (Contains old entry → ⊥) × IsWith old entry new × AreThose (IsWokenBy job entry (Contains new)) woken × Rises firing_cmp woken
EnterAnswer job old entry (Ok entered.Many) woken new =
    (woken ≡ []) × (Contains old entry → ⊥) × (new ≡ old) × WakesSome job entry (HasOr old entry)
EnterAnswer job old entry (Err _) woken new = (woken ≡ []) × (new ≡ old)

-- what is left of the firings: all of them where the entry woke them, and else nothing
abbrev pub IsLeft : Result Entered AllocError → List Firing → List Firing → Type 0
IsLeft (Ok entered.Woken) firings left = left ≡ firings
IsLeft (Ok entered.Known) firings left = left ≡ []
IsLeft (Ok entered.Many) firings left = left ≡ []
IsLeft (Err _) firings left = left ≡ []
