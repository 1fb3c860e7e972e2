-- What is found in each block, by what meets.
use Rattle.std.specs.Prelude.{◌≡◌, ℕ, ◌-◌, ◌<◌, ◌≤◌, List, length, Option, Some, None, slice_get}
use Rattle.u_program.specs.Parts.{StatementParts, BlockParts}
use Rattle.u_determinate.specs.Breaches.{IsFirstFailing}
use Rattle.u_determinate.specs.declared.verdict.Meeting.{Meeting}
use Rattle.u_determinate.specs.declared.verdict.Meeting.TheVariants.{Arcs, Ends, Calls, Turns}
use Rattle.u_determinate.specs.declared.verdict.MeetingPoint.{MeetingPoint}
use Rattle.u_determinate.specs.declared.first_meeting.Found.{Found}
use Rattle.u_determinate.specs.Meetings.{Asks}

-- the number that was found of that kind
abbrev pub found_of : Found → Meeting → Option ℕ
found_of f Arcs = f.arcs
found_of f Ends = f.ends
found_of f Calls = f.calls
found_of f Turns = f.turns

-- they are the first statements where each kind meets
abbrev pub AreFirst : List StatementParts → Found → Type 0
AreFirst ss f = (m : Meeting) → IsFirstFailing (Asks m ss) (found_of f m)

-- what is found is that of each block, by its place
pub record AreFindings (p : List BlockParts) (fs : List Found) : Type 0 where
  pub count : length fs ≡ length p
  pub each : (i : ℕ) (b : BlockParts) (f : Found)
      → slice_get p i ≡ Some b
      → slice_get fs i ≡ Some f
      → AreFirst b.statements f

-- the place is the first where something of that kind was found
pub record IsFirstPlace (fs : List Found) (m : Meeting) (place : MeetingPoint) : Type 0 where
  pub meeting : place.meeting ≡ m
  pub counts : 1 ≤ place.block
  pub it : Found
  pub stands : slice_get fs (place.block - 1) ≡ Some it
  pub found : found_of it m ≡ Some place.at
  pub before : (i : ℕ) (f : Found)
      → i < place.block - 1
      → slice_get fs i ≡ Some f
      → found_of f m ≡ None

-- that place, or none where nothing of that kind was found
abbrev pub IsFirstFound : List Found → Meeting → Option MeetingPoint → Type 0
IsFirstFound fs m None = (i : ℕ) (f : Found) → slice_get fs i ≡ Some f → found_of f m ≡ None
IsFirstFound fs m (Some place) = IsFirstPlace fs m place
