-- Lists of names, and the names that frames and places give.
use Rattle.std.specs.Prelude.{◌<◌, List, [], ◌∷◌, map, length, Contains}
use Rattle.std.proofs.Common.{get_or}
use Rattle.std.specs.Coded.{Coded, coded_list}
use Rattle.u_base.specs.Firing.{Distinct}
use Rattle.u_name.specs.Context.{Top}
use Rattle.u_name.specs.Name.{Activity, activity, activity_code}
use Rattle.u_names.specs.Places.{NamePlaceParts, IsPlace}
use Rattle.u_names.specs.Frames.{FrameParts, frame}

abbrev pub names_code : Coded (List Activity)
names_code = coded_list activity_code

abbrev pub name_in : FrameParts → NamePlaceParts → Activity
name_in f p = activity f.context f.block p.statement p.initiation

-- where a number is that of no frame; `HaveFrames` rules that out
abbrev pub no_frame : FrameParts
no_frame = frame Top []

-- the name that a place gives, whose frame is the one at its number
abbrev pub name_at : List FrameParts → NamePlaceParts → Activity
name_at fs p = name_in (get_or fs p.frame no_frame) p

abbrev pub names_at : List FrameParts → List NamePlaceParts → List Activity
names_at fs ps = map (λ (p : NamePlaceParts). name_at fs p) ps

-- the number of each place's frame is that of a frame
abbrev pub HaveFrames : List FrameParts → List NamePlaceParts → Type 0
HaveFrames fs ps = (p : NamePlaceParts) → Contains ps p → p.frame < length fs

-- no frame has two numbers, and no place; the parts of places are in their ranges
pub record AreNames (fs : List FrameParts) (ps : List NamePlaceParts) : Type 0 where
  pub frames : Distinct fs
  pub places : Distinct ps
  pub framed : HaveFrames fs ps
  pub ranged : (p : NamePlaceParts) → Contains ps p → IsPlace p

-- the names of a table that stands alone
abbrev pub names_of_one : List (List Activity) → List Activity
names_of_one [] = []
names_of_one (names ∷ others) = names
