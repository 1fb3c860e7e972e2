-- The lines of a program's text, from their ends on: what may stand behind each word.
use Rattle.std.specs.Prelude.{◌≡◌, ◌⊎◌, Bool, true, false, cond, ℕ, suc, ◌-◌, ◌≤◌, List, [], ◌∷◌, ◌++◌, length, map, codes, FitsSigned}
use Rattle.std.specs.Fmt.{decimal, signed_decimal}
use Rattle.std.specs.Int.{w64}
use Rattle.u_name.specs.Block.{IsBlock}
use Rattle.u_base.specs.Spaced.{spaced}
use Rattle.u_program.specs.declared.program.Version.{Version}
use Rattle.u_program.specs.declared.program.Version.TheVariants as versions
use Rattle.u_program.specs.declared.program.Kind.{Kind}
use Rattle.u_program.specs.declared.program.Destination.{Destination}
use Rattle.u_program.specs.Parts.{StatementParts}
use Rattle.u_program.specs.Limits.{IsDestination, Ascending, HasPorts, greatest_port, rank, has_list, has_otherwise, IsStatement, limits_of}
use Rattle.u_program.specs.Text.{destination_word, slash, kind_word, plain_kinds, block_line, loop_line, statement_line}
use Rattle.u_explain.specs.declared.fronts.Follows.{Follows}
use Rattle.u_explain.specs.declared.fronts.Follows.TheVariants as follows
use Rattle.u_explain.specs.Left.{Either, Behind, Read, Numbered, Among}

-- nothing more
abbrev pub EndOn : List ℕ → Type 0
EndOn t = t ≡ []

-- `statement.port`
abbrev pub port_text : ℕ → ℕ → List ℕ
port_text statement port = decimal statement ++ (46 ∷ decimal port)

-- how many destinations a list of the kind has at most
abbrev pub room_of : Kind → ℕ
room_of k = cond (has_list k) 16 0

-- a destination of a program of the version
abbrev pub IsDestinationOf : Version → Destination → Type 0
IsDestinationOf version d = IsDestination d × (d.port ≤ greatest_port version)

-- destinations of a program of the version, which ascend from above that rank
abbrev pub AscendingOf : Version → ℕ → List Destination → Type 0
AscendingOf version below ds = Ascending below ds × HasPorts version ds

-- the end of the line; or the slash, and the list for false
abbrev pub ListEnd : Version → Bool → List ℕ → Type 0
ListEnd version false t = t ≡ []
ListEnd version true t = (ds : List Destination) × AscendingOf version 0 ds × (length ds ≤ 16) × (t ≡ spaced (slash ∷ map destination_word ds))

-- destinations that ascend from above that rank, so many at most, and behind them the list's end
abbrev pub ListOn : Version → Bool → ℕ → ℕ → List ℕ → Type 0
ListOn version slashed below room t = (ds : List Destination) × AscendingOf version below ds × (length ds ≤ room) × Behind (spaced (map destination_word ds)) (ListEnd version slashed) t

-- a destination of that rank, and behind it the list without it
abbrev pub DestinationOn : Version → Bool → ℕ → ℕ → List ℕ → Type 0
DestinationOn version slashed room r t = (d : Destination) × IsDestinationOf version d × (rank d ≡ r) × Behind (32 ∷ destination_word d) (ListOn version slashed r (room - 1)) t

-- an arrow, and behind it one list or two
abbrev pub ArrowOn : Version → Bool → ℕ → List ℕ → Type 0
ArrowOn version slashed room = Behind (codes " ->") (ListOn version slashed 0 room)

-- what stands behind the word of a kind and its argument
abbrev pub ListsOn : Version → Kind → List ℕ → Type 0
ListsOn version k = ArrowOn version (has_otherwise k) (room_of k)

abbrev pub NameOn : (List ℕ → Type 0) → List ℕ → Type 0
NameOn = Read (λ name. name) IsBlock

abbrev pub IntOn : (List ℕ → Type 0) → List ℕ → Type 0
IntOn = Read signed_decimal (FitsSigned w64)

-- a constant, and its list
abbrev pub ConstantOn : Version → List ℕ → Type 0
ConstantOn version =
    Either (Behind (codes "true") (ArrowOn version false 16))
    (Either (Behind (codes "false") (ArrowOn version false 16))
    (Either (Behind (codes "@") (NameOn (ArrowOn version false 16))) (IntOn (ArrowOn version false 16))))

-- a number of arguments, from 1 to 4, and an arrow without a list
abbrev pub CountOn : List ℕ → Type 0
CountOn = Among 1 5 (Numbered (ArrowOn versions.Two false 0))

abbrev pub FollowOn : Follows → List ℕ → Type 0
FollowOn follows.End = EndOn
FollowOn (follows.List version) = ArrowOn version false 16
FollowOn (follows.Arrow version) = ArrowOn version false 0
FollowOn follows.Count = Behind (codes " ") CountOn

-- what follows the `back` of an `apply`
abbrev pub follows_back : Version → Follows
follows_back versions.One = follows.Arrow versions.One
follows_back versions.Two = follows.Count

-- one of these kinds, which have no argument, and its lists
abbrev pub PlainOn : Version → List Kind → List ℕ → Type 0
PlainOn version [] t = ⊥
PlainOn version (k ∷ ks) t = Behind (kind_word k) (ListsOn version k) t ⊎ PlainOn version ks t

-- a `param` with its place, from 2 to 4, and its list; version 1 has none
abbrev pub ParamOn : Version → List ℕ → Type 0
ParamOn versions.One t = ⊥
ParamOn versions.Two t = Behind (codes "param ") (Among 2 5 (Numbered (FollowOn (follows.List versions.Two)))) t

-- a kind with its argument, and its lists
abbrev pub KindOn : Version → List ℕ → Type 0
KindOn version =
    Either (PlainOn version plain_kinds)
    (Either (Behind (codes "const ") (ConstantOn version))
    (Either (Behind (codes "enter ") (Among 1 100 (Numbered (FollowOn (follows.List version)))))
    (Either (Behind (codes "apply ") (Among 1 1000 (Numbered (FollowOn (follows_back version))))) (ParamOn version))))

-- a region, and behind it a kind
abbrev pub RegionOn : Version → List ℕ → Type 0
RegionOn version = Among 0 100 (Numbered (Behind (codes " ") (KindOn version)))

-- `block NAME`
abbrev pub BlockOn : List ℕ → Type 0
BlockOn t = (name : List ℕ) × IsBlock name × (t ≡ block_line name)

-- `loop NUMBER HELD_BY`, of the loop of that number: region 0 or an earlier loop holds it
abbrev pub LoopOn : ℕ → List ℕ → Type 0
LoopOn n t = (h : ℕ) × (0 ≤ h) × (suc h ≤ n) × (t ≡ loop_line n h)

-- the line of a statement of that number
abbrev pub StatementOn : Version → ℕ → List ℕ → Type 0
StatementOn version n t = (s : StatementParts) × IsStatement (limits_of version) s × (t ≡ statement_line version n s)
