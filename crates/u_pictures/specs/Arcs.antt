-- The arcs of a block, and the points of the lists that its statements share.
use Rattle.std.specs.Prelude.{ℕ, suc, ◌==◌, if◌then◌else◌, List, [], ◌∷◌, ◌++◌, map}
use Rattle.u_program.specs.declared.program.Kind.{Kind}
use Rattle.u_program.specs.declared.program.Kind.TheVariants.{Enter, Leave, Apply}
use Rattle.u_program.specs.declared.program.Destination.{Destination}
use Rattle.u_program.specs.Parts.{StatementParts, BlockParts}
use Rattle.u_pictures.specs.Dot.{Shown, Node, Arc}
use Rattle.u_pictures.specs.ProgramNames.{statement_name, point_name}
use Rattle.u_pictures.specs.Styles.{exit_of, exit_attributes, join, entry, result_arc, point}
use Rattle.u_pictures.specs.declared.styles.Exit.{Exit}
use Rattle.u_pictures.specs.declared.styles.Exit.TheVariants.{OnFalse, FromPoint}
use Rattle.u_pictures.specs.Sharing.{times, shares}
use Rattle.u_pictures.specs.Clusters.{holder, around}

-- an arc from a node to a destination, which leaves so
abbrev pub arc_to : List ℕ → List ℕ → Exit → Destination → Shown
arc_to block from exit d =
    Arc from (statement_name block d.statement) (exit_attributes exit ++ (entry d.port ∷ []))

abbrev pub arcs_to : List ℕ → List ℕ → Exit → List Destination → List Shown
arcs_to block from exit to = map (arc_to block from exit) to

-- the region that the values of a statement go to
abbrev pub goes_to : List ℕ → ℕ → Kind → ℕ
goes_to loops region (Enter l) = l
goes_to loops region Leave = holder loops region
goes_to loops region k = region

-- the point of a statement's list
abbrev pub point_node : BlockParts → StatementParts → Shown
point_node b s = Node (around b.name b.loops (goes_to b.loops s.region s.kind)) (point_name b.name s.to) point

-- that point and the arcs out of it, which stand with the last statement but one that has the list
unfoldable pub the_point : BlockParts → StatementParts → List StatementParts → List Shown
the_point b s behind =
    if times s.to behind == 1
    then point_node b s ∷ arcs_to b.name (point_name b.name s.to) FromPoint s.to
    else []

-- the arc from a statement to the point of its list
abbrev pub join_arc : List ℕ → List ℕ → StatementParts → Shown
join_arc block from s = Arc from (point_name block s.to) (join s.kind)

-- the arcs of a statement that shares its list
abbrev pub shared_arcs : BlockParts → List ℕ → StatementParts → List StatementParts → List Shown
shared_arcs b from s behind = the_point b s behind ++ (join_arc b.name from s ∷ [])

-- the arcs of a statement's list
unfoldable pub list_arcs : BlockParts → List ℕ → StatementParts → List StatementParts → List Shown
list_arcs b from s behind =
    if shares b.statements s then shared_arcs b from s behind else arcs_to b.name from (exit_of s.kind) s.to

-- from an `apply` to its `back`
unfoldable pub result_arcs : List ℕ → List ℕ → Kind → List Shown
result_arcs block from (Apply back n) = Arc from (statement_name block back) result_arc ∷ []
result_arcs block from k = []

-- the arcs of a statement, behind which these stand
unfoldable pub statement_arcs : BlockParts → ℕ → StatementParts → List StatementParts → List Shown
statement_arcs b n s behind =
    list_arcs b (statement_name b.name n) s behind
    ++ (arcs_to b.name (statement_name b.name n) OnFalse s.otherwise
    ++ result_arcs b.name (statement_name b.name n) s.kind)

-- the arcs of statements, the first of which has this number
abbrev pub the_arcs : BlockParts → ℕ → List StatementParts → List Shown
the_arcs b n [] = []
the_arcs b n (s ∷ ss) = statement_arcs b n s ss ++ the_arcs b (suc n) ss
