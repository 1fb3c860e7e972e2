-- The picture of a world: a space-time diagram of what happened.
use Rattle.std.specs.Prelude.{ℕ, zero, suc, ◌+◌, List, [], ◌∷◌, ◌++◌, length, Option, Some, None, codes}
use Rattle.u_pictures.specs.Dot.{Attribute, Shown, Node, Arc, text}
use Rattle.u_pictures.specs.declared.happening.Spot.{Spot}
use Rattle.u_pictures.specs.declared.happening.Deed.{Deed}
use Rattle.u_pictures.specs.declared.happening.Deed.TheVariants as deeds
use Rattle.u_pictures.specs.declared.happening.Happening.{Happening}
use Rattle.u_pictures.specs.WorldLooks.{node_name, event_look, head_look, point_look, life_look, ask_look, way_look}

-- the node of an event
abbrev pub event_node : ℕ → ℕ → Deed → Shown
event_node row k d = Node [] (node_name row k) (event_look row k d)

-- a point on the life line of a replica
abbrev pub point_node : ℕ → ℕ → Shown
point_node row k = Node [] (node_name row k) (point_look row k)

-- from a replica in a row to another one in a row
abbrev pub way : (from_row from row k : ℕ) → List Attribute → Shown
way from_row from row k look = Arc (node_name from_row from) (node_name row k) look

-- the way of a message from where it was sent, if one was
abbrev pub way_from : Option Spot → (row k n : ℕ) → List Shown
way_from None row k n = []
way_from (Some s) row k n = way s.row s.replica row k (way_look n) ∷ []

-- what came to the replica in the event, and from where: an ask, firings by a message, or by a merge
unfoldable pub ways : ℕ → ℕ → Deed → List Shown
ways row k (deeds.Answers s) = way s.row s.replica row k ask_look ∷ []
ways row k (deeds.Takes from n) = way_from from row k n
ways row k (deeds.Merges other n) = point_node row other ∷ way row other row k (way_look n) ∷ []
ways row k d = []

-- an event: its node, and the way of what came
unfoldable pub event_shown : ℕ → Happening → List Shown
event_shown row h = event_node row h.replica h.deed ∷ ways row h.replica h.deed

-- the events, the first of which is in this row
abbrev pub events_shown : ℕ → List Happening → List Shown
events_shown row [] = []
events_shown row (h ∷ hs) = event_shown row h ++ events_shown (suc row) hs

-- a replica: its name, and its life line, which ends in this row
unfoldable pub life_shown : ℕ → ℕ → List Shown
life_shown last k =
    Node [] (node_name 0 k) (head_look k)
    ∷ point_node last k
    ∷ Arc (node_name 0 k) (node_name last k) life_look ∷ []

-- so many replicas, in the order of their numbers
abbrev pub lives_shown : ℕ → ℕ → List Shown
lives_shown last zero = []
lives_shown last (suc k) = lives_shown last k ++ life_shown last (suc k)

-- the picture of what happened among so many replicas
unfoldable pub picture : ℕ → List Happening → List Shown
picture count hs = lives_shown (length hs + 1) count ++ events_shown 1 hs

-- how a world's picture is laid out, and how nodes and arcs look that do not say so
abbrev pub opening : List ℕ
opening =
    codes "digraph u {\n"
    ++ (codes "  graph [ layout=\"neato\" inputscale=\"2.8\" splines=\"line\" outputorder=\"edgesfirst\" ];\n"
    ++ (codes "  node [ shape=\"box\" style=\"rounded,filled\" fillcolor=\"#ffffff\""
    ++ (codes " fontname=\"Helvetica\" fontsize=\"10\" margin=\"0.08,0.03\" height=\"0.24\" ];\n"
    ++ codes "  edge [ arrowsize=\"0.6\" fontname=\"Helvetica\" fontsize=\"9\" ];\n")))

unfoldable pub picture_text : ℕ → List Happening → List ℕ
picture_text count hs = opening ++ (text (picture count hs) ++ codes "}\n")
