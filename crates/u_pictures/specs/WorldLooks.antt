-- The names, places and looks of what a world's picture shows. Places are known: a column for each replica,
-- a row for each event, and the replicas' names in row 0.
use Rattle.std.specs.Prelude.{ℕ, ◌*◌, ◌==◌, if◌then◌else◌, List, [], ◌∷◌, ◌++◌, codes}
use Rattle.std.specs.Fmt.{decimal}
use Rattle.u_pictures.specs.Dot.{Attribute, attribute}
use Rattle.u_pictures.specs.declared.happening.Deed.{Deed}
use Rattle.u_pictures.specs.declared.happening.Deed.TheVariants as deeds
use Rattle.u_pictures.specs.Words.{new_words, words, full_words}

-- the node of a replica in a row: `ROW.REPLICA`
abbrev pub node_name : ℕ → ℕ → List ℕ
node_name row k = decimal row ++ (46 ∷ decimal k)

-- its place: columns are 11 units apart, rows one
abbrev pub place : ℕ → ℕ → List ℕ
place row k = decimal (11 * k) ++ (codes ",-" ++ (decimal row ++ (33 ∷ [])))

abbrev pub placed : ℕ → ℕ → Attribute
placed row k = attribute (codes "pos") (place row k)

-- pale blue where it fires, red where it starts again, else white
abbrev pub deed_look : Deed → List Attribute
deed_look (deeds.Fires a) = attribute (codes "fillcolor") (codes "#dbe7f6") ∷ []
deed_look (deeds.Restarts had has) =
    attribute (codes "fillcolor") (codes "#f4c7c3")
    ∷ attribute (codes "color") (codes "#c62828") ∷ []
deed_look d = attribute (codes "fillcolor") (codes "#ffffff") ∷ []

-- what is said of the node of an event
abbrev pub event_look : ℕ → ℕ → Deed → List Attribute
event_look row k d =
    placed row k
    ∷ attribute (codes "tooltip") (full_words d)
    ∷ attribute (codes "label") (words d)
    ∷ deed_look d

-- `replica K`, above its column
abbrev pub head_label : ℕ → List ℕ
head_label k = codes "replica " ++ decimal k

abbrev pub head_look : ℕ → List Attribute
head_look k =
    placed 0 k
    ∷ attribute (codes "label") (head_label k)
    ∷ attribute (codes "fontsize") (codes "12")
    ∷ attribute (codes "fillcolor") (codes "#d9ead3") ∷ []

-- a point on the life line of a replica
abbrev pub point_look : ℕ → ℕ → List Attribute
point_look row k =
    placed row k
    ∷ attribute (codes "shape") (codes "point")
    ∷ attribute (codes "width") (codes "0.06") ∷ []

-- a life line
abbrev pub life_look : List Attribute
life_look =
    attribute (codes "arrowhead") (codes "none")
    ∷ attribute (codes "color") (codes "#999999") ∷ []

-- the way of an ask
abbrev pub ask_look : List Attribute
ask_look =
    attribute (codes "style") (codes "dashed")
    ∷ attribute (codes "color") (codes "#3569b0") ∷ []

abbrev pub nothing_look : List Attribute
nothing_look =
    attribute (codes "style") (codes "dotted")
    ∷ attribute (codes "color") (codes "#3569b0") ∷ []

abbrev pub something_look : List ℕ → List Attribute
something_look label =
    attribute (codes "label") label
    ∷ attribute (codes "style") (codes "bold")
    ∷ attribute (codes "color") (codes "#8db4e8")
    ∷ attribute (codes "fontcolor") (codes "#0b2a52") ∷ []

-- the way of firings, so many of which were new: dotted where none was, else bold, with the words
abbrev pub way_look : ℕ → List Attribute
way_look n = if n == 0 then nothing_look else something_look (new_words n)
