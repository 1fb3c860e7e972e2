-- Pictures, and their texts in DOT, the language of Graphviz.
use Rattle.std.specs.Prelude.{ℕ, suc, ◌==◌, ◌||◌, if◌then◌else◌, List, [], ◌∷◌, ◌++◌, codes}

-- the bytes of a quoted text: `"` (34) and `\` (92) stand behind a `\`
abbrev pub escaped : List ℕ → List ℕ
escaped [] = []
escaped (b ∷ bs) = (if b == 34 || b == 92 then 92 ∷ b ∷ [] else b ∷ []) ++ escaped bs

-- the text between quotes
unfoldable pub quoted : List ℕ → List ℕ
quoted text = 34 ∷ (escaped text ++ (34 ∷ []))

-- what is said of a node, an arc or a cluster
pub record Attribute : Type 0 where
  pub key : List ℕ
  pub value : List ℕ

abbrev pub attribute : List ℕ → List ℕ → Attribute
attribute key value = record { key = key; value = value }

-- ` KEY="VALUE"`
unfoldable pub attribute_text : Attribute → List ℕ
attribute_text a = 32 ∷ (a.key ++ (61 ∷ quoted a.value))

abbrev pub attributes_text : List Attribute → List ℕ
attributes_text [] = []
attributes_text (a ∷ list) = attribute_text a ++ attributes_text list

-- ` [ KEY="VALUE".. ];`, of attributes that have this text
unfoldable pub bracketed : List ℕ → List ℕ
bracketed text = codes " [" ++ (text ++ codes " ];")

abbrev pub listed : List Attribute → List ℕ
listed list = bracketed (attributes_text list)

-- What a picture shows. A cluster and a node stand within clusters, given by their names, outermost
-- first; the last of a cluster's is its own. A node has a name, an arc those of the nodes that it joins.
pub data Shown : Type 0 where
  Cluster : List (List ℕ) → List Attribute → Shown
  Node : List (List ℕ) → List ℕ → List Attribute → Shown
  Arc : List ℕ → List ℕ → List Attribute → Shown

-- `subgraph "NAME" { `
unfoldable pub opened : List ℕ → List ℕ
opened name = codes "subgraph " ++ (quoted name ++ codes " { ")

abbrev pub all_opened : List (List ℕ) → List ℕ
all_opened [] = []
all_opened (name ∷ names) = opened name ++ all_opened names

abbrev pub all_closed : List (List ℕ) → List ℕ
all_closed [] = []
all_closed (name ∷ names) = codes " }" ++ all_closed names

-- the text within these clusters
abbrev pub within : List (List ℕ) → List ℕ → List ℕ
within names text = all_opened names ++ (text ++ all_closed names)

-- `graph [ .. ];` within the cluster, `"NAME" [ .. ];`, `"NAME" -> "NAME" [ .. ];`
abbrev pub shown_text : Shown → List ℕ
shown_text (Cluster names list) = within names (codes "graph" ++ listed list)
shown_text (Node names name list) = within names (quoted name ++ listed list)
shown_text (Arc from to list) = quoted from ++ (codes " -> " ++ (quoted to ++ listed list))

-- its line, two spaces before it
unfoldable pub shown_line : Shown → List ℕ
shown_line s = codes "  " ++ (shown_text s ++ (10 ∷ []))

-- the lines of what is shown
abbrev pub text : List Shown → List ℕ
text [] = []
text (s ∷ ss) = shown_line s ++ text ss

-- what is shown for each of some things, the first of which has this number
abbrev pub numbered : {X : Type 0} → (ℕ → X → Shown) → ℕ → List X → List Shown
numbered show n [] = []
numbered show n (x ∷ xs) = show n x ∷ numbered show (suc n) xs

-- how a picture is laid out, and how nodes and arcs look that do not say so
abbrev pub opening : List ℕ
opening =
    codes "digraph u {\n"
    ++ (codes "  graph [ rankdir=\"TB\" newrank=\"true\" nodesep=\"0.35\" ranksep=\"0.45\""
    ++ (codes " fontname=\"Helvetica\" fontsize=\"11\" ];\n"
    ++ (codes "  node [ shape=\"Mrecord\" style=\"filled\" fontname=\"Helvetica\" fontsize=\"11\""
    ++ (codes " margin=\"0.09,0.04\" height=\"0.3\" ];\n"
    ++ codes "  edge [ arrowsize=\"0.6\" fontname=\"Helvetica\" fontsize=\"9\" ];\n"))))

-- the text of a picture: a line for each thing that it shows, in its order
unfoldable pub picture_text : List Shown → List ℕ
picture_text picture = opening ++ (text picture ++ codes "}\n")
