-- The clusters of a run's picture: one for each context of a loop or a call, and in a loop's one for each turn.
use Rattle.std.specs.Prelude.{ℕ, Bool, false, if◌then◌else◌, List, [], ◌∷◌, ◌++◌, Option, Some, None, codes}
use Rattle.std.specs.Fmt.{decimal}
use Rattle.u_name.specs.Context.{Tree, Top, InLoop, InCall}
use Rattle.u_name.specs.NameText.{context_text}
use Rattle.u_name.specs.Name.{Activity}
use Rattle.u_program.specs.Parts.{StatementParts, BlockParts}
use Rattle.u_check.specs.Kinds.{is_leave}
use Rattle.u_rule.specs.Fits.{statement_of}
use Rattle.u_pictures.specs.Dot.{Attribute, attribute, Shown, Cluster}
use Rattle.u_pictures.specs.Names.{context_cluster, turn_cluster}
use Rattle.u_pictures.specs.declared.places.Enclosure.{Enclosure}
use Rattle.u_pictures.specs.declared.places.Enclosure.TheVariants as places

-- the turn of a loop's context
abbrev pub turn_in : Tree → ℕ → List (List ℕ)
turn_in (InLoop outer block number turn) i = turn_cluster (InLoop outer block number turn) i ∷ []
turn_in u i = []

-- the clusters of a context, outermost first: it lies in the turn from which it was entered or called
abbrev pub around_context : Tree → List (List ℕ)
around_context Top = []
around_context (InLoop outer block number turn) =
    (around_context outer ++ turn_in outer turn)
    ++ (context_cluster (InLoop outer block number turn) ∷ [])
around_context (InCall outer block statement turn) =
    (around_context outer ++ turn_in outer turn)
    ++ (context_cluster (InCall outer block statement turn) ∷ [])

-- the clusters of a turn, which only a loop's context has
abbrev pub around_turn : Tree → ℕ → List (List ℕ)
around_turn u i = around_context u ++ turn_in u i

-- whether the activity hands values out of a loop
abbrev pub is_leaving : Option StatementParts → Bool
is_leaving None = false
is_leaving (Some s) = is_leave s.kind

-- the clusters of an activity; a `leave` lies in no turn, since its box would go over all of them
unfoldable pub around : List BlockParts → Activity → List (List ℕ)
around p a =
    if is_leaving (statement_of p a.block a.statement) then around_context a.context
    else around_turn a.context a.initiation

-- the clusters of a place
abbrev pub clusters_at : Enclosure → List (List ℕ)
clusters_at (places.Turn u i) = around_turn u.now i
clusters_at (places.Outside u) = around_context u.now
clusters_at places.Nowhere = []

-- blue, round edges
abbrev pub context_look : List ℕ → List Attribute
context_look label =
    attribute (codes "label") label
    ∷ attribute (codes "labeljust") (codes "l")
    ∷ attribute (codes "style") (codes "rounded")
    ∷ attribute (codes "color") (codes "#9db8dd") ∷ []

-- filled besides
abbrev pub turn_look : List ℕ → List Attribute
turn_look label =
    attribute (codes "label") label
    ∷ attribute (codes "labeljust") (codes "l")
    ∷ attribute (codes "style") (codes "rounded,filled")
    ∷ attribute (codes "color") (codes "#d5e0f0")
    ∷ attribute (codes "fillcolor") (codes "#f4f8fd") ∷ []

-- `context CONTEXT`, `initiation INITIATION`
abbrev pub context_label : Tree → List ℕ
context_label u = codes "context " ++ context_text u

abbrev pub turn_label : ℕ → List ℕ
turn_label i = codes "initiation " ++ decimal i

abbrev pub context_shown : Tree → Shown
context_shown u = Cluster (around_context u) (context_look (context_label u))

abbrev pub turn_shown : Tree → ℕ → Shown
turn_shown u i = Cluster (around_turn u i) (turn_look (turn_label i))

-- the cluster of a context, if it has one
abbrev pub of_context : Tree → List Shown
of_context Top = []
of_context (InLoop outer block number turn) = context_shown (InLoop outer block number turn) ∷ []
of_context (InCall outer block statement turn) = context_shown (InCall outer block statement turn) ∷ []

-- that of its turn, if it is a loop's
abbrev pub of_turn : Tree → ℕ → List Shown
of_turn (InLoop outer block number turn) i = turn_shown (InLoop outer block number turn) i ∷ []
of_turn u i = []

-- those of an activity's context and turn
unfoldable pub clusters_of : List BlockParts → Activity → List Shown
clusters_of p a =
    of_context a.context
    ++ (if is_leaving (statement_of p a.block a.statement) then [] else of_turn a.context a.initiation)
