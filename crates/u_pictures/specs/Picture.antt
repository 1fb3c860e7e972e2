-- The picture of a run: a node for each firing and each entry, and an arc for each need and each gift.
use Rattle.std.specs.Prelude.{ℕ, Bool, true, false, not, ◌||◌, if◌then◌else◌, List, [], ◌∷◌, ◌++◌, map, Option, Some, None, codes}
use Rattle.std.specs.List.{flat_map}
use Rattle.std.specs.Ordering.{eq_by_cmp}
use Rattle.u_name.specs.Name.{Activity}
use Rattle.u_program.specs.Parts.{StatementParts, BlockParts, ProgramParts}
use Rattle.u_check.specs.Jobs.{JobParts}
use Rattle.u_rule.specs.Fits.{statement_of}
use Rattle.u_rule.specs.EntryOrder.{entry_cmp}
use Rattle.u_rule.specs.FiringText.{firing_text}
use Rattle.u_rule.specs.Rule.{start_of, needs_of, gives_of}
use Rattle.u_rule.specs.declared.firing.Firing.{Firing}
use Rattle.u_rule.specs.declared.entry.Entry.{Entry}
use Rattle.u_rule.specs.declared.entry.Entry.TheVariants as entries
use Rattle.u_pictures.specs.Dot.{Attribute, attribute, Shown, Node, Arc, text}
use Rattle.u_compile.specs.declared.origins.BlockOrigins.{BlockOrigins}
use Rattle.u_pictures.specs.Names.{entry_name}
use Rattle.u_pictures.specs.Tips.{firing_tip, entry_tip}
use Rattle.u_pictures.specs.Places.{around_context, around, clusters_of}
use Rattle.u_pictures.specs.Looks.{firing_look, entry_look, meet, need_look, give_look}

-- the statement that an activity executes
abbrev pub executed : List BlockParts → Activity → Option StatementParts
executed p a = statement_of p a.block a.statement

-- the node of a firing
abbrev pub firing_node : List BlockOrigins → ProgramParts → Firing → Shown
firing_node origins p f =
    Node (around p.blocks f.activity) (firing_text f)
    (firing_look (firing_tip origins f) p.version (executed p.blocks f.activity) f)

-- before it the clusters that it lies in
unfoldable pub firing_lines : List BlockOrigins → ProgramParts → Firing → List Shown
firing_lines origins p f = clusters_of p.blocks f.activity ++ (firing_node origins p f ∷ [])

-- a token lies where its activity does, and a cell where its structure was made
unfoldable pub entry_place : List BlockParts → Entry → List (List ℕ)
entry_place p (entries.Token t) = around p t.activity
entry_place p (entries.Write w) = around_context w.cell.name.context
entry_place p (entries.Fault x) = around p x.activity
entry_place p (entries.Answer v) = []

-- whether it is the token that the job begins with
unfoldable pub is_start : JobParts → Entry → Bool
is_start job e = eq_by_cmp entry_cmp e (start_of job)

abbrev pub entry_attributes : List BlockOrigins → JobParts → Bool → Entry → List Attribute
entry_attributes origins job meets e =
    attribute (codes "tooltip") (entry_tip origins e) ∷ entry_look (is_start job e) meets e

abbrev pub meets_one : Option Entry → Entry → Bool
meets_one None e = false
meets_one (Some f) e = meet f e

abbrev pub first : List Entry → Option Entry
first [] = None
first (e ∷ es) = Some e

-- of the writes in one cell the first has the node
abbrev pub is_drawn : Option Entry → Entry → Bool
is_drawn before (entries.Write w) = not (meets_one before (entries.Write w))
is_drawn before e = true

-- the clusters of a token, in which no firing may lie yet
abbrev pub entry_clusters : List BlockParts → Entry → List Shown
entry_clusters p (entries.Token t) = clusters_of p t.activity
entry_clusters p e = []

abbrev pub entry_node : List BlockOrigins → JobParts → Bool → Entry → Shown
entry_node origins job meets e =
    Node (entry_place job.program.blocks e) (entry_name e) (entry_attributes origins job meets e)

-- of an entry that has this one before it and these behind it, whether another one lies in its place; none if it has
-- no node
unfoldable pub standing : Option Entry → Entry → List Entry → Option Bool
standing before e behind =
    if is_drawn before e then Some (meets_one before e || meets_one (first behind) e) else None

-- the node of an entry that stands so, and before the node its clusters
abbrev pub entry_lines : List BlockOrigins → JobParts → Option Bool → Entry → List Shown
entry_lines origins job None e = []
entry_lines origins job (Some meets) e =
    entry_clusters job.program.blocks e ++ (entry_node origins job meets e ∷ [])

-- the lines of entries in order, behind this one
abbrev pub nodes_from : List BlockOrigins → JobParts → Option Entry → List Entry → List Shown
nodes_from origins job before [] = []
nodes_from origins job before (e ∷ es) =
    entry_lines origins job (standing before e es) e ++ nodes_from origins job (Some e) es

-- an arc for each entry that a firing needs, and for each that it gives
abbrev pub need_arc : Firing → Entry → Shown
need_arc f e = Arc (entry_name e) (firing_text f) (need_look e)

abbrev pub give_arc : List BlockParts → Firing → Entry → Shown
give_arc p f e = Arc (firing_text f) (entry_name e) (give_look (executed p f.activity) e)

unfoldable pub firing_arcs : JobParts → Firing → List Shown
firing_arcs job f = map (need_arc f) (needs_of f) ++ map (give_arc job.program.blocks f) (gives_of job f)

-- the firings of a run, the entries that they hold, in order, and the arcs between both
unfoldable pub picture : List BlockOrigins → JobParts → List Firing → List Entry → List Shown
picture origins job fs es =
    flat_map (firing_lines origins job.program) fs
    ++ (nodes_from origins job None es ++ flat_map (firing_arcs job) fs)

-- how a run's picture is laid out, and how nodes and arcs look that do not say so
abbrev pub opening : List ℕ
opening =
    codes "digraph u {\n"
    ++ (codes "  graph [ rankdir=\"TB\" newrank=\"true\" nodesep=\"0.18\" ranksep=\"0.2\""
    ++ (codes " fontname=\"Helvetica\" fontsize=\"11\" ];\n"
    ++ (codes "  node [ shape=\"Mrecord\" style=\"filled\" fontname=\"Helvetica\" fontsize=\"10\""
    ++ (codes " margin=\"0.07,0.03\" height=\"0.25\" ];\n"
    ++ codes "  edge [ arrowsize=\"0.5\" color=\"#555555\" ];\n"))))

unfoldable pub picture_text : List BlockOrigins → JobParts → List Firing → List Entry → List ℕ
picture_text origins job fs es = opening ++ (text (picture origins job fs es) ++ codes "}\n")
