-- How a picture leads from one node to another, and what it shows beside clusters and statements.
use Rattle.std.specs.Prelude.{◌≡◌, ◌⊎◌, ℕ, suc, List, [], ◌∷◌, ◌++◌}
use Rattle.std.specs.List.{AllByRecursion}
use Rattle.u_program.specs.declared.program.Kind.TheVariants.{Apply}
use Rattle.u_program.specs.declared.program.Version.{Version}
use Rattle.u_program.specs.declared.program.Arguments.{Arguments}
use Rattle.u_program.specs.declared.program.Destination.{Destination}
use Rattle.u_program.specs.Parts.{StatementParts, BlockParts}
use Rattle.u_compile.specs.declared.origins.BlockOrigins.{BlockOrigins}
use Rattle.u_pictures.specs.declared.styles.Exit.{Exit}
use Rattle.u_pictures.specs.declared.styles.Exit.TheVariants.{OnFalse, FromPoint}
use Rattle.u_pictures.specs.Dot.{Attribute, Shown, Arc}
use Rattle.u_pictures.specs.ProgramNames.{statement_name, point_name}
use Rattle.u_pictures.specs.Styles.{exit_of, exit_attributes, entry, result_arc}
use Rattle.u_pictures.specs.Arcs.{arc_to, join_arc, point_node, the_arcs}
use Rattle.u_pictures.specs.ProgramPicture.{block_picture}

-- it is one of them
abbrev pub Among : {X : Type 0} → X → List X → Type 0
Among x [] = ⊥
Among x (y ∷ ys) = (x ≡ y) ⊎ Among x ys

-- it is the one of that number, if the first has the number k
abbrev pub IsNumbered : ℕ → List StatementParts → ℕ → StatementParts → Type 0
IsNumbered k [] n s = ⊥
IsNumbered k (t ∷ ts) n s = ((n ≡ k) × (s ≡ t)) ⊎ IsNumbered (suc k) ts n s

-- A picture leads from a node to a port of another: by an arc that ends there, or by an arc to a point
-- and one of the point's that ends there.
pub data Leads (shown : List Shown) (from to : List ℕ) (port : ℕ) : Type 0 where
  Directly :
      (exit : Exit) → Among (Arc from to (exit_attributes exit ++ (entry port ∷ []))) shown
      → Leads shown from to port
  Through :
      (name : List ℕ) (list : List Attribute)
      → Among (Arc from name list) shown → Among (Arc name to (entry port ∷ [])) shown
      → Leads shown from to port

-- What is shown of a block beside its clusters and statements: the arcs of its statements' lists, those
-- of a `switch` for false, from a statement to the point of its list, from that point, from an `apply` to
-- its `back`; and such points.
pub data IsOf (b : BlockParts) : Shown → Type 0 where
  ListArc :
      (n : ℕ) (s : StatementParts) (d : Destination)
      → IsNumbered 1 b.statements n s → Among d s.to
      → IsOf b (arc_to b.name (statement_name b.name n) (exit_of s.kind) d)
  OtherwiseArc :
      (n : ℕ) (s : StatementParts) (d : Destination)
      → IsNumbered 1 b.statements n s → Among d s.otherwise
      → IsOf b (arc_to b.name (statement_name b.name n) OnFalse d)
  JoinArc :
      (n : ℕ) (s : StatementParts) → IsNumbered 1 b.statements n s
      → IsOf b (join_arc b.name (statement_name b.name n) s)
  PointArc :
      (n : ℕ) (s : StatementParts) (d : Destination)
      → IsNumbered 1 b.statements n s → Among d s.to
      → IsOf b (arc_to b.name (point_name b.name s.to) FromPoint d)
  ResultArc :
      (n back : ℕ) (arguments : Arguments) (s : StatementParts)
      → IsNumbered 1 b.statements n s → s.kind ≡ Apply back arguments
      → IsOf b (Arc (statement_name b.name n) (statement_name b.name back) result_arc)
  Point : (n : ℕ) (s : StatementParts) → IsNumbered 1 b.statements n s → IsOf b (point_node b s)

-- the block's picture leads from the statement of that number to the destination
abbrev pub LeadsTo : List BlockOrigins → Version → BlockParts → ℕ → Destination → Type 0
LeadsTo origins version b n d =
    Leads (block_picture origins version b) (statement_name b.name n) (statement_name b.name d.statement) d.port

-- A block's picture leads where its statements send values, a `switch` on true and on false, and shows
-- which `back` takes the result of each `apply`; of arcs and points it shows nothing else.
pub record DrawsBlock (origins : List BlockOrigins) (version : Version) (b : BlockParts) : Type 0 where
  pub lists :
      (n : ℕ) (s : StatementParts) (d : Destination)
      → IsNumbered 1 b.statements n s → Among d s.to → LeadsTo origins version b n d
  pub for_false :
      (n : ℕ) (s : StatementParts) (d : Destination)
      → IsNumbered 1 b.statements n s → Among d s.otherwise → LeadsTo origins version b n d
  pub results :
      (n back : ℕ) (arguments : Arguments) (s : StatementParts)
      → IsNumbered 1 b.statements n s → s.kind ≡ Apply back arguments
      → Among (Arc (statement_name b.name n) (statement_name b.name back) result_arc)
      (block_picture origins version b)
  pub only : AllByRecursion (IsOf b) (the_arcs b 1 b.statements)
