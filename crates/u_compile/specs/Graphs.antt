-- Graphs: blocks under construction. Their statements send to ports by links.
use Rattle.std.specs.Prelude.{◌≡◌, ℕ, zero, suc, ◌<◌, ◌≤◌, Bool, true, false, cond, not, ◌&&◌, ◌||◌, ◌==◌, nat_le, List, [], ◌∷◌, ◌++◌, length, Option, Some, None, slice_get}
use Rattle.std.specs.List.{AllByRecursion}
use Rattle.u_program.specs.declared.program.Destination.{Destination}
use Rattle.u_program.specs.declared.program.Kind.{Kind}
use Rattle.u_program.specs.declared.program.Kind.TheVariants.{Enter, Next}
use Rattle.u_program.specs.declared.program.Version.TheVariants.{Two}
use Rattle.u_program.specs.Limits.{IsKind, HasKind, has_list, has_otherwise, Ascending, rank, AreLoops}
use Rattle.u_check.specs.Kinds.{ports_of}
use Rattle.u_compile.specs.Drafts.{DraftParts}
use Rattle.u_compile.specs.declared.graph.Link.{Link}
use Rattle.u_compile.specs.declared.graph.Output.{Output}

-- a graph: for each of its loops the region that holds it, its statements, and its links
pub record GraphParts : Type 0 where
  pub loops : List ℕ
  pub statements : List DraftParts
  pub links : List Link

abbrev pub graph : List ℕ → List DraftParts → List Link → GraphParts
graph loops statements links = record { loops = loops; statements = statements; links = links }

abbrev pub output : ℕ → Bool → Output
output statement side = record { statement = statement; on_false = side }

abbrev pub link : Output → ℕ → ℕ → Link
link from statement port = record { from = from; to = record { statement = statement; port = port } }

abbrev pub same_output : Output → Output → Bool
same_output a b = a.statement == b.statement && cond a.on_false b.on_false (not b.on_false)

-- where the links from an output lead
abbrev pub destinations : Output → List Link → List Destination
destinations o [] = []
destinations o (l ∷ ls) = cond (same_output o l.from) (l.to ∷ destinations o ls) (destinations o ls)

-- the statement of that number, which counts from 1: none at 0
abbrev pub draft_at : List DraftParts → ℕ → Option DraftParts
draft_at ds zero = None
draft_at ds (suc n) = slice_get ds n

-- it has that list: its only one, or the one on which a `switch` sends on false
abbrev pub has_output : Option DraftParts → Bool → Bool
has_output None side = false
has_output (Some d) side = has_list d.kind && (not side || has_otherwise d.kind)

abbrev pub is_output : List DraftParts → Output → Bool
is_output ds o = has_output (draft_at ds o.statement) o.on_false

-- it has that port
abbrev pub has_port : Option DraftParts → ℕ → Bool
has_port None port = false
has_port (Some d) port = nat_le 1 port && nat_le port (ports_of d.kind)

abbrev pub is_port : List DraftParts → Destination → Bool
is_port ds to = has_port (draft_at ds to.statement) to.port

-- a link leads from an output of a statement to a port of a statement
abbrev pub is_link : List DraftParts → Link → Bool
is_link ds l = is_output ds l.from && is_port ds l.to

-- each is a link
abbrev pub AreLinks : List DraftParts → List Link → Type 0
AreLinks ds ls = AllByRecursion (λ (l : Link). is_link ds l ≡ true) ls

-- an `enter` enters one of so many loops
abbrev pub enters_one : ℕ → Kind → Bool
enters_one loops (Enter l) = nat_le l loops
enters_one loops k = true

abbrev pub is_next : Kind → Bool
is_next Next = true
is_next k = false

abbrev pub enters : Kind → Bool
enters (Enter l) = true
enters k = false

abbrev pub is_enter : Option DraftParts → Bool
is_enter None = false
is_enter (Some d) = enters d.kind

-- a statement has its own links, but a `next` those of an `enter`
abbrev pub shares_well : List DraftParts → ℕ → DraftParts → Bool
shares_well ds n d = cond (is_next d.kind) (is_enter (draft_at ds d.shares)) (d.shares == n)

-- statement n lies in a region, is of an allowed kind, and shares links as it may
pub record IsDraft (loops : List ℕ) (ds : List DraftParts) (n : ℕ) (d : DraftParts) : Type 0 where
  pub region : d.region ≤ length loops
  pub kind : IsKind d.kind
  pub known : HasKind Two d.kind
  pub enters : enters_one (length loops) d.kind ≡ true
  pub shares : shares_well ds n d ≡ true

-- Its loops and statements are as those of a block, and each link leads from an output to a port. The links from an
-- output lead to ports in ascending order.
pub record IsGraph (g : GraphParts) : Type 0 where
  pub loops : AreLoops 1 g.loops
  pub few_loops : length g.loops ≤ 99
  pub few : length g.statements ≤ 999
  pub drafts : (n : ℕ) (d : DraftParts) → draft_at g.statements n ≡ Some d → IsDraft g.loops g.statements n d
  pub links : AreLinks g.statements g.links
  pub sorted : (o : Output) → Ascending 0 (destinations o g.links)

-- all links from the output lead to ports before that one
abbrev pub AllBefore : ℕ → List Destination → Type 0
AllBefore below [] = Unit {0}
AllBefore below (d ∷ ds) = (rank d < below) × AllBefore below ds

-- and so do all that the graph has from there
abbrev pub LeadBefore : GraphParts → Output → Destination → Type 0
LeadBefore g o to = AllBefore (rank to) (destinations o g.links)

-- with one loop more, which that region holds
abbrev pub with_loop_held : GraphParts → ℕ → GraphParts
with_loop_held g region = graph (g.loops ++ (region ∷ [])) g.statements g.links

-- with one statement more
abbrev pub with_draft : GraphParts → DraftParts → GraphParts
with_draft g d = graph g.loops (g.statements ++ (d ∷ [])) g.links

-- with one link more
abbrev pub with_link_to : GraphParts → Output → Destination → GraphParts
with_link_to g o to = graph g.loops g.statements (g.links ++ (link o to.statement to.port ∷ []))
