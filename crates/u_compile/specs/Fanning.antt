-- Lists of at most 16 destinations: a `pass` behind an output takes over some of its links.
use Rattle.std.specs.Prelude.{◌≡◌, ℕ, zero, suc, ◌+◌, ◌<◌, ◌≤◌, false, cond, List, [], ◌∷◌, ◌++◌, length, Option, Some, None, slice_get, unwrap_or, nat_le}
use Rattle.u_program.specs.declared.program.Kind.{Kind}
use Rattle.u_program.specs.declared.program.Kind.TheVariants.{Enter, Leave, Pass}
use Rattle.u_check.specs.Kinds.{is_last}
use Rattle.u_compile.specs.Drafts.{DraftParts, draft}
use Rattle.u_program.specs.declared.program.Version.TheVariants.{Two}
use Rattle.u_program.specs.Parts.{BlockParts}
use Rattle.u_program.specs.Limits.{IsBlockOf, limits_of}
use Rattle.u_compile.specs.declared.graph.Link.{Link}
use Rattle.u_compile.specs.declared.graph.Output.{Output}
use Rattle.u_compile.specs.Graphs.{GraphParts, graph, output, link, same_output, destinations, draft_at}
use Rattle.u_compile.specs.Blocks.{block_of}

-- the region that holds the loop of that number: of no loop the outer one
abbrev pub holder : List ℕ → ℕ → ℕ
holder loops zero = 0
holder loops (suc n) = unwrap_or (slice_get loops n) 0

-- where what a statement of that region and kind sends arrives: an `enter` sends into its loop, a `leave` out of it
abbrev pub region_behind : List ℕ → ℕ → Kind → ℕ
region_behind loops region (Enter l) = l
region_behind loops region Leave = holder loops region
region_behind loops region k = region

-- all links from the output but the first so many come from that statement
abbrev pub moved : Output → ℕ → ℕ → List Link → List Link
moved o k behind [] = []
moved o zero behind (l ∷ ls) = cond (same_output o l.from) (record l { from = output behind false } ∷ moved o zero behind ls) (l ∷ moved o zero behind ls)
moved o (suc k) behind (l ∷ ls) = cond (same_output o l.from) (l ∷ moved o k behind ls) (l ∷ moved o (suc k) behind ls)

-- With one `pass` more, behind the output of that statement: the first 15 links from the output stay, the 16th one
-- leads to the `pass`, and the others come from it.
abbrev pub with_pass : Output → DraftParts → GraphParts → GraphParts
with_pass o d g =
    let pass = length g.statements + 1 in
    graph g.loops (g.statements ++ (draft (region_behind g.loops d.region d.kind) Pass pass ∷ [])) (moved o 15 pass g.links ++ (link o pass 1 ∷ []))

-- A graph that some `pass` statements make of another: each stands behind an output that had more than 16 links, and is
-- not that of a `last`.
pub data FansOut (g : GraphParts) : GraphParts → Type 0 where
  none : FansOut g g
  one_more : (h : GraphParts) (o : Output) (d : DraftParts) → FansOut g h → draft_at h.statements o.statement ≡ Some d → 16 < length (destinations o h.links) → is_last d.kind ≡ false → FansOut g (with_pass o d h)

-- the output does not have more than 16 links where it is that of a `last`
abbrev pub IsNoFullLast : Output → GraphParts → Type 0
IsNoFullLast o g = (d : DraftParts) → draft_at g.statements o.statement ≡ Some d → 16 < length (destinations o g.links) → is_last d.kind ≡ false

-- no output has more than 16 links
abbrev pub AreFew : List Link → Type 0
AreFew ls = (o : Output) → length (destinations o ls) ≤ 16

-- the graph with one `pass` more behind that output of that statement, where it has more than 16 links
abbrev pub fanned_at : Output → Option DraftParts → GraphParts → GraphParts
fanned_at o None g = g
fanned_at o (Some d) g = cond (nat_le (length (destinations o g.links)) 16) g (with_pass o d g)

abbrev pub fanned : Output → GraphParts → GraphParts
fanned o g = fanned_at o (draft_at g.statements o.statement) g

-- The block with that name of a graph, of which no list has more than 16 destinations: it lies within the limits of a
-- block of version 2.
pub record IsFinished (name : List ℕ) (g : GraphParts) (b : BlockParts) : Type 0 where
  pub fanned : GraphParts
  pub fans : FansOut g fanned
  pub few : AreFew fanned.links
  pub block : b ≡ block_of name fanned
  pub within : IsBlockOf (limits_of Two) b
