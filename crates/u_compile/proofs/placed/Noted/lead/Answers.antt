use Rattle.std.proofs.Common.{◌≡◌, ℕ, List, Some, length, [], ◌∷◌, ◌++◌, sym, subst}
use Rattle.u_program.specs.declared.program.Kind.TheVariants.{Switch}
use Rattle.u_compile.specs.Drafts.{DraftParts}
use Rattle.u_compile.specs.Graphs.{graph, link, draft_at}
use Rattle.u_compile.specs.Orderly.{LeavesWell}
use Rattle.u_compile.specs.Placed.{PlacedParts, placed, IsPlaced, MayCome}
use Rattle.u_compile.proofs.PlacedLaws.{link_placed}
use Rattle.u_compile.proofs.PlacedTests.{either_placed}
use Rattle.u_compile.proofs.placed.Noted.lead.Goals as goal

pub invariant_of-self : goal.invariant_of-self
invariant_of-self c =
    let s = c.self.inside in
    let g = s.graph in
    let o = c.args.from in
    let port = c.args.port in
    let here = placed g s.notes.items s.arounds.items s.tests.items s.unfinished in
    let may : MayCome c.args.self.now o (record { statement = c.len.result; port = port }) = c.in_ok-may_come.ensures c.if-not-branch.false in
    let may-here : MayCome here o (record { statement = length g.statements; port = port }) =
    subst (λ (p : PlacedParts). MayCome p o (record { statement = length g.statements; port = port })) (sym c.self.view_is)
    (subst (λ (n : ℕ). MayCome c.args.self.now o (record { statement = n; port = port })) c.len.ensures.len may) in
    let settled = subst (λ (p : PlacedParts). (d : DraftParts) → draft_at p.graph.statements (length p.graph.statements) ≡ Some d → d.kind ≡ Switch → length p.graph.statements ≡ p.unfinished) (sym c.self.view_is) (c.is_unfinished.ensures c.if-not-is_unfinished.false) in
    let leaves : LeavesWell g.statements o.statement (length g.statements) =
    subst (λ (n : ℕ). LeavesWell g.statements o.statement n) c.len.ensures.len (subst (λ (ds : List DraftParts). LeavesWell ds o.statement c.len.result) c.drafts.ensures (c.leaves_well.ensures c.if-not-leaves_well.false)) in
    let well = link_placed here c.self.invariant o port may-here leaves settled in
    let more = subst (λ (n : ℕ). IsPlaced (placed (graph g.loops g.statements (g.links ++ (link o n port ∷ []))) s.notes.items s.arounds.items s.tests.items s.unfinished)) (sym c.len.ensures.len) well in
    either_placed c.lead.result here (graph g.loops g.statements (g.links ++ (link o c.len.result port ∷ []))) c.lead.new.self c.self.invariant more c.lead.ensures
