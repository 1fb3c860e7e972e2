use Rattle.std.proofs.Common.{◌≡◌, ℕ, Some, sym, ap, subst}
use Rattle.u_check.specs.Kinds.{back_named}
use Rattle.u_compile.specs.Drafts.{DraftParts}
use Rattle.u_compile.specs.Graphs.{draft_at}
use Rattle.u_compile.specs.Placed.{PlacedParts, IsPlaced, finished}
use Rattle.u_compile.proofs.PlacedTests.{call_finished}
use Rattle.u_compile.proofs.placed.Noted.finish_call.Goals as goal

pub invariant_of-self : goal.invariant_of-self
invariant_of-self c =
    let now = c.args.self.now in
    let is : IsPlaced now = subst IsPlaced c.self.view_is c.self.invariant in
    let same : c.self.inside.unfinished ≡ now.unfinished = ap (λ (p : PlacedParts). p.unfinished) c.self.view_is in
    let names = subst (λ (n : ℕ). (d : DraftParts) → draft_at now.graph.statements n ≡ Some d → back_named d.kind ≡ Some c.args.back) same (c.names.ensures c.if-not-names.false) in
    subst (λ (p : PlacedParts). IsPlaced (finished p)) (sym c.self.view_is) (call_finished now is c.args.back names (c.is_called.ensures c.if-not-is_called.false))
