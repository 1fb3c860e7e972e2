use Rattle.std.proofs.Common.{◌≡◌, ◌<◌, ◌+◌, ◌++◌, ◌∷◌, [], length, ap, sym, ◌∙◌, arith, Some, ℕ, List}
use Rattle.u_compile.specs.declared.graph.Link.{Link}
use Rattle.u_compile.specs.Drafts.{DraftParts}
use Rattle.u_compile.specs.Graphs.{graph, link, destinations, draft_at}
use Rattle.u_compile.specs.Fanning.{region_behind, moved}
use Rattle.u_compile.proofs.Fans.{pass_of, with_pass_is}
use Rattle.u_compile.proofs.graph.Graph.fan_out.Goals as goal

pub invariant_of-self-2 : goal.invariant_of-self-2
invariant_of-self-2 c =
    let here = graph c.self.inside.loops.items c.self.inside.statements.items c.self.inside.links.items in
    let many : 16 < length (destinations c.args.output c.self.inside.links.items) = omega (arith, c.if-count_from-le-DESTINATIONS.false, c.count_from.ensures, ap (λ (ls : List Link). length (destinations c.args.output ls)) c.deref.ensures.value) in
    let at : draft_at c.self.inside.statements.items c.args.output.statement ≡ Some c.in-Some.draft.now = sym (ap (λ (ds : List DraftParts). draft_at ds c.args.output.statement) c.deref-2.ensures.value) ∙ sym c.in-Some.ensures in
    let count : c.len-2.result ≡ length c.self.inside.statements.items = omega arith in
    let region : c.region_behind-region.result ≡ region_behind c.self.inside.loops.items c.in-Some.draft.now.region c.in-Some.draft.now.kind = cc in
    let new : c.new.result ≡ pass_of c.in-Some.draft.now here = cc in
    let statements : c.push.new.self.items ≡ c.self.inside.statements.items ++ (c.new.result ∷ []) = c.in_ok-push.ensures.items in
    let P = λ (n : ℕ) (ls : List Link). moved c.args.output 15 (n + 1) ls ++ (link c.args.output (n + 1) 1 ∷ []) in
    let links : c.in_ok-links.links.items ≡ P (length c.self.inside.statements.items) c.self.inside.links.items =
    c.in_ok-links.ensures ∙ (ap (λ (n : ℕ). P n c.deref-4.result.now) count ∙ ap (λ (ls : List Link). P (length c.self.inside.statements.items) ls) c.deref-4.ensures.value) in
    rw (statements, new, links) (with_pass_is here c.args.output c.in-Some.draft.now c.self.invariant (omega arith) at many)
