use Rattle.std.proofs.Common.{◌≡◌, List, [], ◌∷◌, ◌++◌, sym, subst}
use Rattle.u_compile.specs.declared.placed.Test.{Test}
use Rattle.u_compile.specs.Drafts.{DraftParts}
use Rattle.u_compile.specs.Placed.{placed, a_test, IsPlaced, IsUntested}
use Rattle.u_compile.proofs.PlacedLaws.{test_placed}
use Rattle.u_compile.proofs.placed.Noted.set_test.Goals as goal

pub invariant_of-self-2 : goal.invariant_of-self-2
invariant_of-self-2 c =
    let s = c.self.inside in
    let here = placed s.graph s.notes.items s.arounds.items s.tests.items s.unfinished in
    let free : IsUntested s.graph.statements c.args.region = subst (λ (ds : List DraftParts). IsUntested ds c.args.region) c.drafts.ensures (c.is_untested.ensures c.if-not-is_untested.false) in
    let more : c.push.new.self.items ≡ s.tests.items ++ (a_test c.args.region c.args.control ∷ []) = c.in_ok-push.ensures.items in
    subst (λ (ts : List Test). IsPlaced (placed s.graph s.notes.items s.arounds.items ts s.unfinished)) (sym more) (test_placed here c.len.ensures.graph c.self.invariant c.args.region c.args.control free)
