use Rattle.std.proofs.Common.{Bool, true, subst}
use Rattle.u_compile.specs.Trees.{IsWanted}
use Rattle.u_compile.proofs.TreeLaws.{wanted_one}
use Rattle.u_compile.proofs.lowering.Lowering.is_select.Goals as goal

pub returns : goal.returns
returns c =
    let t = c.args.self.now.tree.now in
    let w = c.in_ok-wanted.wanted in
    (λ e. (c.is_choice.ensures.0 c.if-not-is_choice.false, subst (λ (b : Bool). IsWanted t c.args.whole b) e c.in_ok-wanted.ensures), λ s. wanted_one t c.args.whole w true c.in_ok-wanted.ensures s.1)
