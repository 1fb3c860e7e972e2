use Rattle.std.proofs.Common.{◌≡◌, ◌<◌, List, [], ◌∷◌, ◌++◌, length, false, sym, subst}
use Rattle.u_program.specs.Parts.{BlockParts}
use Rattle.u_check.specs.Rules.{names_block}
use Rattle.u_compile.specs.Blocks.{AreBlocks}
use Rattle.u_compile.proofs.BlockLaws.{one_more_block}
use Rattle.u_compile.proofs.blocks.Blocks.push.Goals as goal

pub invariant_of-self-2 : goal.invariant_of-self-2
invariant_of-self-2 c =
    let bs = c.self.inside.list.items in
    let b = c.args.block in
    let few : length bs < 64 = subst (λ (v : List BlockParts). length v < 64) (sym c.self.view_is) (c.takes.ensures.few c.if-not-takes.false) in
    let new : names_block bs b.name ≡ false = subst (λ (v : List BlockParts). names_block v b.name ≡ false) (sym c.self.view_is) (c.takes.ensures.name c.if-not-takes.false) in
    let more : c.push.new.self.items ≡ bs ++ (b ∷ []) = c.in_ok-push.ensures.items in
    subst AreBlocks (sym more) (one_more_block bs b c.self.invariant few c.requires.block c.requires.determinate c.requires.kept (c.takes.ensures.one c.if-not-takes.false) new)
