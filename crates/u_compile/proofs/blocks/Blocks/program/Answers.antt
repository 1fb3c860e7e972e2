use Rattle.std.proofs.Common.{◌≡◌, List, true, sym, subst}
use Rattle.std.specs.Prelude.{Contains}
use Rattle.u_program.specs.Parts.{ProgramParts, BlockParts}
use Rattle.u_check.specs.Rules.{names_block, main_name, IsChecked}
use Rattle.u_compile.specs.Kept.{give_blocks}
use Rattle.u_compile.proofs.ProgramLaws.{breaks_none}
use Rattle.u_compile.proofs.blocks.Blocks.program.Goals as goal

pub returns-clause-determinate : goal.returns-clause-determinate
returns-clause-determinate c = λ b has. c.self.invariant.determinate b (subst (λ (p : ProgramParts). Contains p.blocks b) c.new.ensures has)

pub returns-clause-checked : goal.returns-clause-checked
returns-clause-checked c =
    let bs = c.self.inside.list.items in
    let main : names_block bs main_name ≡ true = subst (λ (v : List BlockParts). names_block v main_name ≡ true) (sym c.self.view_is) (c.is_whole.ensures.main c.if-not-is_whole.false) in
    let gives : give_blocks bs bs ≡ true = subst (λ (v : List BlockParts). give_blocks v v ≡ true) (sym c.self.view_is) (c.is_whole.ensures.given c.if-not-is_whole.false) in
    subst (λ (p : ProgramParts). IsChecked p.blocks) (sym c.new.ensures) (breaks_none bs c.self.invariant main gives)
