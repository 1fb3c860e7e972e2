use Rattle.u_compile.specs.Loops.{let_go}
use Rattle.u_compile.proofs.lowering.Lowering.end_loop.Goals as goal

pub returns-then-branch : goal.returns-then-branch
returns-then-branch c = let_go c.in_ok-pop.field-0 (c.in_ok-gives_in_vain.ensures.0 c.if-branch.true) c.in_ok-pop.ensures
