use Rattle.std.proofs.Common.{sym, subst}
use Rattle.u_program.specs.Parts.{ProgramParts}
use Rattle.u_determinate.specs.Determinate.{IsDeterminate}
use Rattle.u_compile.proofs.compiling.compiled_of.Goals as goal

pub new-requires-clause-determinate : goal.new-requires-clause-determinate
new-requires-clause-determinate c = subst (λ (p : ProgramParts). IsDeterminate p.blocks) (sym c.checked_of-checked.ensures) c.in_ok-program.ensures.determinate
