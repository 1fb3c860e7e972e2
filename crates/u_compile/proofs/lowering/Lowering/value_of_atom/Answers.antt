use Rattle.std.proofs.Common.{Option, subst}
use Rattle.std.specs.Prelude.{IfSome}
use Rattle.u_program.specs.declared.program.Constant.{Constant}
use Rattle.u_compile.specs.Operands.{IsWritten, constant}
use Rattle.u_compile.proofs.lowering.Lowering.value_of_atom.Goals as goal

pub returns-in_ok-value-in-Some-clause-atom : goal.returns-in_ok-value-in-Some-clause-atom
returns-in_ok-value-in-Some-clause-atom c =
    let l = c.args.self.now in
    let written = subst (λ (o : Option Constant). IfSome o (IsWritten l.tree.now l.names.aliases.items c.args.number)) c.in-Some.is c.in_ok-constant.ensures.some in
    constant c.in-Some.constant written c.in_ok-value-in-Some.ensures.constant
