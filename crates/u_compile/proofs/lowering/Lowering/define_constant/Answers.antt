use Rattle.std.proofs.Common.{Option, refl, ap, subst}
use Rattle.std.specs.Prelude.{IfSome}
use Rattle.u_program.specs.declared.program.Constant.{Constant}
use Rattle.u_compile.specs.Namings.{KnownParts}
use Rattle.u_compile.specs.Operands.{IsWritten, lowering}
use Rattle.u_compile.specs.Definitions.{yes, with_names}
use Rattle.u_compile.proofs.lowering.Lowering.define_constant.Goals as goal

pub returns-in_ok-alias-in-Some : goal.returns-in_ok-alias-in-Some
returns-in_ok-alias-in-Some c =
    let l = c.args.self.now in
    let written = subst (λ (o : Option Constant). IfSome o (IsWritten l.tree.now l.names.aliases.items c.in-Atom.atom)) c.in-Some.is c.in_ok-constant.ensures.some in
    yes c.in-Atom.atom c.in-Some.constant refl c.in-Atom.is written (ap (λ (k : KnownParts). with_names (lowering l) k) c.in_ok-alias-in-Some.ensures)
