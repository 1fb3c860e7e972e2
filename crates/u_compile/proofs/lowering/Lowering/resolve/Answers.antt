use Rattle.std.proofs.Common.{subst}
use Rattle.u_compile.specs.Namings.{KnownParts}
use Rattle.u_compile.specs.Operands.{IsAtom, atom, lowering, scene}
use Rattle.u_compile.proofs.OperandLaws.{goes_self}
use Rattle.u_compile.proofs.lowering.Lowering.resolve.Goals as goal

pub returns-in-Value-clause-goes_on : goal.returns-in-Value-clause-goes_on
returns-in-Value-clause-goes_on c = goes_self (lowering c.args.self.now)

pub returns-in_ok-value-in-Atom-clause-is : goal.returns-in_ok-value-in-Atom-clause-is
returns-in_ok-value-in-Atom-clause-is c =
    let s = scene c.args.self.now in
    let node = c.in-Atom.number in
    atom node c.in-Atom.is (subst (λ (k : KnownParts). IsAtom (record s { names = k }) c.value_of_atom.new.self.drawing node c.in_ok-value-in-Atom.value) c.set_place.ensures c.in_ok-value-in-Atom.ensures.atom)
